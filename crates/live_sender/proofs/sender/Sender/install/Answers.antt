use Rattle.std.specs.Prelude.{Some}
use Rattle.sender_core.specs.Tries.{job_of}
use Rattle.live_sender.proofs.Trying.{named-of}
use Rattle.live_sender.proofs.sender.Sender.install.Goals as goal

pub returns-clause-named : goal.returns-clause-named
returns-clause-named g c = λ z e.
    let t = c.turn.ensures.act in
    named-of t.base z c.args.seat.now.knows.base c.turn.new.seat.knows.seen (job_of c.args.task.now) (Some c.args.cache) c.turn.result.0 t.same_base e t.done.1
