use Rattle.live_sender.proofs.Books.{given-of}
use Rattle.live_sender.proofs.sender.Sender.fetch_bare.Goals as goal

pub returns-clause-given : goal.returns-clause-given
returns-clause-given g c = λ z e.
    let t = c.turn.ensures.act in
    given-of g.C.Cached.contents g.C.Cached.is_under t.base z c.args.seat.now.knows.base c.turn.new.seat.knows.seen c.args.skip c.turn.result.0 t.same_base e t.done.1
