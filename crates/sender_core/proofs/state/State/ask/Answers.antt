use Rattle.std.proofs.lemmas.Result.{on_ok_weaker}
use Rattle.sender_core.specs.States.{contents_of}
use Rattle.sender_core.proofs.Entering.{seen}
use Rattle.sender_core.proofs.state.State.ask.Goals as goal

pub returns-clause-stepped : goal.returns-clause-stepped
returns-clause-stepped g c = on_ok_weaker c.note.result (seen (contents_of c.args.self.now) (contents_of c.note.new.self)) c.note.ensures.noted
