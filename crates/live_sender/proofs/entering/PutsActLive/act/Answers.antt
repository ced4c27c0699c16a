use Rattle.psi_bundle.specs.declared.history.Call.TheVariants as Call
use Rattle.sender_core.specs.Answers.{answer_of_put}
use Rattle.live_sender.proofs.BookCalls.{does-call}
use Rattle.live_sender.proofs.entering.PutsActLive.act.Goals as goal

pub returns-clause-does : goal.returns-clause-does
returns-clause-does g c =
    does-call g.C.Cached.contents g.C.Cached.is_under answer_of_put (Call.Put c.args.self.now.tag c.args.self.now.label) c.live.inside.book c.args.live.now c.put-answer.new.self c.put-answer.result c.live.view_is c.know.ensures c.put-answer.ensures.stepped
    c.put-answer.ensures.place c.put-answer.ensures.cause c.put-answer.ensures.kept
