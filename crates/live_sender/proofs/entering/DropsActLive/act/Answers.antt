use Rattle.psi_bundle.specs.declared.history.Call.TheVariants as Call
use Rattle.sender_core.specs.Answers.{answer_of_drop}
use Rattle.live_sender.proofs.BookCalls.{does-call}
use Rattle.live_sender.proofs.entering.DropsActLive.act.Goals as goal

pub returns-clause-does : goal.returns-clause-does
returns-clause-does g c =
    does-call g.C.Cached.contents g.C.Cached.is_under answer_of_drop (Call.Drop c.args.self.now.tag) c.live.inside.book c.args.live.now c.drop_tag-answer.new.self c.drop_tag-answer.result c.live.view_is c.know.ensures c.drop_tag-answer.ensures.stepped
    c.drop_tag-answer.ensures.place c.drop_tag-answer.ensures.cause c.drop_tag-answer.ensures.kept
