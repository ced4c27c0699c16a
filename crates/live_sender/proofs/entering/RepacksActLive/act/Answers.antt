use Rattle.psi_bundle.specs.declared.history.Call.TheVariants as Call
use Rattle.sender_core.specs.Answers.{answer_of_repack}
use Rattle.live_sender.proofs.BookCalls.{does-call}
use Rattle.live_sender.proofs.entering.RepacksActLive.act.Goals as goal

pub returns-clause-does : goal.returns-clause-does
returns-clause-does g c =
    does-call g.C.Cached.contents g.C.Cached.is_under answer_of_repack (Call.Repack c.args.self.now.view.now.row c.args.self.now.view.now.from) c.live.inside.book c.args.live.now c.repack-answer.new.self c.repack-answer.result c.live.view_is c.know.ensures c.repack-answer.ensures.stepped
    c.repack-answer.ensures.place c.repack-answer.ensures.cause c.repack-answer.ensures.kept
