use Rattle.psi_bundle.specs.declared.history.Call.TheVariants as Call
use Rattle.psi_bundle.specs.declared.history.Answer.TheVariants.{Seen}
use Rattle.live_sender.proofs.BookCalls.{asked, does-call}
use Rattle.live_sender.proofs.entering.AsksActLive.act.Goals as goal

pub returns-clause-does : goal.returns-clause-does
returns-clause-does g c = (
  does-call g.C.Cached.contents g.C.Cached.is_under (λ _. Seen) Call.Ask c.live.inside.book c.args.live.now c.ask-answer.new.self c.ask-answer.result c.live.view_is c.know-2.ensures c.ask-answer.ensures.stepped
      c.ask-answer.ensures.place c.ask-answer.ensures.cause c.ask-answer.ensures.kept,
  asked g.C.Cached.contents g.C.Cached.is_under c.live.inside.book c.args.live.now c.ask-answer.new.self c.ask-answer.result c.live.view_is c.know.ensures c.ask-answer.ensures.stepped c.ask-answer.ensures.shown
      c.ask-answer.ensures.place,
)
