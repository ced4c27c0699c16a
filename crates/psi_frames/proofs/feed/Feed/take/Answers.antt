use Rattle.std.proofs.Common.{ap, subst, ◌∙◌, refl}
use Rattle.std.proofs.lemmas.Result.{on_ok_weaker}
use Rattle.psi_frames.specs.Feeds.{Feeding}
use Rattle.psi_frames.specs.Cuts.{TakesIn, fault_met}
use Rattle.psi_frames.proofs.Feeding.{takes-in}
use Rattle.psi_frames.proofs.feed.Feed.take.Goals as goal

took : (c : goal.After-answer)
    → TakesIn c.args.self.now (record { replies = c.self.inside.replies; ready = c.take.new.ready.items; rest = c.take.new.begun; fault = fault_met c.in_ok-fault.fault }) c.args.piece.now
took c =
    let is = c.self.inside in
    let now : Feeding = record { replies = is.replies; ready = c.take.new.ready.items; rest = c.take.new.begun; fault = fault_met c.in_ok-fault.fault } in
    let was : Feeding = record { replies = is.replies; ready = is.ready.items; rest = is.begun; fault = fault_met is.fault } in
    subst (λ (f : Feeding). TakesIn f now c.args.piece.now) c.self.view_is
    (takes-in was now c.args.piece.now (ap (λ (f : Feeding). f.fault) c.self.view_is ∙ c.requires) refl c.in_ok-fault.ensures.ok)

pub returns-clause-fed : goal.returns-clause-fed
returns-clause-fed c = on_ok_weaker c.answer.result (λ _. took c) c.answer.ensures.ok

pub returns-clause-fed_faulty : goal.returns-clause-fed_faulty
returns-clause-fed_faulty c = λ _ _. took c
