use Rattle.std.proofs.Common.{◌∙◌, ◌++◌, ◌∷◌, [], List, ap}
use Rattle.psi_frames.specs.declared.frame.Frame.{Frame}
use Rattle.psi_serve.proofs.one_set.OneSetServer.push.Goals as goal

pub returns-clause-pushed : goal.returns-clause-pushed
returns-clause-pushed g c = λ rounds sents waiting state. (c.in_ok-push.ensures.pushed ∙ ap (λ (w : List Frame). w ++ c.args.frame ∷ []) state.0, state.1)
