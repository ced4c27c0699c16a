use Rattle.std.proofs.Common.{◌∙◌, List, ap, sym, nat_eq, length}
use Rattle.psi_frames.specs.declared.frame.Frame.{Frame}
use Rattle.psi_serve.proofs.one_set.OneSetServer.is_empty.Goals as goal

pub returns : goal.returns
returns g c = λ rounds sents waiting state. ap (λ (w : List Frame). nat_eq (length w) 0) (sym state.0) ∙ sym c.is_empty.ensures
