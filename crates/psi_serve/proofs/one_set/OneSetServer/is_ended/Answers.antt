use Rattle.std.proofs.Common.{◌∙◌, ap, sym}
use Rattle.psi_frames.specs.Rounds.{is_full}
use Rattle.psi_serve.proofs.one_set.OneSetServer.is_ended.Goals as goal

pub returns : goal.returns
returns g c = λ rounds sents waiting state. ap is_full (sym state.0) ∙ sym c.is_full.ensures
