use Rattle.std.proofs.Common.{refl}
use Rattle.psi_bundle.specs.Labels.{padded_by}
use Rattle.psi_bundle.proofs.label.Label.of.Goals as goal

pub invariant_of-result : goal.invariant_of-result
invariant_of-result c = padded_by _ _ _ c.copy_from_slice.ensures.after refl c.if-bytes-gt40.false
