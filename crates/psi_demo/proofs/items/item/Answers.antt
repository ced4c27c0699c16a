use Rattle.std.proofs.Common.{refl, ◌∙◌}
use Rattle.psi_demo.specs.Items.{demo_item}
use Rattle.psi_demo.proofs.items.item.Goals as goal

pub returns : goal.returns
unfolding demo_item
returns c = rw (c.copy_from_slice.ensures.after ∙ c.to_be_bytes.ensures, c.copy_from_slice-2.ensures.after ∙ c.to_be_bytes-2.ensures) refl
