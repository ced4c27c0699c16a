use Rattle.std.proofs.Common.{List, ℕ, [], ◌∷◌, ◌++◌, ap, ◌∙◌, take}
use Rattle.sha2.specs.Sha256.{sha256}
use Rattle.psi_demo.specs.Items.{demo_label}
use Rattle.psi_demo.proofs.items.label.Goals as goal

pub returns : goal.returns
unfolding demo_label
returns c =
    c.copy_from_slice-2.ensures.after ∙ ap (take 10) (c.digest-digest.ensures ∙ ap (λ (b : List ℕ). sha256 (b ++ 76 ∷ [])) (c.copy_from_slice.ensures.after ∙ c.item.ensures))
