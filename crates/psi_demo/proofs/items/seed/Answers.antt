use Rattle.std.proofs.Common.{List, ℕ, [], ◌∷◌, ◌++◌, ap, ◌∙◌}
use Rattle.sha2.specs.Sha256.{sha256}
use Rattle.psi_demo.specs.Items.{demo_seed}
use Rattle.psi_demo.proofs.items.seed.Goals as goal

pub returns : goal.returns
unfolding demo_seed
returns c = c.digest.ensures ∙ ap (λ (b : List ℕ). sha256 (b ++ c.args.ask ∷ [])) (c.copy_from_slice.ensures.after ∙ c.to_be_bytes.ensures)
