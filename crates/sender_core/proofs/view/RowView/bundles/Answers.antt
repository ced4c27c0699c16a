use Rattle.std.proofs.Common.{◌≡◌, ◌∙◌, ap, List, [], ◌∷◌, refl}
use Rattle.psi_bundle.specs.declared.cached.Shown.{Shown}
use Rattle.psi_bundle.specs.Versions.{Row}
use Rattle.psi_bundle.specs.Shows.{shown_row}
use Rattle.sender_core.specs.Kept.{RowSight, stamped_of, row_of}
use Rattle.sender_core.specs.Shown.{kept_of, kept_of_row}
use Rattle.sender_core.proofs.view.RowView.bundles.Goals as goal

shown-row : {C : Type 0} (us : List (Shown C)) → shown_row us ≡ row_of (kept_of_row us)
shown-row [] = refl
shown-row (u ∷ us) = ap (λ (row : Row). stamped_of (kept_of u) ∷ row) (shown-row us)

pub returns-clause-row : goal.returns-clause-row
returns-clause-row g c = ap shown_row c.deref.ensures.value ∙ shown-row c.self.inside.shown.items ∙ ap (λ (v : RowSight g.row.C.Denot). row_of v.bundles) c.self.view_is
