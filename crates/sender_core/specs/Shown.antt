-- Bundles as they are shown, read as what a book keeps.
use Rattle.std.specs.Prelude.{List, map}
use Rattle.std.specs.Option.{option_map}
use Rattle.std.proofs.Common.{Vec, Global}
use Rattle.std.specs.Arc.{arc_value}
use Rattle.psi_bundle.specs.declared.cached.Shown.{Shown}
use Rattle.sender_core.specs.Kept.{Kept}

module _ {C : Type 0} where
  -- a shown bundle
  abbrev pub kept_of : Shown C → Kept C
  kept_of u = record { stamp = u.stamp; bins = arc_value u.bundle; cache = option_map arc_value u.cache }

  -- the shown bundles of a row
  abbrev pub kept_of_row : List (Shown C) → List (Kept C)
  kept_of_row us = map kept_of us

  -- the shown bundles of all rows
  abbrev pub kept_of_rows : List (Vec (Shown C) Global) → List (List (Kept C))
  kept_of_rows rows = map (λ row. kept_of_row row.items) rows
