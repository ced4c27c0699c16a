-- A row of shown bundles, and first fit of a row's members as bundles alone.
use Rattle.std.specs.Prelude.{ℕ, List, map}
use Rattle.std.specs.Arc.{arc_value}
use Rattle.psi_bundle.specs.declared.cached.Shown.{Shown}
use Rattle.psi_bundle.specs.declared.member.Member.{Member}
use Rattle.psi_bundle.specs.Versions.{Row, members_of_row, packed_row}

-- shown bundles as a row: each with its stamp, and without its cache
abbrev pub shown_row : {C : Type 0} → List (Shown C) → Row
shown_row us = map (λ u. record { stamp = u.stamp; bins = arc_value u.bundle }) us

-- the bundles, each its bins, of first fit of a row's members, listed by bundle, bin and order in the bin
abbrev pub packed_bins : ℕ → Row → List (List (List Member))
packed_bins capacity row = map (λ u. u.bins) (packed_row capacity 0 (members_of_row row))
