-- Members of a row in their order, and bundles that first fit makes of them.
use Rattle.std.specs.Prelude.{ℕ, List, map}
use Rattle.std.specs.List.{flat_map, enumerate_from}
use Rattle.psi_bundle.specs.declared.member.Member.{Member}
use Rattle.psi_bundle.specs.Versions.{Row, first_fit}

-- bundles as a row, all with the stamp 0
abbrev pub unstamped_row : List (List (List Member)) → Row
unstamped_row bundles = map (λ bins. record { stamp = 0; bins = bins }) bundles

-- first fit of one more member, in its own bin
abbrev pub fitted : ℕ → Row → ℕ × Member → Row
fitted capacity row m = first_fit capacity 0 m.0 m.1 row

-- the members of one bin, each with the bin's number
abbrev pub bin_members : ℕ → List Member → List (ℕ × Member)
bin_members b bin = map (λ m. (b, m)) bin

-- the members of a bundle whose bins are numbered from b on, by bin, then order within the bin
abbrev pub bundle_members : ℕ → List (List Member) → List (ℕ × Member)
bundle_members b bins = flat_map (λ bin. bin_members bin.0 bin.1) (enumerate_from b bins)
