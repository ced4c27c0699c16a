-- The versions of a labelled set, and where first fit puts a member (the rules of the set are this project's own).
use Rattle.std.specs.Prelude.{◌≡◌, Some, ℕ, Bool, nat_eq, ◌+◌, ◌*◌, ◌/◌, ◌%◌, ◌≤◌, List, [], ◌∷◌, ◌++◌, length, map, if◌then◌else◌, slice_index_or, slice_set, replicate, max}
use Rattle.std.specs.Ordering.{nat_cmp}
use Rattle.std.specs.Cmp.Lexicographic.{slice_cmp}
use Rattle.std.specs.List.{flat_map, enumerate_from, All, Contains, count_by, sum, fold}
use Rattle.std.specs.FinMap as fin
use Rattle.psi_residue.specs.Parameters.{Parameters}
use Rattle.psi_bundle.specs.declared.member.Member.{Member}
use Rattle.item_slots.specs.Tags.{bins_of_row, positions_of}
use Rattle.psi_bundle.specs.Planes.{planes_of_bundle, coefficients_of_plane}
use Rattle.psi_bundle.specs.Bins.{AreApart, accepts, holds, bin_at, empty_bins, same_tag}

-- labels by tag
abbrev pub Labels : Type 0
Labels = fin.FinMap (slice_cmp nat_cmp) (List ℕ)

-- a bundle with its stamp: one more than the place of the entry that last changed it, or 0
pub record Stamped : Type 0 where
  pub stamp : ℕ
  pub bins : List (List Member)

-- the bundles of one row
abbrev pub Row : Type 0
Row = List Stamped

-- the set after so many entries: its labels by tag, and the bundles of each row
pub record Version : Type 0 where
  pub parameters : Parameters
  pub count : ℕ
  pub labels : Labels
  pub rows : List Row

-- row number r
abbrev pub row_at : List Row → ℕ → Row
row_at rows r = slice_index_or rows r []

-- no entries, no tags, no bundles
abbrev pub empty_version : Parameters → Version
empty_version p = record { parameters = p; count = 0; labels = fin.empty; rows = replicate p.rows [] }

-- the bins of bundle u of a row, none past its end
abbrev pub bins_at : Row → ℕ → List (List Member)
bins_at row u = (slice_index_or row u (record { stamp = 0; bins = [] })).bins

-- a bundle with another content of bin b, stamped anew
abbrev pub with_bin : ℕ → ℕ → List Member → Stamped → Stamped
with_bin stamp b bin u = record { stamp = stamp; bins = slice_set u.bins b bin }

-- a new bundle that holds nothing yet
abbrev pub empty_bundle : ℕ → Stamped
empty_bundle stamp = record { stamp = stamp; bins = empty_bins }

-- the bundle takes the member at the end of bin b
abbrev pub joined : ℕ → ℕ → Member → Stamped → Stamped
joined stamp b m u = with_bin stamp b (bin_at u.bins b ++ m ∷ []) u

-- First fit in a row: the first bundle that accepts the member's tag in bin b takes it, else a new last bundle does.
unfoldable pub first_fit : ℕ → ℕ → ℕ → Member → Row → Row
first_fit capacity stamp b m [] = joined stamp b m (empty_bundle stamp) ∷ []
first_fit capacity stamp b m (u ∷ us) = if accepts capacity (bin_at u.bins b) m.tag then joined stamp b m u ∷ us else u ∷ first_fit capacity stamp b m us

-- the member at one position, by first fit in the position's row
unfoldable pub placed_at : ℕ → ℕ → Member → List Row → ℕ → List Row
placed_at capacity stamp m rows p = slice_set rows (p / bins_of_row) (first_fit capacity stamp (p % bins_of_row) m (row_at rows (p / bins_of_row)))

-- the member at each of its positions, in rising order
abbrev pub placed : Parameters → ℕ → Member → List Row → List Row
placed p stamp m rows = fold (placed_at p.capacity stamp m) rows (positions_of p.rows m.tag)

-- At one position of a tag, each bundle of the row whose bin there holds the tag has that bin changed, and is stamped.
unfoldable pub changed_at : ℕ → (List Member → List Member) → List ℕ → List Row → ℕ → List Row
changed_at stamp change tag rows p =
    let b = p % bins_of_row in
    slice_set rows (p / bins_of_row) (map (λ u. if holds (bin_at u.bins b) tag then with_bin stamp b (change (bin_at u.bins b)) u else u) (row_at rows (p / bins_of_row)))

-- the change wherever the tag stands: nowhere but at its positions
abbrev pub changed : Parameters → ℕ → (List Member → List Member) → List ℕ → List Row → List Row
changed p stamp change tag rows = fold (changed_at stamp change tag) rows (positions_of p.rows tag)

-- the members of a row with their bins, by bundle, then bin, then order within the bin
abbrev pub members_of_row : Row → List (ℕ × Member)
members_of_row row = flat_map (λ u. flat_map (λ bin. map (λ m. (bin.0, m)) bin.1) (enumerate_from 0 u.bins)) row

-- first fit of a list of members, each in its own bin, from a row without bundles
abbrev pub packed_row : ℕ → ℕ → List (ℕ × Member) → Row
packed_row capacity stamp ms = fold (λ row m. first_fit capacity stamp m.0 m.1 row) [] ms

-- the greatest stamp of a row, 0 where it has no bundle
abbrev pub greatest_stamp : Row → ℕ
greatest_stamp row = fold max 0 (map (λ u. u.stamp) row)

-- planes of some number of bundles: the root plane and one for each label unit
abbrev pub planes_of : Parameters → List Row → ℕ
planes_of p rows = sum (map (λ row. length row) rows) * planes_of_bundle p

-- cells: one for each coefficient of each plane
abbrev pub cells_of : Parameters → List Row → ℕ
cells_of p rows = planes_of p rows * coefficients_of_plane p

-- the set's limits
abbrev pub IsWithinLimits : Parameters → List Row → Type 0
IsWithinLimits p rows = (planes_of p rows ≤ 64) × (cells_of p rows ≤ 4096)

-- how many members with the tag stand in bin b of the row's bundles, taken together
abbrev pub standing : Row → ℕ → List ℕ → ℕ
standing row b tag = sum (map (λ u. count_by (λ m. same_tag m.tag tag) (bin_at u.bins b)) row)

-- a member stands in this bin of some bundle
abbrev pub StandsIn : List Row → ℕ → ℕ → ℕ → Member → Type 0
StandsIn rows r u b m = Contains (bin_at (bins_at (row_at rows r) u) b) m

-- a label has the length of the set's labels: 10 bytes for each label unit
abbrev pub HasLabelLength : Parameters → List ℕ → Type 0
HasLabelLength p label = length label ≡ 10 * p.units

-- the test of it
abbrev pub has_label_length : Parameters → List ℕ → Bool
has_label_length p label = nat_eq (length label) (10 * p.units)

-- a version in which the bundles hold the tags of the map at their positions, and nothing else
pub record IsSound (v : Version) : Type 0 where
  pub each_row : length v.rows ≡ v.parameters.rows
  pub each_bin : All (λ row. All (λ u. length u.bins ≡ bins_of_row) row) v.rows
  -- each tag of the map stands once in the bin of each of its positions
  pub present : (tag label : List ℕ) → fin.get v.labels tag ≡ Some label → (p : ℕ) → Contains (positions_of v.parameters.rows tag) p → standing (row_at v.rows (p / bins_of_row)) (p % bins_of_row) tag ≡ 1
  -- what stands in a bin is a tag of the map with its label, at one of its positions
  pub nothing_else : (r u b : ℕ) (m : Member) → StandsIn v.rows r u b m → (fin.get v.labels m.tag ≡ Some m.label) × Contains (positions_of v.parameters.rows m.tag) (bins_of_row * r + b)
  pub within_capacity : (r u b : ℕ) → length (bin_at (bins_at (row_at v.rows r) u) b) ≤ v.parameters.capacity
  pub apart : (r u b : ℕ) → AreApart (bin_at (bins_at (row_at v.rows r) u) b)
  pub labelled : (tag label : List ℕ) → fin.get v.labels tag ≡ Some label → HasLabelLength v.parameters label
  pub limits : IsWithinLimits v.parameters v.rows
