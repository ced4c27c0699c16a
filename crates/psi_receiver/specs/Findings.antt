-- The placed items that are found in the bundles of a set: each slot value is a root of its part in the item's bin (Chen, Laine, Rindal, CCS
-- 2017; an item cut into several field elements: Cong et al., CCS 2021). It speaks of the rows of bundles alone.
use Rattle.std.specs.Prelude.{ℕ, Bool, ◌+◌, ◌*◌, ◌/◌, ◌%◌, nat_eq, List, [], length, map, take, drop, filter, Option, None, Some}
use Rattle.std.specs.List.{find, flat_map, list_all, list_any, range_with_len}
use Rattle.psi_residue.specs.Parameters.{Parameters}
use Rattle.item_slots.specs.Tags.{bins_of_row, parts, slot_value}
use Rattle.psi_bundle.specs.declared.member.Member.{Member}
use Rattle.psi_bundle.specs.Bins.{bin_at, roots_of}
use Rattle.psi_bundle.specs.Versions.{Row, row_at, bins_at}
use Rattle.psi_receiver.specs.declared.placement.Placed.{Placed}
use Rattle.psi_receiver.specs.declared.found.Found.{Found}

-- the bin of a position in bundle u of its row
abbrev pub bin_in : List Row → (position u : ℕ) → List Member
bin_in rows position u = bin_at (bins_at (row_at rows (position / bins_of_row)) u) (position % bins_of_row)

-- each slot value of the tag is a root of its part
unfoldable pub has_roots : List Member → List ℕ → Bool
has_roots bin tag = list_all (λ part. list_any (nat_eq (slot_value tag part)) (roots_of bin part)) parts

-- the label of a member, if there is one
abbrev pub label_of_member : Option Member → List ℕ
label_of_member None = []
label_of_member (Some m) = m.label

-- the label of the member that has the tag's slot value of a part
abbrev pub root_label : List Member → List ℕ → ℕ → List ℕ
root_label bin tag part = label_of_member (find (λ m. nat_eq (slot_value tag part) (slot_value m.tag part)) bin)

-- the label there: the 16-bit number 5·unit + part from the member that has the root of the part
unfoldable pub found_label : Parameters → List Member → (tag : List ℕ) → List ℕ
found_label p bin tag =
    flat_map (λ unit. flat_map (λ part. take 2 (drop (2 * (5 * unit + part)) (root_label bin tag part))) parts) (range_with_len 0 p.units)

-- an item in one bundle
abbrev pub found_at : Parameters → List Row → Placed → ℕ → Found
found_at p rows x u = record { item = x.item; bundle = u; label = found_label p (bin_in rows x.position u) x.tag }

-- an item in each bundle of its row in which it is found, in their order
unfoldable pub found_item : Parameters → List Row → Placed → List Found
found_item p rows x =
    map (found_at p rows x) (filter (λ u. has_roots (bin_in rows x.position u) x.tag) (range_with_len 0 (length (row_at rows (x.position / bins_of_row)))))

-- by item, then by bundle
unfoldable pub found : Parameters → List Row → List Placed → List Found
found p rows placed = flat_map (found_item p rows) placed
