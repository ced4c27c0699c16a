-- Where the receiver's tags are placed: each has one of its positions, no two the same (Chen, Laine, Rindal, CCS 2017: cuckoo hashing
-- at the receiver).
use Rattle.std.specs.Prelude.{◌≡◌, ℕ, List, [], length, map, slice_index, slice_index_or}
use Rattle.std.specs.List.{range_with_len}
use Rattle.item_slots.specs.Tags.{positions_of}
use Rattle.cuckoo_place.specs.Placements.{IsFirstPlacement}
use Rattle.psi_receiver.specs.declared.placement.Placed.{Placed}

-- item number i: its tag, and its position
abbrev pub placed_item : (tags : List (List ℕ)) → (places : List ℕ) → ℕ → Placed
placed_item tags places i = record { item = i; tag = slice_index_or tags i []; position = slice_index places i }

-- the tags with their positions, one each
unfoldable pub placed_tags : (tags : List (List ℕ)) → (places : List ℕ) → List Placed
placed_tags tags places = map (placed_item tags places) (range_with_len 0 (length tags))

-- the positions of tags, a set each
abbrev pub position_sets : (rows : ℕ) → List (List ℕ) → List (List ℕ)
position_sets rows tags = map (positions_of rows) tags

-- the tags at the positions of their first placement
abbrev pub ArePlaced : (rows : ℕ) → (tags : List (List ℕ)) → List Placed → Type 0
ArePlaced rows tags xs = (places : List ℕ) × IsFirstPlacement (position_sets rows tags) places × (xs ≡ placed_tags tags places)
