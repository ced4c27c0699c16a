-- Items as tags, slot values and positions. A tag is the front of a SHA-256 digest (FIPS 180-4); numbers in it
-- are big-endian. An item cut into several field elements: Cong et al., CCS 2021.
use Rattle.std.specs.Prelude.{ℕ, ◌+◌, ◌*◌, ◌%◌, ◌<◌, ◌≤◌, List, [], ◌∷◌, length, map, take, drop, nat_lt, nat_eq, if◌then◌else◌}
use Rattle.std.specs.List.{All}
use Rattle.std.specs.List.Sorted.{IsStrictlyIncreasing}
use Rattle.sha2.specs.Sha256.{sha256}
use Rattle.byteorder.specs.Endian.{big_number}

-- the bins of one row
abbrev pub bins_of_row : ℕ
bins_of_row = 819

-- how many parts a tag has, each with a slot value
abbrev pub parts_of_tag : ℕ
parts_of_tag = 5

-- their numbers
abbrev pub parts : List ℕ
parts = 0 ∷ 1 ∷ 2 ∷ 3 ∷ 4 ∷ []

-- an item's tag: the first 22 bytes of its SHA-256
unfoldable pub tag_of : List ℕ → List ℕ
tag_of item = take 22 (sha256 item)

-- slot value number j of a tag: its 16-bit number j
unfoldable pub slot_value : List ℕ → ℕ → ℕ
slot_value tag j = big_number 2 (drop (2 * j) tag)

-- the five slot values, by part
abbrev pub slot_values : List ℕ → List ℕ
slot_values tag = map (slot_value tag) parts

-- the i-th of the three 32-bit numbers behind the slot values, as a position among the rows' bins
unfoldable pub position_at : ℕ → List ℕ → ℕ → ℕ
position_at rows tag i = big_number 4 (drop (10 + 4 * i) tag) % (bins_of_row * rows)

-- a rising list with x in it, once
unfoldable pub with_number : ℕ → List ℕ → List ℕ
with_number x [] = x ∷ []
with_number x (y ∷ ys) = if nat_lt x y then x ∷ y ∷ ys else (if nat_eq x y then y ∷ ys else y ∷ with_number x ys)

-- the numbers of a list without repeats, in rising order
unfoldable pub rising : List ℕ → List ℕ
rising [] = []
rising (x ∷ xs) = with_number x (rising xs)

-- the positions of a tag: its three numbers without repeats, in rising order
abbrev pub positions_of : ℕ → List ℕ → List ℕ
positions_of rows tag = rising (map (position_at rows tag) (0 ∷ 1 ∷ 2 ∷ []))

-- one to three numbers, each below the next and below 3276, which is four rows' bins
pub record ArePositions (list : List ℕ) : Type 0 where
  pub some : 1 ≤ length list
  pub few : length list ≤ 3
  pub rise : IsStrictlyIncreasing list
  pub below : All (λ p. p < 3276) list
