-- What the demonstration makes from a number: items, labels, the list of asked items, and seeds (all of it is this project's own). SHA-256
-- is that of FIPS 180-4.
use Rattle.std.specs.Prelude.{ℕ, ◌+◌, ◌*◌, List, [], ◌∷◌, ◌++◌, map, take}
use Rattle.std.specs.List.{range_with_len}
use Rattle.sha2.specs.Sha256.{sha256}
use Rattle.byteorder.specs.Endian.{big_bytes}
use Rattle.item_slots.specs.Tags.{tag_of}
use Rattle.psi_residue.specs.Parameters.{Parameters}

-- the parameters: one row, bins of eight members, labels of ten bytes
abbrev pub demo_parameters : Parameters
demo_parameters = record { form = 1; rows = 1; capacity = 8; units = 1; drop = 0; spare = 0 }

-- item i of a number: the number in 8 bytes, and i in 4
unfoldable pub demo_item : (number i : ℕ) → List ℕ
demo_item number i = big_bytes 8 number ++ big_bytes 4 i

-- its label: the first ten bytes of the SHA-256 of the item and the byte 76 behind it
unfoldable pub demo_label : (number i : ℕ) → List ℕ
demo_label number i = take 10 (sha256 (demo_item number i ++ 76 ∷ []))

-- what a function gives of first, first + step, first + 2 · step and so on, so many of them
abbrev pub run : {A : Type 0} → (ℕ → A) → (first step count : ℕ) → List A
run f first step count = map (λ k. f (first + step * k)) (range_with_len 0 count)

-- the stable items are put and never dropped
abbrev pub stable_items : ℕ
stable_items = 38

-- the number of stable item k: 0, 8, 16, .., 296
abbrev pub stable_at : ℕ → ℕ
stable_at k = 0 + 8 * k

-- the tag of item i
abbrev pub item_tag : (number i : ℕ) → List ℕ
item_tag number i = tag_of (demo_item number i)

-- the tags of the asked items: the stable ones, and then 100000 to 100021, which are never put
unfoldable pub asked_tags : (number : ℕ) → List (List ℕ)
asked_tags number = run (item_tag number) 0 8 stable_items ++ run (item_tag number) 100000 1 22

-- the seed of an ask: the SHA-256 of the number in 8 bytes and the ask's number behind it
unfoldable pub demo_seed : (number ask : ℕ) → List ℕ
demo_seed number ask = sha256 (big_bytes 8 number ++ ask ∷ [])
