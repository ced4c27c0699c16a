-- The items of a text (its form is this project's own): a line each.
use Rattle.std.specs.Prelude.{ℕ, ◌≤◌, ◌^◌, ◌==◌, not, if◌then◌else◌, List, [], ◌∷◌, length, map, filter}
use Rattle.std.specs.List.{All, slice_split}
use Rattle.std.specs.Str.{bytes_eq}
use Rattle.std.specs.Str.Lines.{strip_carriage_return}

-- the lines among the parts between bytes 10: what stands behind the last such byte is one where it is not empty
abbrev pub lines_among : List (List ℕ) → List (List ℕ)
lines_among [] = []
lines_among (part ∷ []) = if length part == 0 then [] else part ∷ []
lines_among (part ∷ next ∷ more) = part ∷ lines_among (next ∷ more)

-- the lines of a text, each without one byte 13 at its end
unfoldable pub item_lines : List ℕ → List (List ℕ)
item_lines text = map strip_carriage_return (lines_among (slice_split (λ b. b == 10) text))

-- a list without each element that an earlier one equals
unfoldable pub without_repeats : List (List ℕ) → List (List ℕ)
without_repeats [] = []
without_repeats (x ∷ xs) = x ∷ filter (λ y. not (bytes_eq x y)) (without_repeats xs)

-- the items of a text, numbered from 0 in their order
abbrev pub items_of : List ℕ → List (List ℕ)
items_of text = without_repeats (item_lines text)

-- the most bytes of a text of items, and of an item
abbrev pub most_item_text : ℕ
most_item_text = 2 ^ 20

abbrev pub most_item : ℕ
most_item = 255

-- a text that is not too long, of items that are not
pub record IsItemText (text : List ℕ) : Type 0 where
  pub few_bytes : length text ≤ most_item_text
  pub short : All (λ item. length item ≤ most_item) (items_of text)
