-- The lines of a text, one after another.
use Rattle.std.proofs.Common.{◌≡◌, ℕ, ◌+◌, ◌<◌, ◌==◌, Bool, false, ltb, eqb, List, [], ◌∷◌, length, map, take, drop, Option, None, Some, refl, ap, ◌∙◌, arith, inl, inr}
use Rattle.std.specs.List.{All, position, position_or_len, slice_split, before_first, after_first}
use Rattle.std.specs.Option.{MatchOption}
use Rattle.std.specs.Str.Lines.{strip_carriage_return}
use Rattle.std.proofs.lemmas.Bool.{cases_Bool}
use Rattle.std.proofs.lemmas.Grind.{common_steps}
use Rattle.std.proofs.lemmas.List.Splits.{slice_split_none, slice_split_first, length-slice_split}
use Rattle.std.proofs.lemmas.List.Sums.{fails_before_first}
use Rattle.psi_cli.specs.ItemTexts.{item_lines, lines_among}

-- the byte that ends a line
abbrev pub is_end : ℕ → Bool
is_end b = eqb b 10

-- no text has no lines
pub item_lines-none : item_lines [] ≡ []
unfolding item_lines
item_lines-none = refl

-- a part with parts behind it is a line
lines_among-more : (part : List ℕ) (parts : List (List ℕ)) → 0 < length parts → lines_among (part ∷ parts) ≡ part ∷ lines_among parts
lines_among-more part [] some = absurd (omega arith)
lines_among-more part (next ∷ more) some = refl

-- the one part of a text without an end is a line where it is not empty
lines_among-last : (part : List ℕ) → 0 < length part → lines_among (part ∷ []) ≡ part ∷ []
lines_among-last [] some = absurd (omega arith)
lines_among-last (b ∷ bytes) some = let long : (length (b ∷ bytes) == 0) ≡ false = grind (arith, common_steps) in rw long refl

-- a text that has no end of a line is one line
item_lines-last : (text : List ℕ) → 0 < length text → All (λ b. is_end b ≡ false) text → item_lines text ≡ strip_carriage_return text ∷ item_lines []
unfolding item_lines
item_lines-last text some none =
    ap (λ (parts : List (List ℕ)). map strip_carriage_return (lines_among parts)) (slice_split_none is_end text none)
    ∙ ap (map strip_carriage_return) (lines_among-last text some)

-- what stands before the first end is a line, and the others stand behind it
item_lines-first : (text : List ℕ) → position_or_len is_end text < length text
    → item_lines text ≡ strip_carriage_return (take (position_or_len is_end text) text) ∷ item_lines (drop (position_or_len is_end text + 1) text)
unfolding item_lines
item_lines-first text within =
    ap (λ (parts : List (List ℕ)). map strip_carriage_return (lines_among parts)) (slice_split_first is_end text 0 within)
    ∙ ap (map strip_carriage_return) (lines_among-more (before_first is_end text) (slice_split is_end (after_first is_end text)) (omega (arith, length-slice_split is_end (after_first is_end text))))

-- by the place of the first end
pub first_line : (text : List ℕ) (end : Option ℕ) → end ≡ position is_end text → 0 < length text
    → MatchOption end (item_lines text ≡ strip_carriage_return text ∷ item_lines [])
    (λ k. (k < length text) × (item_lines text ≡ strip_carriage_return (take k text) ∷ item_lines (drop (k + 1) text)))
first_line text end e some = elim (cases_Bool (ltb (position_or_len is_end text) (length text))) [
  | inl within ↦
      let at : end ≡ Some (position_or_len is_end text) = rw within at e in
      let l : position_or_len is_end text < length text = grind (arith, common_steps) in
      rw at (l, item_lines-first text l)
  | inr without ↦
      let at : end ≡ None = rw without at e in
      let none : All (λ b. is_end b ≡ false) text = λ k d m. let f = fails_before_first is_end text k d (grind (arith, common_steps)) in f in
      rw at (item_lines-last text some none)
]
