-- Positions rise, lie within the rows, and are one to three of a tag.
use Rattle.std.specs.Prelude.{◌≡◌, ℕ, zero, suc, ◌+◌, ◌*◌, ◌%◌, ◌<◌, ◌≤◌, Bool, true, false, List, [], ◌∷◌, length, map, nat_lt, nat_eq, slice_index, if◌then◌else◌, ⊤}
use Rattle.std.specs.List.{All, AllByRecursion}
use Rattle.std.specs.List.Sorted.{IsStrictlyIncreasing}
use Rattle.std.proofs.Common.{add-one, arith, refl, sym, subst}
use Rattle.std.proofs.lemmas.Bool.{ltb-true, ltb-false, eqb-false}
use Rattle.std.proofs.lemmas.List.Elements.{All-from_recursion}
use Rattle.item_slots.specs.Tags.{ArePositions, with_number, rising, position_at, positions_of, bins_of_row}

either_all : (P : ℕ → Type 0) (b : Bool) (xs ys : List ℕ) → AllByRecursion P xs → AllByRecursion P ys → AllByRecursion P (if b then xs else ys)
either_all P true xs ys p q = p
either_all P false xs ys p q = q

pub all-with_number : (P : ℕ → Type 0) (x : ℕ) (ys : List ℕ) → P x → AllByRecursion P ys → AllByRecursion P (with_number x ys)
unfolding with_number
all-with_number P x [] p q = (p, tt)
all-with_number P x (y ∷ ys) p q =
    either_all P (nat_lt x y) (x ∷ y ∷ ys) _ (p, q) (either_all P (nat_eq x y) (y ∷ ys) (y ∷ with_number x ys) q (q.0, all-with_number P x ys p q.1))

all-rising : (P : ℕ → Type 0) (xs : List ℕ) → AllByRecursion P xs → AllByRecursion P (rising xs)
unfolding rising
all-rising P [] p = tt
all-rising P (x ∷ xs) p = all-with_number P x (rising xs) p.0 (all-rising P xs p.1)

pub all-weaker : (P Q : ℕ → Type 0) → ((x : ℕ) → P x → Q x) → (xs : List ℕ) → AllByRecursion P xs → AllByRecursion Q xs
all-weaker P Q f [] h = tt
all-weaker P Q f (x ∷ xs) h = (f x h.0, all-weaker P Q f xs h.1)

-- ---- how many

either_short : (n : ℕ) (b : Bool) (xs ys : List ℕ) → length xs ≤ n → length ys ≤ n → length (if b then xs else ys) ≤ n
either_short n true xs ys p q = p
either_short n false xs ys p q = q

length-with_number : (x : ℕ) (ys : List ℕ) → length (with_number x ys) ≤ length ys + 1
unfolding with_number
length-with_number x [] = omega arith
length-with_number x (y ∷ ys) =
    either_short _ (nat_lt x y) (x ∷ y ∷ ys) _ (omega arith) (either_short _ (nat_eq x y) (y ∷ ys) (y ∷ with_number x ys) (omega arith) (omega (arith, length-with_number x ys)))

length-rising : (xs : List ℕ) → length (rising xs) ≤ length xs
unfolding rising
length-rising [] = omega arith
length-rising (x ∷ xs) = omega (arith, length-with_number x (rising xs), length-rising xs)

either_some : (b : Bool) (xs ys : List ℕ) → 1 ≤ length xs → 1 ≤ length ys → 1 ≤ length (if b then xs else ys)
either_some true xs ys p q = p
either_some false xs ys p q = q

some-with_number : (x : ℕ) (ys : List ℕ) → 1 ≤ length (with_number x ys)
unfolding with_number
some-with_number x [] = omega arith
some-with_number x (y ∷ ys) =
    either_some (nat_lt x y) (x ∷ y ∷ ys) _ (omega arith) (either_some (nat_eq x y) (y ∷ ys) (y ∷ with_number x ys) (omega arith) (omega arith))

some-rising : (x : ℕ) (xs : List ℕ) → 1 ≤ length (rising (x ∷ xs))
unfolding rising
some-rising x xs = some-with_number x (rising xs)

-- ---- they rise

-- each number is below all later ones
abbrev pub IsRising : List ℕ → Type 0
IsRising [] = ⊤
IsRising (x ∷ xs) = AllByRecursion (λ y. x < y) xs × IsRising xs

rising-chosen : (b : Bool) (xs ys : List ℕ) → (b ≡ true → IsRising xs) → (b ≡ false → IsRising ys) → IsRising (if b then xs else ys)
rising-chosen true xs ys h k = h refl
rising-chosen false xs ys h k = k refl

rising-with_number : (x : ℕ) (ys : List ℕ) → IsRising ys → IsRising (with_number x ys)
unfolding with_number
rising-with_number x [] h = (tt, tt)
rising-with_number x (y ∷ ys) h =
    let rest = rising-with_number x ys h.1 in
    rising-chosen (nat_lt x y) (x ∷ y ∷ ys) _
    (λ e. let lt : x < y = ltb-true x y e in ((lt, all-weaker (λ z. y < z) (λ z. x < z) (λ z below. omega arith) ys h.0), h))
    (λ e. let le : y ≤ x = ltb-false x y e in
    rising-chosen (nat_eq x y) (y ∷ ys) (y ∷ with_number x ys) (λ _. h)
    (λ f. let apart : x ≡ y → ⊥ = eqb-false x y f in let lt : y < x = omega arith in (all-with_number (λ z. y < z) x ys lt h.0, rest)))

rising-rising : (xs : List ℕ) → IsRising (rising xs)
unfolding rising
rising-rising [] = tt
rising-rising (x ∷ xs) = rising-with_number x (rising xs) (rising-rising xs)

next_above : (xs : List ℕ) (k : ℕ) → IsRising xs → suc k < length xs → slice_index xs k < slice_index xs (suc k)
next_above [] k h within = absurd (omega arith)
next_above (x ∷ []) k h within = absurd (omega arith)
next_above (x ∷ y ∷ ys) zero h within = h.0.0
next_above (x ∷ y ∷ ys) (suc k) h within = next_above (y ∷ ys) k h.1 (omega arith)

IsStrictlyIncreasing-from_rising : (xs : List ℕ) → IsRising xs → IsStrictlyIncreasing xs
IsStrictlyIncreasing-from_rising xs h = λ k within. subst (λ (n : ℕ). slice_index xs k < slice_index xs n) (sym (add-one k)) (next_above xs k h (omega arith))

-- three numbers below 3276, without repeats and in rising order, are positions
pub are-positions : (a b c : ℕ) → a < 3276 → b < 3276 → c < 3276 → ArePositions (rising (a ∷ b ∷ c ∷ []))
are-positions a b c first second third = record {
  some = some-rising a (b ∷ c ∷ []);
  few = length-rising (a ∷ b ∷ c ∷ []);
  rise = IsStrictlyIncreasing-from_rising (rising (a ∷ b ∷ c ∷ [])) (rising-rising (a ∷ b ∷ c ∷ []));
  below = All-from_recursion _ _ (all-rising (λ p. p < 3276) (a ∷ b ∷ c ∷ []) (first, (second, (third, tt))));
}

-- ---- those of a tag

-- each position of a tag is below the number of bins of the rows
pub positions-below : (rows : ℕ) (tag : List ℕ) → 1 ≤ rows → All (λ p. p < bins_of_row * rows) (positions_of rows tag)
unfolding position_at
positions-below rows tag some =
    All-from_recursion _ _ (all-rising (λ p. p < bins_of_row * rows) (map (position_at rows tag) (0 ∷ 1 ∷ 2 ∷ [])) (below_bins _ rows some, (below_bins _ rows some, (below_bins _ rows some, tt)))) where
      below_bins : (n rows : ℕ) → 1 ≤ rows → n % (bins_of_row * rows) < bins_of_row * rows
      below_bins n rows some = omega arith

-- a tag has at most three positions
pub length-positions : (rows : ℕ) (tag : List ℕ) → length (positions_of rows tag) ≤ 3
length-positions rows tag = length-rising (map (position_at rows tag) (0 ∷ 1 ∷ 2 ∷ []))

-- a tag's positions rise
pub positions-rise : (rows : ℕ) (tag : List ℕ) → IsRising (positions_of rows tag)
positions-rise rows tag = rising-rising (map (position_at rows tag) (0 ∷ 1 ∷ 2 ∷ []))
