-- Numbers that rise and are, in some order, the numbers of a range, are that range.
use Rattle.std.specs.Prelude.{◌≡◌, ℕ, zero, suc, ◌+◌, ◌<◌, ◌≤◌, List, [], ◌∷◌, length, ⊤}
use Rattle.std.specs.List.{AllByRecursion, range_with_len}
use Rattle.std.specs.List.Sorted.{IsPermutation}
use Rattle.std.proofs.Common.{refl, sym, ap, ◌∙◌, arith}
use Rattle.std.proofs.lemmas.List.FromFn.{length-range_with_len}
use Rattle.std.proofs.lemmas.List.Elements.{All-from_recursion, recursion_from_All}
use Rattle.std.proofs.lemmas.List.Sorted.{All-permutation, IsPermutation-sym, length_permutation}

-- each number is above the ones before it, and the first no less than this one
abbrev pub RisesFrom : ℕ → List ℕ → Type 0
RisesFrom low [] = ⊤
RisesFrom low (x ∷ xs) = (low ≤ x) × RisesFrom (x + 1) xs

-- as many of them have room
rises-fit : (low high : ℕ) (xs : List ℕ) → RisesFrom low xs → AllByRecursion (λ x. x < high) xs → low ≤ high → low + length xs ≤ high
rises-fit low high [] rises below le = omega (arith, le)
rises-fit low high (x ∷ xs) rises below le = let rest = rises-fit (x + 1) high xs rises.1 below.1 (omega (arith, below.0)) in omega (arith, rest, rises.0)

rises-range : (low high : ℕ) (xs : List ℕ) → RisesFrom low xs → AllByRecursion (λ x. x < high) xs → high ≡ low + length xs → xs ≡ range_with_len low (length xs)
rises-range low high [] rises below e = refl
rises-range low high (x ∷ xs) rises below e =
    let rest = rises-fit (x + 1) high xs rises.1 below.1 (omega (arith, below.0)) in
    let first : x ≡ low = omega (arith, rest, rises.0, e) in
    let others = rises-range (x + 1) high xs rises.1 below.1 (omega (arith, first, e)) in
    (λ i. first i ∷ others i) ∙ ap (λ (k : ℕ). low ∷ range_with_len (k + 1) (length xs)) first

range-within : (low n base most : ℕ) → base ≤ low → low + n ≤ most → AllByRecursion (λ x. (base ≤ x) × (x < most)) (range_with_len low n)
range-within low zero base most le fit = tt
range-within low (suc n) base most le fit = ((le, omega (arith, fit)), range-within (low + 1) n base most (omega (arith, le)) (omega (arith, fit)))

-- the first of them may be raised
rises-higher : (low higher : ℕ) (xs : List ℕ) → RisesFrom low xs → AllByRecursion (λ x. higher ≤ x) xs → RisesFrom higher xs
rises-higher low higher [] rises above = tt
rises-higher low higher (x ∷ xs) rises above = (above.0, rises.1)

firsts : (low most : ℕ) (xs : List ℕ) → AllByRecursion (λ x. (low ≤ x) × (x < most)) xs → AllByRecursion (λ x. low ≤ x) xs
firsts low most [] h = tt
firsts low most (x ∷ xs) h = (h.0.0, firsts low most xs h.1)

lasts : (low most : ℕ) (xs : List ℕ) → AllByRecursion (λ x. (low ≤ x) × (x < most)) xs → AllByRecursion (λ x. x < most) xs
lasts low most [] h = tt
lasts low most (x ∷ xs) h = (h.0.1, lasts low most xs h.1)

pub rising-range : (low n : ℕ) (xs : List ℕ) → RisesFrom 0 xs → IsPermutation xs (range_with_len low n) → (length xs ≡ n) × (xs ≡ range_with_len low n)
rising-range low n xs rises moved =
    let size : length xs ≡ n = sym (length_permutation xs (range_with_len low n) moved) ∙ length-range_with_len low n in
    let all = recursion_from_All (λ x. (low ≤ x) × (x < low + n)) xs
    (All-permutation (λ x. (low ≤ x) × (x < low + n)) (range_with_len low n) xs (IsPermutation-sym xs (range_with_len low n) moved)
    (All-from_recursion (λ x. (low ≤ x) × (x < low + n)) (range_with_len low n) (range-within low n low (low + n) (omega arith) (omega arith)))) in
    (size, rises-range low (low + n) xs (rises-higher 0 low xs rises (firsts low (low + n) xs all)) (lasts low (low + n) xs all) (omega (arith, size)) ∙ ap (range_with_len low) size)
