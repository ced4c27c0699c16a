-- Counts over lists: how often a number stands in a list, and sums of a figure over a list.
use Rattle.std.specs.Prelude.{◌≡◌, ℕ, ◌+◌, List, [], ◌∷◌, ◌++◌, cond, eqb, ltb}

-- 1 where two numbers are the same, else 0
unfoldable pub same : ℕ → ℕ → ℕ
same x y = cond (eqb x y) 1 0

-- 1 where x is below n, else 0
unfoldable pub below : ℕ → ℕ → ℕ
below x n = cond (ltb x n) 1 0

-- how often x stands in the list
unfoldable pub times : ℕ → List ℕ → ℕ
times x [] = 0
times x (y ∷ ys) = same x y + times x ys

-- the sum of f over the list
unfoldable pub total : {A : Type 0} → (A → ℕ) → List A → ℕ
total f [] = 0
total f (y ∷ ys) = f y + total f ys

-- the list ys begins with xs
abbrev pub IsPrefix : {A : Type 0} → List A → List A → Type 0
IsPrefix {A} xs ys = (rest : List A) × (ys ≡ xs ++ rest)

-- the list ys begins with each of these lists
abbrev pub ArePrefixes : {A : Type 0} → List (List A) → List A → Type 0
ArePrefixes [] ys = Unit {0}
ArePrefixes (xs ∷ xss) ys = IsPrefix xs ys × ArePrefixes xss ys
