-- The laws of sums and tables.
use Rattle.std.proofs.Common.{◌≡◌, ℕ, zero, suc, ◌+◌, ◌-◌, ◌*◌, ◌<◌, ◌≤◌, List, length, get_or, refl, ap, ◌∙◌, sym, arith, zero-add}
use Rattle.std.proofs.lemmas.List.FromFn.{length-map-range_with_len, get_or-map-range_with_len, fill_by_all}
use Rattle.psi_residue.specs.Sums.{sum_below, table}

-- ---- terms

pub sum_below-zero : (f : ℕ → ℕ) → sum_below 0 f ≡ 0
unfolding sum_below
sum_below-zero f = refl

pub sum_below-more : (n : ℕ) (f : ℕ → ℕ) → sum_below (n + 1) f ≡ sum_below n f + f n
unfolding sum_below
sum_below-more n f = let e : n + 1 ≡ suc n = omega arith in ap (λ (k : ℕ). sum_below k f) e

-- one more term at the end
pub sum_below-suc : (n : ℕ) (f : ℕ → ℕ) → sum_below (suc n) f ≡ sum_below n f + f n
unfolding sum_below
sum_below-suc n f = refl

-- one more term at the front
pub sum_below-first : (n : ℕ) (f : ℕ → ℕ) → sum_below (suc n) f ≡ f 0 + sum_below n (λ i. f (suc i))
unfolding sum_below
sum_below-first zero f = omega arith
sum_below-first (suc n) f = let before = sum_below-first n f in omega (arith, before)

-- terms that agree at each index have one sum
pub sum_below-same : (n : ℕ) (f g : ℕ → ℕ) → ((i : ℕ) → i < n → f i ≡ g i) → sum_below n f ≡ sum_below n g
unfolding sum_below
sum_below-same zero f g h = refl
sum_below-same (suc n) f g h =
    let before = sum_below-same n f g (λ i lt. h i (omega arith)) in
    let here = h n (omega arith) in
    omega (arith, before, here)

-- terms that all are one number
pub sum_below-constant : (n c : ℕ) → sum_below n (λ i. c) ≡ n * c
unfolding sum_below
sum_below-constant zero c = omega arith
sum_below-constant (suc n) c = let before = sum_below-constant n c in omega (arith, before)

-- terms that are 0 have the sum 0
pub sum_below-nothing : (n : ℕ) (f : ℕ → ℕ) → ((i : ℕ) → i < n → f i ≡ 0) → sum_below n f ≡ 0
sum_below-nothing n f h =
    let none = sum_below-constant n 0 in
    let same = sum_below-same n f (λ i. 0) h in
    omega (arith, none, same)

-- terms of at most b have a sum of at most n * b
pub sum_below-bound : (n b : ℕ) (f : ℕ → ℕ) → ((i : ℕ) → i < n → f i ≤ b) → sum_below n f ≤ n * b
unfolding sum_below
sum_below-bound zero b f h = omega arith
sum_below-bound (suc n) b f h =
    let before = sum_below-bound n b f (λ i lt. h i (omega arith)) in
    let here = h n (omega arith) in
    omega (arith, before, here)

-- ---- factors and parts

-- a factor of each term is a factor of the sum
pub sum_below-times : (n c : ℕ) (f : ℕ → ℕ) → sum_below n (λ i. c * f i) ≡ c * sum_below n f
unfolding sum_below
sum_below-times zero c f = omega arith
sum_below-times (suc n) c f =
    let before = sum_below-times n c f in
    omega (arith, before)

-- a factor behind each term
pub sum_below-times_right : (n c : ℕ) (f : ℕ → ℕ) → sum_below n (λ i. f i * c) ≡ sum_below n f * c
sum_below-times_right n c f =
    let turned : (i : ℕ) → f i * c ≡ c * f i = λ i. omega arith in
    let same = sum_below-same n (λ i. f i * c) (λ i. c * f i) (λ i lt. turned i) in
    let times = sum_below-times n c f in
    omega (arith, same, times)

-- the sum of two terms
pub sum_below-add : (n : ℕ) (f g : ℕ → ℕ) → sum_below n (λ i. f i + g i) ≡ sum_below n f + sum_below n g
unfolding sum_below
sum_below-add zero f g = refl
sum_below-add (suc n) f g =
    let before = sum_below-add n f g in
    omega (arith, before)

-- the first n terms and the other k
pub sum_below-split : (n k : ℕ) (f : ℕ → ℕ) → sum_below (n + k) f ≡ sum_below n f + sum_below k (λ i. f (n + i))
unfolding sum_below
sum_below-split n zero f =
    let e : n + 0 ≡ n = omega arith in
    let same = ap (λ (j : ℕ). sum_below j f) e in
    omega (arith, same)
sum_below-split n (suc k) f =
    let e : n + suc k ≡ suc (n + k) = omega arith in
    let same = ap (λ (j : ℕ). sum_below j f) e in
    let before = sum_below-split n k f in
    omega (arith, same, before)

-- ---- order

-- two sums may be taken in either order
pub sum_below-swap : (n k : ℕ) (f : ℕ → ℕ → ℕ) → sum_below n (λ i. sum_below k (λ j. f i j)) ≡ sum_below k (λ j. sum_below n (λ i. f i j))
unfolding sum_below
sum_below-swap zero k f = sym (sum_below-nothing k (λ j. 0) (λ j lt. refl))
sum_below-swap (suc n) k f =
    let before = sum_below-swap n k f in
    let added = sum_below-add k (λ j. sum_below n (λ i. f i j)) (f n) in
    omega (arith, before, added)

-- the terms of a sum may be taken backwards
pub sum_below-backwards : (n : ℕ) (f : ℕ → ℕ) → sum_below n (λ i. f (n - (i + 1))) ≡ sum_below n f
sum_below-backwards zero f = sum_below-zero (λ i. f (0 - (i + 1))) ∙ sym (sum_below-zero f)
sum_below-backwards (suc n) f =
    let first : suc n - (0 + 1) ≡ n = omega arith in
    let here = ap f first in
    let others = sum_below-same n (λ i. f (suc n - (suc i + 1))) (λ i. f (n - (i + 1))) (λ i lt. let e : suc n - (suc i + 1) ≡ n - (i + 1) = omega arith in ap f e) in
    let before = sum_below-backwards n f in
    let front = sum_below-first n (λ i. f (suc n - (i + 1))) in
    let back = sum_below-suc n f in
    omega (arith, here, others, before, front, back)

-- ---- tables

pub length-table : (n : ℕ) (f : ℕ → ℕ) → length (table n f) ≡ n
unfolding table
length-table n f = length-map-range_with_len f 0 n

pub slice_index-table : (n : ℕ) (f : ℕ → ℕ) (i : ℕ) → i < n → get_or (table n f) i 0 ≡ f i
unfolding table
slice_index-table n f i lt = get_or-map-range_with_len f 0 n i i 0 lt (zero-add i)

-- a list of n elements, each of which is f of its index, is the table
pub same_as_table : (n : ℕ) (f : ℕ → ℕ) (xs : List ℕ) → length xs ≡ n → ((k : ℕ) → k < n → get_or xs k 0 ≡ f k) → xs ≡ table n f
unfolding table
same_as_table n f xs len each = fill_by_all f xs n 0 len each

-- tables of functions that agree
pub table-same : (n : ℕ) (f g : ℕ → ℕ) → ((k : ℕ) → k < n → f k ≡ g k) → table n f ≡ table n g
table-same n f g h = same_as_table n g (table n f) (length-table n f) (λ k lt. slice_index-table n f k lt ∙ h k lt)
