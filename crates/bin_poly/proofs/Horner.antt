-- Values of polynomials by Horner's rule.
use Rattle.std.proofs.Common.{◌≡◌, ℕ, zero, suc, ◌+◌, ◌-◌, ◌*◌, ◌%◌, ◌^◌, ◌<◌, ◌≤◌, List, length, slice_index, refl, ap, ◌∙◌, sym, arith}
use Rattle.std.proofs.lemmas.Nat.{mul-mod_second}
use Rattle.std.proofs.lemmas.List.{get_or_past}
use Rattle.std.proofs.Math.Nat.{pow-zero, pow-succ', zero-mod}
use Rattle.psi_residue.specs.Sums.{sum_below}
use Rattle.psi_residue.specs.Polynomials.{value_at}
use Rattle.psi_residue.proofs.Sums.{sum_below-zero, sum_below-more}
use Rattle.psi_residue.proofs.Congruences.{sum_congruent, times_congruent, plus_congruent}
use Rattle.bin_poly.specs.Horner.{nested, horner}

pub nested-none : (f g : ℕ → ℕ) (k : ℕ) → nested f g 0 k ≡ 0
unfolding nested
nested-none f g k = refl

pub nested-more : (f g : ℕ → ℕ) (m k : ℕ) → nested f g (m + 1) k ≡ f k + g k * nested f g m (k + 1)
unfolding nested
nested-more f g m k = let e : m + 1 ≡ suc m = omega arith in ap (λ (n : ℕ). nested f g n k) e

-- congruent numbers have congruent values
pub nested-congruent : (n : ℕ) (f h g : ℕ → ℕ) (m k : ℕ) → ((i : ℕ) → k ≤ i → i < k + m → f i % n ≡ h i % n)
    → nested f g m k % n ≡ nested h g m k % n
unfolding nested
nested-congruent n f h g zero k same = refl
nested-congruent n f h g (suc m) k same =
    sum_congruent n (f k) (h k) (g k * nested f g m (k + 1)) (g k * nested h g m (k + 1))
    (same k (omega arith) (omega arith))
    (times_congruent n (g k) (nested f g m (k + 1)) (nested h g m (k + 1))
    (nested-congruent n f h g m (k + 1) (λ i low high. same i (omega arith) (omega arith))))

-- numbers that are 0 from k on
pub nested-past : (f g : ℕ → ℕ) (m k : ℕ) → ((i : ℕ) → k ≤ i → f i ≡ 0) → nested f g m k ≡ 0
unfolding nested
nested-past f g zero k past = refl
nested-past f g (suc m) k past =
    let here = past k (omega arith) in
    let rest = nested-past f g m (k + 1) (λ i low. past i (omega arith)) in
    let product : g k * nested f g m (k + 1) ≡ g k * 0 = ap (λ (u : ℕ). g k * u) rest in
    omega (arith, here, product)

-- numbers that are 0 from k + m on add nothing
pub nested-longer : (f g : ℕ → ℕ) (m j k : ℕ) → ((i : ℕ) → k + m ≤ i → f i ≡ 0) → nested f g (m + j) k ≡ nested f g m k
nested-longer f g zero j k past = ap (λ (n : ℕ). nested f g n k) none ∙ nested-past f g j k (λ i low. past i (omega arith)) ∙ sym (nested-none f g k)
  where
    none : 0 + j ≡ j
    none = omega arith
nested-longer f g (suc m) j k past =
    let shape : suc m + j ≡ m + j + 1 = omega arith in
    let shape_of_m : m + 1 ≡ suc m = omega arith in
    ap (λ (n : ℕ). nested f g n k) shape
    ∙ nested-more f g (m + j) k
    ∙ ap (λ (u : ℕ). f k + g k * u) (nested-longer f g m j (k + 1) (λ i low. past i (omega arith)))
    ∙ sym (nested-more f g m k)
    ∙ ap (λ (n : ℕ). nested f g n k) shape_of_m

-- two numbers of terms past which all are 0 give one value
pub horner-any_length : (f : ℕ → ℕ) (x m n : ℕ) → ((i : ℕ) → m ≤ i → f i ≡ 0) → ((i : ℕ) → n ≤ i → f i ≡ 0)
    → horner f x m 0 ≡ horner f x n 0
horner-any_length f x m n past_m past_n =
    sym (nested-longer f (λ i. x) m n 0 (λ i low. past_m i (omega arith)))
    ∙ ap (λ (j : ℕ). nested f (λ i. x) j 0) swapped
    ∙ nested-longer f (λ i. x) n m 0 (λ i low. past_n i (omega arith))
  where
    swapped : m + n ≡ n + m
    swapped = omega arith

-- the terms below k and Horner's rule from k on make the whole sum
horner-after : (f : ℕ → ℕ) (x m k : ℕ) → x ^ k * horner f x m k + sum_below k (λ i. f i * x ^ i) ≡ sum_below (k + m) (λ i. f i * x ^ i)
unfolding nested
horner-after f x zero k =
    let shape : k ≡ k + 0 = omega arith in
    let same = ap (λ (n : ℕ). sum_below n (λ i. f i * x ^ i)) shape in
    omega (arith, same)
horner-after f x (suc m) k =
    let rest = horner-after f x m (k + 1) in
    let shape : k + 1 + m ≡ k + suc m = omega arith in
    let whole = ap (λ (n : ℕ). sum_below n (λ i. f i * x ^ i)) shape in
    let here = sum_below-more k (λ i. f i * x ^ i) in
    let step : k + 1 ≡ suc k = omega arith in
    let power : x ^ (k + 1) ≡ x * x ^ k = ap (λ (j : ℕ). x ^ j) step ∙ pow-succ' x k in
    let product : x ^ (k + 1) * nested f (λ i. x) m (k + 1) ≡ x * x ^ k * nested f (λ i. x) m (k + 1) = ap (λ (u : ℕ). u * nested f (λ i. x) m (k + 1)) power in
    omega (arith, rest, whole, here, product)

-- Horner's rule gives the sum of the terms
pub horner-sum : (f : ℕ → ℕ) (x n : ℕ) → horner f x n 0 ≡ sum_below n (λ i. f i * x ^ i)
horner-sum f x n =
    let whole = horner-after f x n 0 in
    let none = sum_below-zero (λ i. f i * x ^ i) in
    let shape : 0 + n ≡ n = omega arith in
    let same = ap (λ (j : ℕ). sum_below j (λ i. f i * x ^ i)) shape in
    let power : x ^ 0 * horner f x n 0 ≡ 1 * horner f x n 0 = ap (λ (u : ℕ). u * horner f x n 0) (pow-zero x) in
    omega (arith, whole, none, same, power)

-- and so the value of a list of coefficients
pub value_at-horner : (n : ℕ) (coefficients : List ℕ) (x : ℕ) → value_at n coefficients x ≡ horner (slice_index coefficients) x (length coefficients) 0 % n
unfolding value_at
value_at-horner n coefficients x = ap (λ (u : ℕ). u % n) (sym (horner-sum (slice_index coefficients) x (length coefficients)))

-- a list of coefficients is 0 past its end
pub past_end : (xs : List ℕ) (i : ℕ) → length xs ≤ i → slice_index xs i ≡ 0
past_end xs i le = get_or_past xs i 0 le

-- terms that are each the one before and c times their own
pub horner-shifted : (n c x : ℕ) (f h : ℕ → ℕ) (m k : ℕ) → ((i : ℕ) → h (i + 1) % n ≡ (f i + c * f (i + 1)) % n)
    → horner h x m (k + 1) % n ≡ (horner f x m k + c * horner f x m (k + 1)) % n
unfolding nested
horner-shifted n c x f h zero k same = let e : 0 ≡ 0 + c * 0 = omega arith in ap (λ (u : ℕ). u % n) e
horner-shifted n c x f h (suc m) k same =
    sum_congruent n (h (k + 1)) (f k + c * f (k + 1)) (x * nested h (λ i. x) m (k + 1 + 1)) (x * (nested f (λ i. x) m (k + 1) + c * nested f (λ i. x) m (k + 1 + 1)))
    (same k)
    (times_congruent n x (nested h (λ i. x) m (k + 1 + 1)) (nested f (λ i. x) m (k + 1) + c * nested f (λ i. x) m (k + 1 + 1)) (horner-shifted n c x f h m (k + 1) same))
    ∙ ap (λ (u : ℕ). u % n) (regrouped (f k) (f (k + 1)) (nested f (λ i. x) m (k + 1)) (nested f (λ i. x) m (k + 1 + 1)))
  where
    regrouped : (p q a b : ℕ) → p + c * q + x * (a + c * b) ≡ p + x * a + c * (q + x * b)
    regrouped p q a b = omega arith

pub nested-add : (f h g : ℕ → ℕ) (m k : ℕ) → nested (λ i. f i + h i) g m k ≡ nested f g m k + nested h g m k
unfolding nested
nested-add f h g zero k = refl
nested-add f h g (suc m) k =
    ap (λ (u : ℕ). f k + h k + g k * u) (nested-add f h g m (k + 1)) ∙ regrouped (f k) (h k) (g k) (nested f g m (k + 1)) (nested h g m (k + 1))
  where
    regrouped : (p q c a b : ℕ) → p + q + c * (a + b) ≡ p + c * a + (q + c * b)
    regrouped p q c a b = omega arith

pub nested-times : (c : ℕ) (f g : ℕ → ℕ) (m k : ℕ) → nested (λ i. c * f i) g m k ≡ c * nested f g m k
unfolding nested
nested-times c f g zero k = let e : 0 ≡ c * 0 = omega arith in e
nested-times c f g (suc m) k =
    ap (λ (u : ℕ). c * f k + g k * u) (nested-times c f g m (k + 1)) ∙ regrouped (f k) (g k) (nested f g m (k + 1))
  where
    regrouped : (p q a : ℕ) → c * p + q * (c * a) ≡ c * (p + q * a)
    regrouped p q a = omega arith

-- one step of Horner's rule downwards
pub horner-down : (n : ℕ) (f g : ℕ → ℕ) (whole k so_far : ℕ) → k < whole → so_far ≡ nested f g (whole - (k + 1)) (k + 1) % n
    → (so_far * g k + f k) % n ≡ nested f g (whole - k) k % n
horner-down n f g whole k so_far within is =
    let shape : whole - (k + 1) + 1 ≡ whole - k = omega arith in
    ap (λ (u : ℕ). (u * g k + f k) % n) is
    ∙ ap (λ (u : ℕ). u % n) (turned (nested f g (whole - (k + 1)) (k + 1) % n))
    ∙ plus_congruent n (f k) (g k * (nested f g (whole - (k + 1)) (k + 1) % n)) (g k * nested f g (whole - (k + 1)) (k + 1))
    (mul-mod_second (g k) (nested f g (whole - (k + 1)) (k + 1)) n)
    ∙ ap (λ (u : ℕ). u % n) (sym (nested-more f g (whole - (k + 1)) k))
    ∙ ap (λ (m : ℕ). nested f g m k % n) shape
  where
    turned : (u : ℕ) → u * g k + f k ≡ f k + g k * u
    turned u = omega arith

-- one step down from k
pub horner-step : (n : ℕ) (f g : ℕ → ℕ) (whole k so_far : ℕ) → 0 < k → k ≤ whole → so_far ≡ nested f g (whole - k) k % n
    → (so_far * g (k - 1) + f (k - 1)) % n ≡ nested f g (whole - (k - 1)) (k - 1) % n
horner-step n f g whole k so_far some within is =
    let shape : k ≡ k - 1 + 1 = omega arith in
    horner-down n f g whole (k - 1) so_far (omega arith) (is ∙ ap (λ (j : ℕ). nested f g (whole - j) j % n) shape)

-- before the first step
pub horner-start : (n : ℕ) (f g : ℕ → ℕ) (whole k : ℕ) → whole ≤ k → 0 ≡ nested f g (whole - k) k % n
horner-start n f g whole k le =
    let none : whole - k ≡ 0 = omega arith in
    sym (ap (λ (m : ℕ). nested f g m k % n) none ∙ ap (λ (u : ℕ). u % n) (nested-none f g k) ∙ zero-mod n)
