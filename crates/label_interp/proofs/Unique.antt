-- A polynomial with as many roots as it has coefficients is 0, and so values at as many places decide the coefficients.
use Rattle.std.proofs.Common.{◌≡◌, ℕ, zero, suc, ◌+◌, ◌-◌, ◌*◌, ◌%◌, ◌<◌, ◌≤◌, List, [], ◌∷◌, length, eqb, false, ap, subst, ◌∙◌, sym, arith}
use Rattle.std.specs.List.{AllByRecursion, IsDistinct}
use Rattle.std.proofs.lemmas.Bool.{eqb-false}
use Rattle.std.proofs.Math.Nat.{mod-eq_of_lt}
use Rattle.psi_residue.proofs.Congruences.{cancel}
use Rattle.bin_poly.specs.Horner.{horner}
use Rattle.bin_poly.specs.Roots.{times_root_coefficient}
use Rattle.bin_poly.proofs.Units.{no_zero_divisor, difference-positive, same_from_difference}
use Rattle.bin_poly.proofs.Horner.{nested-add, nested-congruent}
use Rattle.bin_poly.proofs.Factors.{product-first, product-next, product-value, times_none, quotient, quotient-below, quotient-past, quotient-divides}

-- the product with 0 is 0
product-of_zero : (a : ℕ) (q : ℕ → ℕ) → ((i : ℕ) → q i ≡ 0) → (k : ℕ) → times_root_coefficient a q k ≡ 0
product-of_zero a q none zero = product-first a q ∙ ap (λ (u : ℕ). (65537 - a) * u % 65537) (none 0) ∙ ap (λ (u : ℕ). u % 65537) (times_none (65537 - a))
product-of_zero a q none (suc k) =
    let shape : suc k ≡ k + 1 = omega arith in
    ap (times_root_coefficient a q) shape
    ∙ product-next a q k
    ∙ ap (λ (u : ℕ). (u + (65537 - a) * q (k + 1)) % 65537) (none k)
    ∙ ap (λ (u : ℕ). (0 + (65537 - a) * u) % 65537) (none (k + 1))
    ∙ ap (λ (u : ℕ). (0 + u) % 65537) (times_none (65537 - a))

-- other roots are roots of the quotient
quotient-roots : (a n : ℕ) → a < 65537 → (f q : ℕ → ℕ) → ((i : ℕ) → n ≤ i → q i ≡ 0) → ((i : ℕ) → times_root_coefficient a q i ≡ f i)
    → (places : List ℕ) → AllByRecursion (λ x. x < 65537) places → AllByRecursion (λ x. eqb a x ≡ false) places
    → AllByRecursion (λ x. horner f x (n + 1) 0 % 65537 ≡ 0) places → AllByRecursion (λ x. horner q x n 0 % 65537 ≡ 0) places
quotient-roots a n a-small f q past product [] small other zero_at = zero_at
quotient-roots a n a-small f q past product (x ∷ places) small other zero_at =
    let value : horner f x (n + 1) 0 % 65537 ≡ ((x + (65537 - a)) * horner q x n 0) % 65537
    = ap (λ (h : ℕ → ℕ). horner h x (n + 1) 0 % 65537) (λ i k. sym (product k) i) ∙ product-value a q x n past in
    let positive = difference-positive x a small.0 a-small (λ same. eqb-false a x other.0 (sym same)) in (
      no_zero_divisor (x + (65537 - a)) (horner q x n 0) (sym value ∙ zero_at.0) positive,
      quotient-roots a n a-small f q past product places small.1 other.1 zero_at.1,
    )

-- one root more, where fewer coefficients with the other roots are 0
one_root_more : (a m : ℕ) (places : List ℕ) → a < 65537 → AllByRecursion (λ x. x < 65537) places → AllByRecursion (λ x. eqb a x ≡ false) places
    → ((q : ℕ → ℕ) → ((i : ℕ) → m ≤ i → q i ≡ 0) → ((i : ℕ) → q i < 65537) → AllByRecursion (λ x. horner q x m 0 % 65537 ≡ 0) places → (k : ℕ) → q k ≡ 0)
    → (f : ℕ → ℕ) → ((i : ℕ) → suc m ≤ i → f i ≡ 0) → ((i : ℕ) → f i < 65537)
    → horner f a (suc m) 0 % 65537 ≡ 0 → AllByRecursion (λ x. horner f x (suc m) 0 % 65537 ≡ 0) places → (k : ℕ) → f k ≡ 0
one_root_more a m places a-small small other fewer f past below root zero_at k =
    sym (divides k)
    ∙ product-of_zero a (quotient a f (suc m))
    (fewer (quotient a f (suc m)) quotient_past (quotient-below a f (suc m))
    (quotient-roots a m a-small f (quotient a f (suc m)) quotient_past divides places small other at_all)) k
  where
    shape : suc m ≡ m + 1
    shape = omega arith

    divides : (i : ℕ) → times_root_coefficient a (quotient a f (suc m)) i ≡ f i
    divides i = quotient-divides a (omega arith) f (suc m) past root i ∙ mod-eq_of_lt (below i)

    quotient_past : (i : ℕ) → m ≤ i → quotient a f (suc m) i ≡ 0
    quotient_past i low = quotient-past a f (suc m) i (omega arith)

    at_all : AllByRecursion (λ x. horner f x (m + 1) 0 % 65537 ≡ 0) places
    at_all = subst (λ (j : ℕ). AllByRecursion (λ x. horner f x j 0 % 65537 ≡ 0) places) shape zero_at

pub few_roots : (places : List ℕ) → AllByRecursion (λ x. x < 65537) places → IsDistinct eqb places → (f : ℕ → ℕ) (n : ℕ) → n ≡ length places
    → ((i : ℕ) → n ≤ i → f i ≡ 0) → ((i : ℕ) → f i < 65537)
    → AllByRecursion (λ x. horner f x n 0 % 65537 ≡ 0) places → (k : ℕ) → f k ≡ 0
unfolding IsDistinct
few_roots [] small distinct f n count past below zero_at k = past k (omega arith)
few_roots (a ∷ places) small distinct f zero count past below zero_at k = past k (omega arith)
few_roots (a ∷ places) small distinct f (suc m) count past below zero_at k =
    one_root_more a m places small.0 small.1 distinct.0
    (λ q q-past q-below q-zero. few_roots places small.1 distinct.1 q m (omega (arith, count)) q-past q-below q-zero)
    f past below zero_at.0 zero_at.1 k

-- the difference of two polynomials
difference : (f g : ℕ → ℕ) → ℕ → ℕ
difference f g i = (f i + (65537 - g i)) % 65537

difference-sum : (p q : ℕ) → q < 65537 → ((p + (65537 - q)) % 65537 + q) % 65537 ≡ p % 65537
difference-sum p q small = omega arith

difference-root : (f g : ℕ → ℕ) (x n : ℕ) → ((i : ℕ) → g i < 65537) → horner f x n 0 % 65537 ≡ horner g x n 0 % 65537
    → horner (difference f g) x n 0 % 65537 ≡ 0
unfolding difference
difference-root f g x n g-below same =
    cancel 65536 (horner (difference f g) x n 0) 0 (horner g x n 0)
    (ap (λ (u : ℕ). u % 65537) (sym (nested-add (difference f g) g (λ i. x) n 0))
    ∙ nested-congruent 65537 (λ i. difference f g i + g i) f (λ i. x) n 0 (λ i low high. difference-sum (f i) (g i) (g-below i))
    ∙ same
    ∙ ap (λ (u : ℕ). u % 65537) (plus_none (horner g x n 0)))
  where
    plus_none : (u : ℕ) → u ≡ 0 + u
    plus_none u = omega arith

difference-roots : (f g : ℕ → ℕ) (n : ℕ) → ((i : ℕ) → g i < 65537) → (places : List ℕ)
    → AllByRecursion (λ x. horner f x n 0 % 65537 ≡ horner g x n 0 % 65537) places → AllByRecursion (λ x. horner (difference f g) x n 0 % 65537 ≡ 0) places
difference-roots f g n g-below [] same = same
difference-roots f g n g-below (x ∷ places) same = (difference-root f g x n g-below same.0, difference-roots f g n g-below places same.1)

-- values at as many places as there are coefficients decide the coefficients
pub values-decide : (places : List ℕ) → AllByRecursion (λ x. x < 65537) places → IsDistinct eqb places → (f g : ℕ → ℕ) (n : ℕ) → n ≡ length places
    → ((i : ℕ) → n ≤ i → f i ≡ 0) → ((i : ℕ) → n ≤ i → g i ≡ 0) → ((i : ℕ) → f i < 65537) → ((i : ℕ) → g i < 65537)
    → AllByRecursion (λ x. horner f x n 0 % 65537 ≡ horner g x n 0 % 65537) places → (k : ℕ) → f k ≡ g k
unfolding difference
values-decide places small distinct f g n count f-past g-past f-below g-below same k =
    same_from_difference (f k) (g k) (f-below k) (g-below k)
    (few_roots places small distinct (difference f g) n count past (λ i. below (f i) (g i)) (difference-roots f g n g-below places same) k)
  where
    zeros : (p q : ℕ) → p ≡ 0 → q ≡ 0 → (p + (65537 - q)) % 65537 ≡ 0
    zeros p q p-is q-is = omega arith

    below : (p q : ℕ) → (p + (65537 - q)) % 65537 < 65537
    below p q = omega arith

    past : (i : ℕ) → n ≤ i → difference f g i ≡ 0
    past i low = zeros (f i) (g i) (f-past i low) (g-past i low)
