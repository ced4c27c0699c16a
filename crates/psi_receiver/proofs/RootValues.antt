-- The value of a polynomial by reduced powers; that of a bin's root polynomial is 0 exactly where the argument is a root.
use Rattle.std.proofs.Common.{◌≡◌, ℕ, suc, ◌+◌, ◌-◌, ◌*◌, ◌%◌, ◌^◌, ◌<◌, List, [], ◌∷◌, Bool, eqb, ◌||◌, refl, ap, ◌∙◌, sym, inl, inr, arith}
use Rattle.std.specs.Prelude.{nat_eq}
use Rattle.std.specs.List.{list_any, AllByRecursion}
use Rattle.std.proofs.lemmas.Bool.{cases_eq, eq-eqb, ne_eqb}
use Rattle.std.proofs.lemmas.Nat.{mul-mod_second}
use Rattle.std.proofs.Math.Nat.{mod-eq_of_lt, pow-zero}
use Rattle.psi_residue.specs.Numbers.{plain_modulus}
use Rattle.psi_residue.specs.Sums.{sum_below}
use Rattle.psi_residue.specs.RootPolynomials.{root_value}
use Rattle.bin_poly.specs.Horner.{horner}
use Rattle.psi_residue.proofs.Sums.{sum_below-same, sum_below-first}
use Rattle.psi_residue.proofs.Congruences.{sum_below-mod, sum_congruent}
use Rattle.bin_poly.proofs.Horner.{horner-sum}
use Rattle.bin_poly.proofs.Products.{root_value-below, own-factor}
use Rattle.bin_poly.proofs.Units.{nonzero_product, difference-positive}

once : (n : ℕ) → n * 1 ≡ n
once n = omega arith

-- the sum of coefficients times powers, which are reduced, is the polynomial's value
pub values-evaluated : (f : ℕ → ℕ) (v capacity : ℕ)
    → (sum_below capacity (λ k. f (k + 1) * (v ^ (k + 1) % plain_modulus)) + f 0) % plain_modulus ≡ horner f v (suc capacity) 0 % plain_modulus
values-evaluated f v capacity =
    sum_congruent plain_modulus (sum_below capacity (λ k. f (k + 1) * (v ^ (k + 1) % plain_modulus))) (sum_below capacity (λ k. term (k + 1)))
    (f 0) (f 0)
    (sum_below-mod plain_modulus capacity (λ k. f (k + 1) * (v ^ (k + 1) % plain_modulus)) (λ k. term (k + 1))
    (λ k lt. mul-mod_second (f (k + 1)) (v ^ (k + 1)) plain_modulus))
    refl
    ∙ ap (λ (u : ℕ). u % plain_modulus) (whole ∙ sym (horner-sum f v (suc capacity)))
  where
    term : ℕ → ℕ
    term k = f k * v ^ k

    next : (k : ℕ) → term (k + 1) ≡ term (suc k)
    next k = let e : k + 1 ≡ suc k = omega arith in ap term e

    constant : term 0 ≡ f 0
    constant = ap (λ (u : ℕ). f 0 * u) (pow-zero v) ∙ once (f 0)

    whole : sum_below capacity (λ k. term (k + 1)) + f 0 ≡ sum_below (suc capacity) term
    whole =
        let first = sum_below-first capacity term in
        let same = sum_below-same capacity (λ k. term (k + 1)) (λ k. term (suc k)) (λ k lt. next k) in
        omega (arith, first, same, constant)

either_zero : (x w : ℕ) → 0 < x % plain_modulus → w < plain_modulus → eqb (x * w % plain_modulus) 0 ≡ eqb w 0
either_zero x w positive below =
    elim (cases_eq w 0) [
      | inl none ↦
          let product : x * 0 ≡ 0 = omega arith in
          eq-eqb (x * w % plain_modulus) 0 (ap (λ (u : ℕ). x * u % plain_modulus) none ∙ ap (λ (u : ℕ). u % plain_modulus) product) ∙ sym (eq-eqb w 0 none)
      | inr some ↦
          let reduced : w % plain_modulus ≡ w = mod-eq_of_lt below in
          let above = nonzero_product x w positive (omega (arith, reduced)) in
          ne_eqb (x * w % plain_modulus) 0 (λ e. absurd (omega (arith, above, e))) ∙ sym (ne_eqb w 0 some)
    ]

-- the product over the roots is 0 exactly at the roots
pub zero_at_roots : (v : ℕ) → v < plain_modulus → (roots : List ℕ) → AllByRecursion (λ a. a < plain_modulus) roots
    → eqb (root_value roots v) 0 ≡ list_any (nat_eq v) roots
zero_at_roots v small [] below = refl
zero_at_roots v small (a ∷ roots) below =
    elim (cases_eq v a) [
      | inl same ↦
          eq-eqb (root_value (a ∷ roots) v) 0 (ap (λ (b : ℕ). (b + (plain_modulus - a)) * root_value roots v % plain_modulus) same ∙ own-factor a below.0 (root_value roots v))
          ∙ sym (ap (λ (b : Bool). b || list_any (nat_eq v) roots) (eq-eqb v a same))
      | inr other ↦
          either_zero (v + (plain_modulus - a)) (root_value roots v) (difference-positive v a small below.0 other) (root_value-below roots v)
          ∙ zero_at_roots v small roots below.1
          ∙ sym (ap (λ (b : Bool). b || list_any (nat_eq v) roots) (ne_eqb v a other))
    ]
