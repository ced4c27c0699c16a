-- Tests that a table of factors passes, each computed once, and what they mean.
use Rattle.std.proofs.Common.{◌≡◌, ℕ, zero, suc, ◌+◌, ◌-◌, ◌*◌, ◌/◌, ◌%◌, ◌^◌, ◌<◌, ◌≤◌, Bool, true, false, ◌&&◌, List, [], ◌∷◌, get_or, drop, refl, ap, ◌∙◌, sym, subst, inl, inr, arith, eqb, ltb}
use Rattle.std.proofs.lemmas.Bool.{and_parts, eqb-true, ltb-true, cases_eq, false≢true}
use Rattle.std.proofs.lemmas.List.{get_or-drop}
use Rattle.std.proofs.lemmas.List.Elements.{All-nil, All-cons}
use Rattle.std.proofs.lemmas.Nat.{mul-mod_first, pow-mod, pow-add}
use Rattle.std.proofs.Math.Nat.{pow-zero, pow-succ', mod-mod}
use Rattle.psi_residue.specs.declared.numbers.Modulus.TheVariants as moduli
use Rattle.psi_residue.specs.Numbers.{root, root_of}
use Rattle.negacyclic.specs.declared.factors.Factor.{Factor}
use Rattle.negacyclic.specs.declared.first_factors.TheConstants as first
use Rattle.negacyclic.specs.declared.second_factors.TheConstants as second
use Rattle.negacyclic.specs.declared.plain_factors.TheConstants as plain
use Rattle.negacyclic.specs.Butterflies.{IsFactor, AreFactors, HasPowers, IsTable, numbers_of}
use Rattle.psi_residue.proofs.Congruences.{product_congruent}
use Rattle.psi_residue.proofs.Powers.{pow-pow}

-- ---- factors

unfoldable pub factors_test : ℕ → List Factor → Bool
factors_test q [] = true
factors_test q (f ∷ fs) = (ltb f.number q && eqb f.quotient (f.number * 2 ^ 64 / q)) && factors_test q fs

pub factors-sound : (q : ℕ) (fs : List Factor) → factors_test q fs ≡ true → AreFactors q fs
unfolding factors_test
factors-sound q [] h = All-nil (λ f. IsFactor q f.number f.quotient)
factors-sound q (f ∷ fs) h =
    let both = and_parts _ _ h in
    let here = and_parts _ _ both.0 in
    All-cons (λ f. IsFactor q f.number f.quotient) f fs
    (record { reduced = ltb-true f.number q here.0; scaled = eqb-true f.quotient (f.number * 2 ^ 64 / q) here.1 })
    (factors-sound q fs both.1)

-- ---- powers

-- the list begins with n numbers, of which the first is the power and each next one is the ratio times the one before
unfoldable pub powers_test : (q ratio power n : ℕ) → List ℕ → Bool
powers_test q ratio power zero ws = true
powers_test q ratio power (suc n) [] = false
powers_test q ratio power (suc n) (w ∷ ws) = eqb w power && powers_test q ratio (power * ratio % q) n ws

pub powers-sound : (q ratio power n : ℕ) (ws : List ℕ) → powers_test q ratio power n ws ≡ true → (j : ℕ) → j < n → get_or ws j 0 % q ≡ (power * ratio ^ j) % q
unfolding powers_test
powers-sound q ratio power zero ws h j lt = absurd (omega arith)
powers-sound q ratio power (suc n) [] h j lt = absurd (false≢true h)
powers-sound q ratio power (suc n) (w ∷ ws) h zero lt =
    let both = and_parts _ _ h in
    let one : power ≡ power * 1 = omega arith in
    ap (λ (u : ℕ). u % q) (eqb-true w power both.0 ∙ one ∙ ap (λ (u : ℕ). power * u) (sym (pow-zero ratio)))
powers-sound q ratio power (suc n) (w ∷ ws) h (suc j) lt =
    let both = and_parts _ _ h in
    powers-sound q ratio (power * ratio % q) n ws both.1 j (omega arith)
    ∙ mul-mod_first (power * ratio) (ratio ^ j) q
    ∙ ap (λ (u : ℕ). u % q) (regrouped power ratio (ratio ^ j) ∙ ap (λ (u : ℕ). power * u) (sym (pow-succ' ratio j)))
  where
    regrouped : (a b c : ℕ) → a * b * c ≡ a * (b * c)
    regrouped a b c = omega arith

-- the list begins with the levels i, i + 1, .. of which there are k
unfoldable pub levels_test : (q x i k : ℕ) → List ℕ → Bool
levels_test q x i zero ws = true
levels_test q x i (suc k) ws = powers_test q (x ^ (2 * 2 ^ (11 - i)) % q) (x ^ 2 ^ (11 - i) % q) (2 ^ i) ws && levels_test q x (i + 1) k (drop (2 ^ i) ws)

-- the odd powers of x^s, by the square of that
odd_powers : (q x s j : ℕ) → (x ^ s % q * (x ^ (2 * s) % q) ^ j) % q ≡ x ^ (s * (2 * j + 1)) % q
odd_powers q x s j =
    let exponent : s + 2 * s * j ≡ s * (2 * j + 1) = omega arith in
    product_congruent q (x ^ s % q) (x ^ s) ((x ^ (2 * s) % q) ^ j) (x ^ (2 * s * j)) (mod-mod (x ^ s) q) (pow-mod (x ^ (2 * s)) j q ∙ ap (λ (u : ℕ). u % q) (pow-pow x (2 * s) j))
    ∙ ap (λ (u : ℕ). u % q) (sym (pow-add x s (2 * s * j)) ∙ ap (λ (u : ℕ). x ^ u) exponent)

level-sound : (q x l s : ℕ) (ws numbers : List ℕ) → powers_test q (x ^ (2 * s) % q) (x ^ s % q) l ws ≡ true → ((j : ℕ) → get_or ws j 0 ≡ get_or numbers (l + j) 0) → HasPowers q x l s numbers
level-sound q x l s ws numbers h place = record {
  each = λ j lt. ap (λ (u : ℕ). u % q) (sym (place j)) ∙ powers-sound q (x ^ (2 * s) % q) (x ^ s % q) l ws h j lt ∙ odd_powers q x s j;
}

two_halves : (i : ℕ) → 2 ^ (i + 1) ≡ 2 ^ i + 2 ^ i
two_halves i =
    let e : i + 1 ≡ suc i = omega arith in
    let more = pow-succ' 2 i in
    ap (λ (j : ℕ). 2 ^ j) e ∙ (let z : 2 ^ suc i ≡ 2 ^ i + 2 ^ i = omega (arith, more) in z)

levels-sound : (q x i k : ℕ) (ws numbers : List ℕ) → levels_test q x i k ws ≡ true → ((j : ℕ) → get_or ws j 0 ≡ get_or numbers (2 ^ i + j) 0)
    → (n : ℕ) → i ≤ n → n < i + k → HasPowers q x (2 ^ n) (2 ^ (11 - n)) numbers
unfolding levels_test
levels-sound q x i zero ws numbers h place n le lt = absurd (omega arith)
levels-sound q x i (suc k) ws numbers h place n le lt =
    let both = and_parts _ _ h in
    elim (cases_eq n i) [
      | inl here ↦
          subst (λ (u : ℕ). HasPowers q x (2 ^ u) (2 ^ (11 - u)) numbers) (sym here) (level-sound q x (2 ^ i) (2 ^ (11 - i)) ws numbers both.0 place)
      | inr other ↦
          levels-sound q x (i + 1) k (drop (2 ^ i) ws) numbers both.1
          (λ j.
          let next : 2 ^ i + (2 ^ i + j) ≡ 2 ^ (i + 1) + j = omega (arith, two_halves i) in
          get_or-drop (2 ^ i) ws j 0 ∙ place (2 ^ i + j) ∙ ap (λ (u : ℕ). get_or numbers u 0) next)
          n (omega (arith, other)) (omega arith)
    ]

-- all twelve levels, after place 0
unfoldable pub table_test : (q x : ℕ) → List ℕ → Bool
table_test q x [] = false
table_test q x (w ∷ ws) = levels_test q x 0 12 ws

pub table-sound : (q x : ℕ) (numbers : List ℕ) → table_test q x numbers ≡ true → IsTable q x numbers
unfolding table_test
table-sound q x [] h = absurd (false≢true h)
table-sound q x (w ∷ ws) h = record {
  level = λ n lt. levels-sound q x 0 12 ws (w ∷ ws) h (λ j. sym (next j)) n (omega arith) (omega arith);
}
  where
    next : (j : ℕ) → get_or (w ∷ ws) (2 ^ 0 + j) 0 ≡ get_or ws j 0
    next j = let e : 2 ^ 0 + j ≡ suc j = omega arith in ap (λ (u : ℕ). get_or (w ∷ ws) u 0) e

-- ---- the three tables

pub first-factors : AreFactors 68719403009 first.FACTORS
unfolding factors_test
first-factors = factors-sound 68719403009 first.FACTORS refl

pub first-powers : IsTable 68719403009 (root_of moduli.Q1) (numbers_of first.FACTORS)
unfolding table_test levels_test powers_test root_of
first-powers = table-sound 68719403009 5546991020 (numbers_of first.FACTORS) refl

pub second-factors : AreFactors 68719230977 second.FACTORS
unfolding factors_test
second-factors = factors-sound 68719230977 second.FACTORS refl

pub second-powers : IsTable 68719230977 (root_of moduli.Q2) (numbers_of second.FACTORS)
unfolding table_test levels_test powers_test root_of
second-powers = table-sound 68719230977 41019061109 (numbers_of second.FACTORS) refl

pub plain-factors : AreFactors 65537 plain.FACTORS
unfolding factors_test
plain-factors = factors-sound 65537 plain.FACTORS refl

pub plain-powers : IsTable 65537 (root_of moduli.T) (numbers_of plain.FACTORS)
unfolding table_test levels_test powers_test root_of root
plain-powers = table-sound 65537 6561 (numbers_of plain.FACTORS) refl
