-- Numbers that are near one another modulo q, as functions of the index, and their products with a plaintext.
use Rattle.std.proofs.Common.{◌≡◌, ℕ, suc, ◌+◌, ◌*◌, ◌%◌, ◌<◌, ◌≤◌, refl, ap, ◌∙◌, sym, inl, inr, arith}
use Rattle.std.proofs.lemmas.Bool.{cases_lt}
use Rattle.psi_residue.specs.Sums.{sum_below}
use Rattle.psi_residue.proofs.Sums.{sum_below-add, sum_below-bound}
use Rattle.psi_residue.proofs.Congruences.{sum_congruent, minus_one-times, sum_below-mod}
use Rattle.negacyclic.proofs.Ring.{ring, ring-plus, ring-mod, ring-bound, spread, spread-ring}
use Rattle.bfv_core.specs.Encryptions.{IsNear}

-- The two numbers by which one is near another, and which are 0 where nothing is said.
pub record ErrorAt (count top q bound k i x y : ℕ) : Type 0 where
  pub more : ℕ
  pub less : ℕ
  pub small : more + less ≤ bound
  pub none : top < i → more + less ≡ 0
  pub near : k < count → i ≤ top → (x + less) % q ≡ (y + more) % q

no_error : (count top q bound k i x y : ℕ) → (k < count → i ≤ top → ⊥) → ErrorAt count top q bound k i x y
no_error count top q bound k i x y h = record {
  more = 0;
  less = 0;
  small = omega arith;
  none = λ lt. refl;
  near = λ ltk lei. absurd (h ltk lei);
}

pub errors_at : (count top q bound : ℕ) (x y : ℕ → ℕ → ℕ) → ((k : ℕ) → k < count → (i : ℕ) → i < suc top → IsNear q bound (x k i) (y k i))
    → (k i : ℕ) → ErrorAt count top q bound k i (x k i) (y k i)
errors_at count top q bound x y h k i =
    elim (cases_lt k count) [
      | inl ltk ↦ elim (cases_lt i (suc top)) [
        | inl lti ↦ record {
          more = (h k ltk i lti).more;
          less = (h k ltk i lti).less;
          small = (h k ltk i lti).small;
          none = λ lt. absurd (omega arith);
          near = λ ltk2 lei. (h k ltk i lti).near;
        }
        | inr ge ↦ no_error count top q bound k i (x k i) (y k i) (λ ltk2 lei. omega arith)
      ]
      | inr ge ↦ no_error count top q bound k i (x k i) (y k i) (λ ltk lei. omega arith)
    ]

-- The product of a plaintext p with what is near y by `more` and `less`.
pub near-product : (top q c : ℕ) (p x y more less : ℕ → ℕ) → (c + 1) % q ≡ 0
    → ((i : ℕ) → top < i → p i ≡ 0) → ((i : ℕ) → top < i → more i ≡ 0) → ((i : ℕ) → top < i → less i ≡ 0)
    → ((i : ℕ) → i ≤ top → (x i + less i) % q ≡ (y i + more i) % q) → (k : ℕ) → k ≤ top
    → (ring top c p x k + (spread p less k + spread p more (k + suc top))) % q ≡ (ring top c p y k + (spread p more k + spread p less (k + suc top))) % q
near-product top q c p x y more less e zp zm zl near k le =
    turned (ring top c p x k) (ring top c p y k) (spread p less k) (spread p less (k + suc top)) (spread p more k) (spread p more (k + suc top)) products
  where
    products : (ring top c p x k + (spread p less k + c * spread p less (k + suc top))) % q ≡ (ring top c p y k + (spread p more k + c * spread p more (k + suc top))) % q
    products =
        ap (λ (u : ℕ). (ring top c p x k + u) % q) (spread-ring top c p less zp zl k le)
        ∙ ap (λ (u : ℕ). u % q) (sym (ring-plus top c p x less k))
        ∙ ring-mod q top c c p p (λ l. x l + less l) (λ l. y l + more l) refl (λ l lel. refl) near k le
        ∙ ap (λ (u : ℕ). u % q) (ring-plus top c p y more k)
        ∙ ap (λ (u : ℕ). (ring top c p y k + u) % q) (sym (spread-ring top c p more zp zm k le))

    turned : (x y lessl lessh morel moreh : ℕ) → (x + (lessl + c * lessh)) % q ≡ (y + (morel + c * moreh)) % q
        → (x + (lessl + moreh)) % q ≡ (y + (morel + lessh)) % q
    turned x y lessl lessh morel moreh h =
        let left : x + (lessl + moreh) + c * lessh + lessh ≡ x + (lessl + c * lessh) + (moreh + lessh) = omega arith in
        let right : y + (morel + c * moreh) + (moreh + lessh) ≡ y + (morel + lessh) + c * moreh + moreh = omega arith in
        sym (minus_one-times q c lessh (x + (lessl + moreh)) e)
        ∙ ap (λ (u : ℕ). u % q) left
        ∙ sum_congruent q (x + (lessl + c * lessh)) (y + (morel + c * moreh)) (moreh + lessh) (moreh + lessh) h refl
        ∙ ap (λ (u : ℕ). u % q) right
        ∙ minus_one-times q c moreh (y + (morel + lessh)) e

-- both errors of that product together are small
pub error-bound : (top a b : ℕ) (p more less : ℕ → ℕ)
    → ((i : ℕ) → top < i → p i ≡ 0) → ((i : ℕ) → top < i → more i ≡ 0) → ((i : ℕ) → top < i → less i ≡ 0)
    → ((i : ℕ) → i ≤ top → p i ≤ a) → ((i : ℕ) → i ≤ top → more i + less i ≤ b) → (k : ℕ) → k ≤ top
    → spread p more k + spread p less (k + suc top) + (spread p less k + spread p more (k + suc top)) ≤ suc top * (a * b)
error-bound top a b p more less zp zm zl hp h k le =
    let up = spread-ring top 1 p more zp zm k le in
    let down = spread-ring top 1 p less zp zl k le in
    let sum = ring-plus top 1 p more less k in
    let all = ring-bound top a b p (λ l. more l + less l) hp h k le in
    omega (arith, up, down, sum, all)

-- sums of numbers that are near one another
pub near-sum : (q count : ℕ) (x y more less : ℕ → ℕ) → ((k : ℕ) → k < count → (x k + less k) % q ≡ (y k + more k) % q)
    → (sum_below count x + sum_below count less) % q ≡ (sum_below count y + sum_below count more) % q
near-sum q count x y more less h =
    ap (λ (u : ℕ). u % q) (sym (sum_below-add count x less))
    ∙ sum_below-mod q count (λ k. x k + less k) (λ k. y k + more k) h
    ∙ ap (λ (u : ℕ). u % q) (sum_below-add count y more)

-- what the product with number k of the plaintexts p adds to a number that is near by these errors, and what it takes away
abbrev pub more_term : (count top q bound : ℕ) (p x y : ℕ → ℕ → ℕ) → ((k i : ℕ) → ErrorAt count top q bound k i (x k i) (y k i)) → (i k : ℕ) → ℕ
more_term count top q bound p x y errors i k = spread (p k) (λ l. (errors k l).more) i + spread (p k) (λ l. (errors k l).less) (i + suc top)

abbrev pub less_term : (count top q bound : ℕ) (p x y : ℕ → ℕ → ℕ) → ((k i : ℕ) → ErrorAt count top q bound k i (x k i) (y k i)) → (i k : ℕ) → ℕ
less_term count top q bound p x y errors i k = spread (p k) (λ l. (errors k l).less) i + spread (p k) (λ l. (errors k l).more) (i + suc top)

none_more : (count top q bound k i x y : ℕ) (e : ErrorAt count top q bound k i x y) → top < i → e.more ≡ 0
none_more count top q bound k i x y e lt = let both = e.none lt in omega (arith, both)

none_less : (count top q bound k i x y : ℕ) (e : ErrorAt count top q bound k i x y) → top < i → e.less ≡ 0
none_less count top q bound k i x y e lt = let both = e.none lt in omega (arith, both)

-- The sum of products with what is near y is near the sum of the products with y.
pub near-products : (count top q c bound : ℕ) (p x y : ℕ → ℕ → ℕ) (errors : (k i : ℕ) → ErrorAt count top q bound k i (x k i) (y k i)) → (c + 1) % q ≡ 0
    → ((k : ℕ) → k < count → (i : ℕ) → top < i → p k i ≡ 0) → (i : ℕ) → i ≤ top
    → (sum_below count (λ k. ring top c (p k) (x k) i) + sum_below count (less_term count top q bound p x y errors i)) % q
    ≡ (sum_below count (λ k. ring top c (p k) (y k) i) + sum_below count (more_term count top q bound p x y errors i)) % q
near-products count top q c bound p x y errors e zp i le =
    near-sum q count (λ k. ring top c (p k) (x k) i) (λ k. ring top c (p k) (y k) i) (more_term count top q bound p x y errors i) (less_term count top q bound p x y errors i)
    (λ k lt. near-product top q c (p k) (x k) (y k) (λ l. (errors k l).more) (λ l. (errors k l).less) e (zp k lt)
    (λ l past. none_more count top q bound k l (x k l) (y k l) (errors k l) past)
    (λ l past. none_less count top q bound k l (x k l) (y k l) (errors k l) past)
    (λ l lel. (errors k l).near lt lel) i le)

pub errors-bound : (count top q bound a : ℕ) (p x y : ℕ → ℕ → ℕ) (errors : (k i : ℕ) → ErrorAt count top q bound k i (x k i) (y k i))
    → ((k : ℕ) → k < count → (i : ℕ) → top < i → p k i ≡ 0) → ((k : ℕ) → k < count → (i : ℕ) → i ≤ top → p k i ≤ a) → (i : ℕ) → i ≤ top
    → sum_below count (more_term count top q bound p x y errors i) + sum_below count (less_term count top q bound p x y errors i) ≤ count * (suc top * (a * bound))
errors-bound count top q bound a p x y errors zp hp i le =
    let sum = sum_below-add count (more_term count top q bound p x y errors i) (less_term count top q bound p x y errors i) in
    let all = sum_below-bound count (suc top * (a * bound)) (λ k. more_term count top q bound p x y errors i k + less_term count top q bound p x y errors i k) each in
    omega (arith, sum, all)
  where
    each : (k : ℕ) → k < count → more_term count top q bound p x y errors i k + less_term count top q bound p x y errors i k ≤ suc top * (a * bound)
    each k lt =
        error-bound top a bound (p k) (λ l. (errors k l).more) (λ l. (errors k l).less) (zp k lt)
        (λ l past. none_more count top q bound k l (x k l) (y k l) (errors k l) past)
        (λ l past. none_less count top q bound k l (x k l) (y k l) (errors k l) past)
        (hp k lt) (λ l lel. (errors k l).small) i le
