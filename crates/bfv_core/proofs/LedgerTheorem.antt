-- What an evaluation carries and opens to.
use Rattle.std.proofs.Common.{◌≡◌, ℕ, suc, ◌+◌, ◌*◌, ◌/◌, ◌%◌, ◌^◌, ◌<◌, ◌≤◌, List, length, get_or, refl, ap, ◌∙◌, sym, arith}
use Rattle.std.specs.Prelude.{ℤ}
use Rattle.std.proofs.Math.Nat.{mod-mod}
use Rattle.psi_residue.specs.Sums.{sum_below}
use Rattle.psi_residue.specs.Numbers.{ring_degree, plain_modulus, cipher_modulus, scale, scale_rest, root}
use Rattle.psi_residue.specs.Parameters.{Parameters}
use Rattle.psi_residue.specs.Polynomials.{IsPolynomial}
use Rattle.psi_residue.specs.Ring.{conv, product_at}
use Rattle.psi_residue.specs.Slots.{slot_of}
use Rattle.psi_residue.proofs.Sums.{sum_below-same, sum_below-add, sum_below-times, sum_below-bound, length-table, slice_index-table, same_as_table}
use Rattle.psi_residue.proofs.Congruences.{sum_congruent, minus_one-same, sum_below-mod}
use Rattle.negacyclic.proofs.Ring.{ring, ring-times, ring-bound, spread-ring}
use Rattle.negacyclic.proofs.Products.{conv-spread, past-end, product-ring, product_at-conv}
use Rattle.negacyclic.proofs.RingValues.{value, value-evaluated}
use Rattle.noise_ledger.specs.Ledgers.{greatest_error, greatest_coefficient, carry_of, noise_of, used_of, passes}
use Rattle.bfv_core.specs.Encryptions.{IsNear, Carries, phase, opened_coefficient, opening}
use Rattle.psi_residue.specs.Evaluations.{evaluated}
use Rattle.bfv_core.specs.Evaluations.{evaluated_plain, IsEvaluable, whole_more, whole_less, IsCarry, IsScaledCarry, IsSlotwise}
use Rattle.bfv_core.proofs.LedgerErrors.{ErrorAt, errors_at, more_term, less_term, near-products, errors-bound}
use Rattle.bfv_core.proofs.LedgerCarries.{CarryOf, carry-of, carry-bound, carry-scaled, near-carried}
use Rattle.bfv_core.proofs.LedgerOpenings.{opened-near}
use Rattle.negacyclic.proofs.RingLaws.{root_is, slot-value}
use Rattle.psi_residue.proofs.Powers.{odd_root}
use Rattle.bfv_core.proofs.LedgerEvaluations.{minus_one, minus_one-both, coefficient, evaluated-phase}

-- the products of plaintexts over the whole numbers, by c
conv-ring : (c : ℕ) (a b : List ℕ) → length a ≡ suc 4095 → length b ≡ suc 4095 → (i : ℕ) → i ≤ 4095
    → conv a b i + c * conv a b (i + 4096) ≡ ring 4095 c (coefficient a) (coefficient b) i
conv-ring c a b la lb i le =
    let low = conv-spread a b i in
    let high = ap (λ (u : ℕ). c * u) (conv-spread a b (i + 4096)) in
    let whole = spread-ring 4095 c (coefficient a) (coefficient b) (past-end 4095 a la) (past-end 4095 b lb) i le in
    omega (arith, low, high, whole)

-- a sum of scaled products, by c
scaled-sum : (c delta count : ℕ) (factors plaintexts : ℕ → List ℕ)
    → ((k : ℕ) → k < count → length (factors (k + 1)) ≡ suc 4095) → ((k : ℕ) → k < count → length (plaintexts k) ≡ suc 4095) → (i : ℕ) → i ≤ 4095
    → sum_below count (λ k. ring 4095 c (coefficient (factors (k + 1))) (λ l. delta * coefficient (plaintexts k) l) i) + delta * coefficient (factors 0) i
    ≡ delta * (whole_more count factors plaintexts i + c * whole_less count factors plaintexts i)
unfolding whole_more whole_less
scaled-sum c delta count factors plaintexts lf lp i le =
    let terms = sum_below-same count (λ k. ring 4095 c (coefficient (factors (k + 1))) (λ l. delta * coefficient (plaintexts k) l) i)
    (λ k. delta * (conv (factors (k + 1)) (plaintexts k) i + c * conv (factors (k + 1)) (plaintexts k) (i + 4096))) each in
    let factor = sum_below-times count delta (λ k. conv (factors (k + 1)) (plaintexts k) i + c * conv (factors (k + 1)) (plaintexts k) (i + 4096)) in
    let sum = sum_below-add count (λ k. conv (factors (k + 1)) (plaintexts k) i) (λ k. c * conv (factors (k + 1)) (plaintexts k) (i + 4096)) in
    let high = sum_below-times count c (λ k. conv (factors (k + 1)) (plaintexts k) (i + 4096)) in
    by_parts _ _ _ _ _ _ (terms ∙ factor) sum high
  where
    each : (k : ℕ) → k < count → ring 4095 c (coefficient (factors (k + 1))) (λ l. delta * coefficient (plaintexts k) l) i
        ≡ delta * (conv (factors (k + 1)) (plaintexts k) i + c * conv (factors (k + 1)) (plaintexts k) (i + 4096))
    each k lt =
        ring-times 4095 c (coefficient (factors (k + 1))) delta (coefficient (plaintexts k)) i
        ∙ ap (λ (u : ℕ). delta * u) (sym (conv-ring c (factors (k + 1)) (plaintexts k) (lf k lt) (lp k lt) i le))

    by_parts : (terms both low high_terms high f : ℕ) → terms ≡ delta * both → both ≡ low + high_terms → high_terms ≡ c * high
        → terms + delta * f ≡ delta * (low + f + c * high)
    by_parts terms both low high_terms high f e1 e2 e3 =
        let whole : delta * both ≡ delta * (low + high_terms) = ap (λ (u : ℕ). delta * u) e2 in
        let part : delta * high_terms ≡ delta * (c * high) = ap (λ (u : ℕ). delta * u) e3 in
        omega arith

-- the greatest sum of products of plaintexts
products-bound : (count : ℕ) (factors plaintexts : ℕ → List ℕ)
    → ((k : ℕ) → k < count → IsPolynomial plain_modulus (factors (k + 1))) → ((k : ℕ) → k < count → IsPolynomial plain_modulus (plaintexts k)) → (i : ℕ) → i ≤ 4095
    → sum_below count (λ k. conv (factors (k + 1)) (plaintexts k) i) + sum_below count (λ k. conv (factors (k + 1)) (plaintexts k) (i + 4096))
    ≤ count * (4096 * (65536 * 65536))
products-bound count factors plaintexts hf hp i le =
    let sum = sum_below-add count (λ k. conv (factors (k + 1)) (plaintexts k) i) (λ k. conv (factors (k + 1)) (plaintexts k) (i + 4096)) in
    let bound = sum_below-bound count (4096 * (65536 * 65536)) (λ k. conv (factors (k + 1)) (plaintexts k) i + conv (factors (k + 1)) (plaintexts k) (i + 4096)) each in
    omega (arith, sum, bound)
  where
    below : (xs : List ℕ) (l : ℕ) → IsPolynomial plain_modulus xs → l ≤ 4095 → coefficient xs l ≤ 65536
    below xs l h lel = let lt = h.below l (omega arith) in omega (arith, lt)

    each : (k : ℕ) → k < count → conv (factors (k + 1)) (plaintexts k) i + conv (factors (k + 1)) (plaintexts k) (i + 4096) ≤ 4096 * (65536 * 65536)
    each k lt =
        let whole = conv-ring 1 (factors (k + 1)) (plaintexts k) (hf k lt).size (hp k lt).size i le in
        let bound = ring-bound 4095 65536 65536 (coefficient (factors (k + 1))) (coefficient (plaintexts k))
        (λ l lel. below (factors (k + 1)) l (hf k lt) lel) (λ l lel. below (plaintexts k) l (hp k lt) lel) i le in
        omega (arith, whole, bound)

-- a coefficient of the plaintext that the evaluation is to carry
plain-at : (count : ℕ) (factors plaintexts : ℕ → List ℕ) (i : ℕ) → i ≤ 4095
    → get_or (evaluated_plain count factors plaintexts) i 0
    ≡ (sum_below count (λ k. product_at plain_modulus ring_degree (factors (k + 1)) (plaintexts k) i) + coefficient (factors 0) i) % plain_modulus
unfolding evaluated_plain
plain-at count factors plaintexts i le =
    slice_index-table 4096 (λ l. (sum_below count (λ k. product_at plain_modulus ring_degree (factors (k + 1)) (plaintexts k) l) + coefficient (factors 0) l) % plain_modulus)
    i (omega arith)

-- it is M modulo the plaintext modulus
plain-whole : (count : ℕ) (factors plaintexts : ℕ → List ℕ) (i : ℕ) → i ≤ 4095
    → whole_more count factors plaintexts i % plain_modulus
    ≡ (whole_less count factors plaintexts i + get_or (evaluated_plain count factors plaintexts) i 0) % plain_modulus
unfolding whole_more whole_less
plain-whole count factors plaintexts i le =
    sym (ap (λ (u : ℕ). (sum_below count (λ k. conv (factors (k + 1)) (plaintexts k) (i + 4096)) + u) % plain_modulus) (plain-at count factors plaintexts i le)
    ∙ regroup plain_modulus (sum_below count (λ k. conv (factors (k + 1)) (plaintexts k) (i + 4096)))
    (sum_below count (λ k. product_at plain_modulus 4096 (factors (k + 1)) (plaintexts k) i))
    (sum_below count (λ k. conv (factors (k + 1)) (plaintexts k) i)) (coefficient (factors 0) i) sums)
  where
    sums : (sum_below count (λ k. product_at plain_modulus 4096 (factors (k + 1)) (plaintexts k) i) + sum_below count (λ k. conv (factors (k + 1)) (plaintexts k) (i + 4096))) % plain_modulus
        ≡ sum_below count (λ k. conv (factors (k + 1)) (plaintexts k) i) % plain_modulus
    sums =
        ap (λ (u : ℕ). u % plain_modulus)
        (sym (sum_below-add count (λ k. product_at plain_modulus 4096 (factors (k + 1)) (plaintexts k) i) (λ k. conv (factors (k + 1)) (plaintexts k) (i + 4096))))
        ∙ sum_below-mod plain_modulus count
        (λ k. product_at plain_modulus 4096 (factors (k + 1)) (plaintexts k) i + conv (factors (k + 1)) (plaintexts k) (i + 4096))
        (λ k. conv (factors (k + 1)) (plaintexts k) i)
        (λ k lt. product_at-conv plain_modulus 4096 (factors (k + 1)) (plaintexts k) i (omega arith))

    regroup : (m high products low f : ℕ) → (products + high) % m ≡ low % m → (high + (products + f) % m) % m ≡ (low + f) % m
    regroup m high products low f e =
        let whole : high + (products + f) ≡ products + high + f = omega arith in
        sum_congruent m high high ((products + f) % m) (products + f) refl (mod-mod (products + f) m)
        ∙ ap (λ (u : ℕ). u % m) whole
        ∙ sum_congruent m (products + high) low f f e refl

plain-below : (count : ℕ) (factors plaintexts : ℕ → List ℕ) (i : ℕ) → i ≤ 4095 → get_or (evaluated_plain count factors plaintexts) i 0 < plain_modulus
plain-below count factors plaintexts i le =
    below (sum_below count (λ k. product_at plain_modulus ring_degree (factors (k + 1)) (plaintexts k) i) + coefficient (factors 0) i)
    (get_or (evaluated_plain count factors plaintexts) i 0) (plain-at count factors plaintexts i le)
  where
    below : (x y : ℕ) → y ≡ x % plain_modulus → y < plain_modulus
    below x y e = omega arith

-- what stands on both sides of M is small enough for the carry
pub big : ℕ → ℕ
big count = count * (4096 * (65536 * 65536)) + 65536

more-bound : (p : Parameters) (key : List ℤ) (ciphertexts : ℕ → List (List ℕ)) (plaintexts factors : ℕ → List ℕ) → IsEvaluable p key ciphertexts plaintexts factors
    → (i : ℕ) → i ≤ 4095 → whole_more p.capacity factors plaintexts i ≤ big p.capacity
unfolding whole_more big
more-bound p key ciphertexts plaintexts factors h i le =
    let products = products-bound p.capacity factors plaintexts (λ k lt. h.polynomials (k + 1) (omega arith)) h.plain i le in
    let constant = (h.polynomials 0 (omega arith)).below i (omega arith) in
    omega (arith, products, constant)

less-bound : (p : Parameters) (key : List ℤ) (ciphertexts : ℕ → List (List ℕ)) (plaintexts factors : ℕ → List ℕ) → IsEvaluable p key ciphertexts plaintexts factors
    → (i : ℕ) → i ≤ 4095 → whole_less p.capacity factors plaintexts i + get_or (evaluated_plain p.capacity factors plaintexts) i 0 ≤ big p.capacity
unfolding whole_less big
less-bound p key ciphertexts plaintexts factors h i le =
    let products = products-bound p.capacity factors plaintexts (λ k lt. h.polynomials (k + 1) (omega arith)) h.plain i le in
    let rest = plain-below p.capacity factors plaintexts i le in
    omega (arith, products, rest)

carry-is : (count : ℕ) → carry_of count ≡ big count / plain_modulus + 1
unfolding carry_of big
carry-is count =
    let e : count * (4096 * 65536 * 65536) + 65536 ≡ count * (4096 * (65536 * 65536)) + 65536 = omega arith in
    ap (λ (u : ℕ). u / 65537 + 1) e

-- each coefficient of M is the plaintext's and t times a whole number, of at most the carry
pub evaluation-carry : (p : Parameters) (key : List ℤ) (ciphertexts : ℕ → List (List ℕ)) (plaintexts factors : ℕ → List ℕ)
    → IsEvaluable p key ciphertexts plaintexts factors → (i : ℕ) → i ≤ 4095
    → CarryOf plain_modulus (big p.capacity / plain_modulus) (whole_more p.capacity factors plaintexts i)
    (whole_less p.capacity factors plaintexts i + get_or (evaluated_plain p.capacity factors plaintexts) i 0)
evaluation-carry p key ciphertexts plaintexts factors h i le =
    carry-of plain_modulus (big p.capacity) (whole_more p.capacity factors plaintexts i)
    (whole_less p.capacity factors plaintexts i + get_or (evaluated_plain p.capacity factors plaintexts) i 0) (omega arith)
    (more-bound p key ciphertexts plaintexts factors h i le) (less-bound p key ciphertexts plaintexts factors h i le)
    (plain-whole p.capacity factors plaintexts i le)

-- a carry is of at most the ledger's
pub carry-small : (p : Parameters) (key : List ℤ) (ciphertexts : ℕ → List (List ℕ)) (plaintexts factors : ℕ → List ℕ)
    → IsEvaluable p key ciphertexts plaintexts factors → (i : ℕ) → i ≤ 4095 → (up down : ℕ) → IsCarry p.capacity factors plaintexts i up down
    → (up ≤ down + carry_of p.capacity) × (down ≤ up + carry_of p.capacity)
carry-small p key ciphertexts plaintexts factors h i le up down e =
    let above = carry-bound plain_modulus (big p.capacity) (whole_more p.capacity factors plaintexts i)
    (whole_less p.capacity factors plaintexts i + get_or (evaluated_plain p.capacity factors plaintexts) i 0) up down (omega arith) e
    (more-bound p key ciphertexts plaintexts factors h i le) in
    let below = carry-bound plain_modulus (big p.capacity)
    (whole_less p.capacity factors plaintexts i + get_or (evaluated_plain p.capacity factors plaintexts) i 0)
    (whole_more p.capacity factors plaintexts i) down up (omega arith) (sym e)
    (less-bound p key ciphertexts plaintexts factors h i le) in
    let same = carry-is p.capacity in
    (omega (arith, above, same), omega (arith, below, same))

-- under the scale a carry is its rest
pub carry-rest : (count : ℕ) (factors plaintexts : ℕ → List ℕ) (i up down : ℕ) → IsCarry count factors plaintexts i up down → IsScaledCarry count factors plaintexts i up down
carry-rest count factors plaintexts i up down e =
    carry-scaled cipher_modulus scale plain_modulus scale_rest (whole_more count factors plaintexts i) (whole_less count factors plaintexts i)
    (get_or (evaluated_plain count factors plaintexts) i 0) up down refl e

-- the sizes and bounds of the factors
factor-past : (p : Parameters) (key : List ℤ) (ciphertexts : ℕ → List (List ℕ)) (plaintexts factors : ℕ → List ℕ) → IsEvaluable p key ciphertexts plaintexts factors
    → (k : ℕ) → k < p.capacity → (i : ℕ) → 4095 < i → coefficient (factors (k + 1)) i ≡ 0
factor-past p key ciphertexts plaintexts factors h k lt i past = past-end 4095 (factors (k + 1)) (h.polynomials (k + 1) (omega arith)).size i past

factor-bound : (p : Parameters) (key : List ℤ) (ciphertexts : ℕ → List (List ℕ)) (plaintexts factors : ℕ → List ℕ) → IsEvaluable p key ciphertexts plaintexts factors
    → (k : ℕ) → k < p.capacity → (i : ℕ) → i ≤ 4095 → coefficient (factors (k + 1)) i ≤ 65536
factor-bound p key ciphertexts plaintexts factors h k lt i le =
    let below = (h.polynomials (k + 1) (omega arith)).below i (omega arith) in
    omega (arith, below)

-- the ciphertexts' errors
abbrev Errors : Parameters → List ℤ → (ℕ → List (List ℕ)) → (ℕ → List ℕ) → Type 0
Errors p key ciphertexts plaintexts = (k i : ℕ) → ErrorAt p.capacity 4095 cipher_modulus greatest_error k i (phase key (ciphertexts k) i) (scale * coefficient (plaintexts k) i)

abbrev added : (p : Parameters) (key : List ℤ) (ciphertexts : ℕ → List (List ℕ)) (plaintexts factors : ℕ → List ℕ) → Errors p key ciphertexts plaintexts → ℕ → ℕ
added p key ciphertexts plaintexts factors errors i =
    sum_below p.capacity (more_term p.capacity 4095 cipher_modulus greatest_error (λ k. coefficient (factors (k + 1))) (λ k. phase key (ciphertexts k))
    (λ k l. scale * coefficient (plaintexts k) l) errors i)

abbrev taken : (p : Parameters) (key : List ℤ) (ciphertexts : ℕ → List (List ℕ)) (plaintexts factors : ℕ → List ℕ) → Errors p key ciphertexts plaintexts → ℕ → ℕ
taken p key ciphertexts plaintexts factors errors i =
    sum_below p.capacity (less_term p.capacity 4095 cipher_modulus greatest_error (λ k. coefficient (factors (k + 1))) (λ k. phase key (ciphertexts k))
    (λ k l. scale * coefficient (plaintexts k) l) errors i)

-- the phase of the evaluation is near Δ·M by the factors' products with the errors
phase-near : (p : Parameters) (key : List ℤ) (ciphertexts : ℕ → List (List ℕ)) (plaintexts factors : ℕ → List ℕ) → IsEvaluable p key ciphertexts plaintexts factors
    → (errors : Errors p key ciphertexts plaintexts) (i : ℕ) → i ≤ 4095
    → (phase key (evaluated p.capacity factors ciphertexts) i + taken p key ciphertexts plaintexts factors errors i) % cipher_modulus
    ≡ (scale * (whole_more p.capacity factors plaintexts i + minus_one * whole_less p.capacity factors plaintexts i)
    + added p key ciphertexts plaintexts factors errors i) % cipher_modulus
phase-near p key ciphertexts plaintexts factors h errors i le =
    joined cipher_modulus (phase key (evaluated p.capacity factors ciphertexts) i)
    (sum_below p.capacity (λ k. ring 4095 minus_one (coefficient (factors (k + 1))) (phase key (ciphertexts k)) i))
    (sum_below p.capacity (λ k. ring 4095 minus_one (coefficient (factors (k + 1))) (λ l. scale * coefficient (plaintexts k) l) i))
    (scale * coefficient (factors 0) i)
    (scale * (whole_more p.capacity factors plaintexts i + minus_one * whole_less p.capacity factors plaintexts i))
    (taken p key ciphertexts plaintexts factors errors i) (added p key ciphertexts plaintexts factors errors i)
    (evaluated-phase p.capacity key factors ciphertexts h.ternary.size (λ k lt. (h.polynomials (k + 1) (omega arith)).size) h.encrypted i le)
    (near-products p.capacity 4095 cipher_modulus minus_one greatest_error (λ k. coefficient (factors (k + 1))) (λ k. phase key (ciphertexts k))
    (λ k l. scale * coefficient (plaintexts k) l) errors minus_one-both (factor-past p key ciphertexts plaintexts factors h) i le)
    (scaled-sum minus_one scale p.capacity factors plaintexts (λ k lt. (h.polynomials (k + 1) (omega arith)).size) (λ k lt. (h.plain k lt).size) i le)
  where
    joined : (q z x y f w less more : ℕ) → z % q ≡ (x + f) % q → (x + less) % q ≡ (y + more) % q → y + f ≡ w → (z + less) % q ≡ (w + more) % q
    joined q z x y f w less more e near sum =
        let first : x + f + less ≡ x + less + f = omega arith in
        let second : y + more + f ≡ w + more = omega arith in
        sum_congruent q z (x + f) less less e refl
        ∙ ap (λ (u : ℕ). u % q) first
        ∙ sum_congruent q (x + less) (y + more) f f near refl
        ∙ ap (λ (u : ℕ). u % q) second

-- the two parts of the noise are the ledger's
noise-fits : (count more less up down : ℕ) → more + less ≤ count * (4096 * (65536 * 21)) → up + down ≤ big count / plain_modulus
    → more + scale_rest * down + (less + scale_rest * up) ≤ noise_of count
unfolding noise_of
noise-fits count more less up down errors carries =
    let same = carry-is count in
    let rest : scale_rest * (up + down) ≤ scale_rest * carry_of count = omega arith in
    omega arith

-- The evaluation carries within the ledger's noise what the same evaluation of the plaintexts is.
pub evaluation-carries : (p : Parameters) (key : List ℤ) (ciphertexts : ℕ → List (List ℕ)) (plaintexts factors : ℕ → List ℕ)
    → IsEvaluable p key ciphertexts plaintexts factors
    → Carries (noise_of p.capacity) key (evaluated p.capacity factors ciphertexts) (evaluated_plain p.capacity factors plaintexts)
evaluation-carries p key ciphertexts plaintexts factors h i lt =
    by_errors (errors_at p.capacity 4095 cipher_modulus greatest_error (λ k. phase key (ciphertexts k)) (λ k l. scale * coefficient (plaintexts k) l) h.carried)
    (evaluation-carry p key ciphertexts plaintexts factors h i le)
  where
    le : i ≤ 4095
    le = omega arith

    by_errors : Errors p key ciphertexts plaintexts
        → CarryOf plain_modulus (big p.capacity / plain_modulus) (whole_more p.capacity factors plaintexts i)
        (whole_less p.capacity factors plaintexts i + get_or (evaluated_plain p.capacity factors plaintexts) i 0)
        → IsNear cipher_modulus (noise_of p.capacity) (phase key (evaluated p.capacity factors ciphertexts) i)
        (scale * get_or (evaluated_plain p.capacity factors plaintexts) i 0)
    by_errors errors carry = record {
      more = added p key ciphertexts plaintexts factors errors i + scale_rest * carry.down;
      less = taken p key ciphertexts plaintexts factors errors i + scale_rest * carry.up;
      small = noise-fits p.capacity (added p key ciphertexts plaintexts factors errors i) (taken p key ciphertexts plaintexts factors errors i) carry.up carry.down
          (errors-bound p.capacity 4095 cipher_modulus greatest_error 65536 (λ k. coefficient (factors (k + 1))) (λ k. phase key (ciphertexts k))
          (λ k l. scale * coefficient (plaintexts k) l) errors (factor-past p key ciphertexts plaintexts factors h)
          (factor-bound p key ciphertexts plaintexts factors h) i le)
          carry.small;
      near = near-carried cipher_modulus minus_one scale scale_rest (phase key (evaluated p.capacity factors ciphertexts) i)
          (whole_more p.capacity factors plaintexts i) (whole_less p.capacity factors plaintexts i)
          (get_or (evaluated_plain p.capacity factors plaintexts) i 0)
          (added p key ciphertexts plaintexts factors errors i) (taken p key ciphertexts plaintexts factors errors i) carry.up carry.down minus_one-both
          (phase-near p key ciphertexts plaintexts factors h errors i le)
          (carry-rest p.capacity factors plaintexts i carry.up carry.down carry.exact);
    }

pub opened-within : (noise x m : ℕ) → 2 * (plain_modulus * noise + scale_rest * greatest_coefficient) < cipher_modulus → m < plain_modulus
    → IsNear cipher_modulus noise x (scale * m) → opened_coefficient x ≡ m
unfolding opened_coefficient
opened-within noise x m fits below near =
    opened-near cipher_modulus plain_modulus scale scale_rest greatest_coefficient noise x m (omega arith) refl below (omega arith) fits near

opened-is : (p : Parameters) (x m : ℕ) → passes p → m < plain_modulus → IsNear cipher_modulus (noise_of p.capacity) x (scale * m) → opened_coefficient x ≡ m
unfolding used_of
opened-is p x m passed below near = opened-within (noise_of p.capacity) x m (omega (arith, passed)) below near

-- What carries a plaintext within the noise of a ledger that passes opens to it.
pub carried-opens : (p : Parameters) (key : List ℤ) (ct : List (List ℕ)) (plain : List ℕ) → passes p → IsPolynomial plain_modulus plain
    → Carries (noise_of p.capacity) key ct plain → opening key ct ≡ plain
unfolding opening
carried-opens p key ct plain passed h carried =
    sym (same_as_table 4096 (λ k. opened_coefficient (phase key ct k)) plain h.size
    (λ k lt. sym (opened-is p (phase key ct k) (get_or plain k 0) passed (h.below k lt) (carried k lt))))

pub evaluated_plain-polynomial : (count : ℕ) (factors plaintexts : ℕ → List ℕ) → IsPolynomial plain_modulus (evaluated_plain count factors plaintexts)
unfolding evaluated_plain
evaluated_plain-polynomial count factors plaintexts = record { size = size; below = λ i lt. plain-below count factors plaintexts i (omega arith) }
  where
    size : length (evaluated_plain count factors plaintexts) ≡ ring_degree
    size = length-table 4096 (λ i. (sum_below count (λ k. product_at plain_modulus ring_degree (factors (k + 1)) (plaintexts k) i) + coefficient (factors 0) i) % plain_modulus)

pub evaluation-opens : (p : Parameters) (key : List ℤ) (ciphertexts : ℕ → List (List ℕ)) (plaintexts factors : ℕ → List ℕ)
    → IsEvaluable p key ciphertexts plaintexts factors → opening key (evaluated p.capacity factors ciphertexts) ≡ evaluated_plain p.capacity factors plaintexts
evaluation-opens p key ciphertexts plaintexts factors h =
    carried-opens p key (evaluated p.capacity factors ciphertexts) (evaluated_plain p.capacity factors plaintexts) h.passed.little_noise
    (evaluated_plain-polynomial p.capacity factors plaintexts) (evaluation-carries p key ciphertexts plaintexts factors h)

-- each odd power of the root is a root of -1
slot-root : (j : ℕ) → (root ^ (2 * j + 1)) ^ 4096 % plain_modulus ≡ 65536 % plain_modulus
slot-root j = minus_one-same plain_modulus ((root ^ (2 * j + 1)) ^ 4096) 65536 (omega arith) (odd_root plain_modulus 4096 root j root_is) refl

-- slot by slot the evaluation is the sum of products
pub evaluation-slots : (count : ℕ) (factors plaintexts : ℕ → List ℕ)
    → ((k : ℕ) → k < count → length (factors (k + 1)) ≡ suc 4095) → ((k : ℕ) → k < count → length (plaintexts k) ≡ suc 4095) → (j : ℕ)
    → IsSlotwise count factors plaintexts (evaluated_plain count factors plaintexts) j
evaluation-slots count factors plaintexts lf lp j =
    slot-value (evaluated_plain count factors plaintexts) j
    ∙ value-evaluated plain_modulus 4095 65536 (root ^ (2 * j + 1)) count (λ k. coefficient (factors (k + 1))) (λ k. coefficient (plaintexts k)) (coefficient (factors 0))
    (coefficient (evaluated_plain count factors plaintexts)) (slot-root j)
    (λ i lt. ap (λ (u : ℕ). u % plain_modulus) (plain-at count factors plaintexts i (omega arith)) ∙ reduced i (omega arith))
    ∙ ap (λ (u : ℕ). u % plain_modulus) (sym slots)
  where
    reduced : (i : ℕ) → i ≤ 4095
        → (sum_below count (λ k. product_at plain_modulus ring_degree (factors (k + 1)) (plaintexts k) i) + coefficient (factors 0) i) % plain_modulus % plain_modulus
        ≡ (sum_below count (λ k. ring 4095 65536 (coefficient (factors (k + 1))) (coefficient (plaintexts k)) i) + coefficient (factors 0) i) % plain_modulus
    reduced i le =
        mod-mod (sum_below count (λ k. product_at plain_modulus ring_degree (factors (k + 1)) (plaintexts k) i) + coefficient (factors 0) i) plain_modulus
        ∙ sum_congruent plain_modulus (sum_below count (λ k. product_at plain_modulus ring_degree (factors (k + 1)) (plaintexts k) i))
        (sum_below count (λ k. ring 4095 65536 (coefficient (factors (k + 1))) (coefficient (plaintexts k)) i)) (coefficient (factors 0) i) (coefficient (factors 0) i)
        (sum_below-mod plain_modulus count (λ k. product_at plain_modulus ring_degree (factors (k + 1)) (plaintexts k) i)
        (λ k. ring 4095 65536 (coefficient (factors (k + 1))) (coefficient (plaintexts k)) i)
        (λ k lt. product-ring plain_modulus 65536 4095 (factors (k + 1)) (plaintexts k) (omega arith) refl (lf k lt) (lp k lt) i le))
        refl

    products : (k : ℕ) → slot_of (factors (k + 1)) j * slot_of (plaintexts k) j
        ≡ value 4096 (root ^ (2 * j + 1)) (coefficient (factors (k + 1))) % plain_modulus
        * (value 4096 (root ^ (2 * j + 1)) (coefficient (plaintexts k)) % plain_modulus)
    products k =
        let factor = slot-value (factors (k + 1)) j in
        let plain = slot-value (plaintexts k) j in
        cc

    slots : sum_below count (λ k. slot_of (factors (k + 1)) j * slot_of (plaintexts k) j) + slot_of (factors 0) j
        ≡ sum_below count (λ k. value 4096 (root ^ (2 * j + 1)) (coefficient (factors (k + 1))) % plain_modulus
        * (value 4096 (root ^ (2 * j + 1)) (coefficient (plaintexts k)) % plain_modulus))
        + value 4096 (root ^ (2 * j + 1)) (coefficient (factors 0)) % plain_modulus
    slots =
        let terms = sum_below-same count (λ k. slot_of (factors (k + 1)) j * slot_of (plaintexts k) j)
        (λ k. value 4096 (root ^ (2 * j + 1)) (coefficient (factors (k + 1))) % plain_modulus
        * (value 4096 (root ^ (2 * j + 1)) (coefficient (plaintexts k)) % plain_modulus))
        (λ k lt. products k) in
        let constant = slot-value (factors 0) j in
        cc
