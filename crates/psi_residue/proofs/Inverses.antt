-- What Euclid's algorithm keeps, and that no number from 2 to 65536 divides the plaintext modulus.
use Rattle.std.proofs.Common.{◌≡◌, ℕ, zero, suc, ◌+◌, ◌-◌, ◌*◌, ◌/◌, ◌%◌, ◌<◌, ◌≤◌, Bool, true, eqb, not, ◌&&◌, refl, ap, ◌∙◌, sym, inl, inr, arith}
use Rattle.std.specs.Int.{◌∣◌}
use Rattle.std.proofs.lemmas.Bool.{cases_lt, and_parts, false≢true}
use Rattle.std.proofs.lemmas.Nat.{mul-mod_first, mul-mod_second, mul-le}
use Rattle.std.proofs.lemmas.Nat.Gcd.{mod-eq-zero_of_dvd}
use Rattle.std.proofs.Math.Nat.{add-mod-mod, div-add-mod, mul-mod_left, add-mul-mod_self_right, mod-add-div', mul_comm}
use Rattle.psi_residue.proofs.Congruences.{cancel}

-- none of the numbers from 2 to k + 1 divides n
has_no_divisor : ℕ → ℕ → Bool
has_no_divisor n zero = true
has_no_divisor n (suc k) = has_no_divisor n k && not (eqb (n % (k + 2)) 0)

not_zero : (x : ℕ) → not (eqb x 0) ≡ true → x ≡ 0 → ⊥
not_zero x h e = false≢true (sym (ap (λ (y : ℕ). not (eqb y 0)) e) ∙ h)

no_divisor : (n k i : ℕ) → has_no_divisor n k ≡ true → i < k → n % (i + 2) ≡ 0 → ⊥
unfolding has_no_divisor
no_divisor n zero i h lt e = absurd (omega arith)
no_divisor n (suc k) i h lt e =
    let parts = and_parts (has_no_divisor n k) (not (eqb (n % (k + 2)) 0)) h in
    elim (cases_lt i k) [
      | inl below ↦ no_divisor n k i parts.0 below e
      | inr above ↦ let same : i ≡ k = omega arith in not_zero (n % (k + 2)) parts.1 (sym (ap (λ (j : ℕ). n % (j + 2)) same) ∙ e)
    ]

no_small_divisor : (d : ℕ) → 2 ≤ d → d ≤ 256 → 65537 % d ≡ 0 → ⊥
unfolding has_no_divisor
no_small_divisor d two small e =
    let d-is : d - 2 + 2 ≡ d = omega arith in
    no_divisor 65537 255 (d - 2) refl (omega arith) (ap (λ (j : ℕ). 65537 % j) d-is ∙ e)

-- of two factors one is at most 256
no_factor : (g c : ℕ) → g * c ≡ 65537 → 2 ≤ g → 2 ≤ c → ⊥
no_factor g c e two_g two_c =
    elim (cases_lt g 257) [
      | inl small ↦ no_small_divisor g two_g (omega arith) (ap (λ (n : ℕ). n % g) (sym e ∙ mul_comm g c) ∙ mul-mod_left c g)
      | inr large ↦ elim (cases_lt c 257) [
        | inl small ↦ no_small_divisor c two_c (omega arith) (ap (λ (n : ℕ). n % c) (sym e) ∙ mul-mod_left g c)
        | inr also_large ↦ let product : 257 * 257 ≤ g * c = mul-le 257 257 g c large also_large in omega arith
      ]
    ]

-- a divisor of the plaintext modulus below it is 1
pub one_from_divisor : (g : ℕ) → g ∣ 65537 → g < 65537 → g ≡ 1
one_from_divisor g h lt =
    let whole : g * (65537 / g) + 65537 % g ≡ 65537 = div-add-mod 65537 g in
    let rest : 65537 % g ≡ 0 = mod-eq-zero_of_dvd g h in
    let product : g * (65537 / g) ≡ 65537 = omega arith in
    by_cases g (65537 / g) product lt
  where
    by_cases : (g c : ℕ) → g * c ≡ 65537 → g < 65537 → g ≡ 1
    by_cases zero c e lt = absurd (omega arith)
    by_cases (suc zero) c e lt = refl
    by_cases (suc (suc g)) zero e lt = absurd (omega arith)
    by_cases (suc (suc g)) (suc zero) e lt = absurd (omega arith)
    by_cases (suc (suc g)) (suc (suc c)) e lt = absurd (no_factor (suc (suc g)) (suc (suc c)) e (omega arith) (omega arith))

-- the multiple of a that the next remainder is
pub next_multiple : (k a high low of_high of_low taken next : ℕ)
    → (a * of_high) % suc k ≡ high % suc k → (a * of_low) % suc k ≡ low % suc k → taken < suc k
    → taken ≡ (high / low % suc k * of_low) % suc k → next ≡ (of_high + (suc k - taken)) % suc k
    → (a * next) % suc k ≡ high % low % suc k
next_multiple k a high low of_high of_low taken next high-is low-is below taken-is next-is =
    ap (λ (u : ℕ). (a * u) % suc k) next-is
    ∙ mul-mod_second a (of_high + (suc k - taken)) (suc k)
    ∙ cancel k (a * (of_high + (suc k - taken))) (high % low) (a * taken) (left ∙ sym right)
  where
    padded : (d : ℕ) → d + taken ≡ suc k → a * (of_high + d) + a * taken ≡ a * of_high + a * suc k
    padded d e =
        let product : a * (d + taken) ≡ a * suc k = ap (λ (u : ℕ). a * u) e in
        omega arith

    left : (a * (of_high + (suc k - taken)) + a * taken) % suc k ≡ high % suc k
    left =
        ap (λ (u : ℕ). u % suc k) (padded (suc k - taken) (omega arith))
        ∙ add-mul-mod_self_right (a * of_high) a (suc k)
        ∙ high-is

    multiple : (a * taken) % suc k ≡ (high / low * low) % suc k
    multiple =
        let turned : a * (high / low % suc k * of_low) ≡ high / low % suc k * (a * of_low) = omega arith in
        ap (λ (u : ℕ). (a * u) % suc k) taken-is
        ∙ mul-mod_second a (high / low % suc k * of_low) (suc k)
        ∙ ap (λ (u : ℕ). u % suc k) turned
        ∙ mul-mod_first (high / low) (a * of_low) (suc k)
        ∙ sym (mul-mod_second (high / low) (a * of_low) (suc k))
        ∙ ap (λ (u : ℕ). (high / low * u) % suc k) low-is
        ∙ mul-mod_second (high / low) low (suc k)

    right : (high % low + a * taken) % suc k ≡ high % suc k
    right =
        sym (add-mod-mod (high % low) (a * taken) (suc k))
        ∙ ap (λ (u : ℕ). (high % low + u) % suc k) multiple
        ∙ add-mod-mod (high % low) (high / low * low) (suc k)
        ∙ ap (λ (u : ℕ). u % suc k) (mod-add-div' high low)
