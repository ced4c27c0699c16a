-- What the evaluation of a polynomial with plaintext coefficients P_0, P_1, .. at encrypted powers C_1, C_2, .. (Chen, Laine, Rindal,
-- CCS 2017) carries under the key in the scheme of Fan and Vercauteren (2012). P_k is factor number k. C_k is ciphertext number k - 1,
-- and carries the plaintext m_k, which has this number too.
use Rattle.std.specs.Prelude.{◌≡◌, ℕ, ◌+◌, ◌*◌, ◌%◌, ◌<◌, ◌≤◌, List, slice_index, ℤ}
use Rattle.psi_residue.specs.Sums.{sum_below, table}
use Rattle.psi_residue.specs.Numbers.{ring_degree, plain_modulus, cipher_modulus, scale, scale_rest}
use Rattle.psi_residue.specs.Parameters.{Parameters}
use Rattle.psi_residue.specs.Polynomials.{IsPolynomial}
use Rattle.psi_residue.specs.Ring.{conv, product_at}
use Rattle.psi_residue.specs.Slots.{slot_of}
use Rattle.noise_ledger.specs.Ledgers.{greatest_error, carry_of, noise_of, passes}
use Rattle.noise_ledger.specs.Verdicts.{ArePassed}
use Rattle.psi_residue.specs.Ciphertexts.{IsCiphertext}
use Rattle.psi_residue.specs.Evaluations.{evaluated}
use Rattle.bfv_core.specs.Encryptions.{IsKey, Carries, opening}

-- the same evaluation of the plaintexts: the sum of P_k·m_k and P_0, modulo the plaintext modulus
unfoldable pub evaluated_plain : (count : ℕ) → (factors plaintexts : ℕ → List ℕ) → List ℕ
evaluated_plain count factors plaintexts =
    table ring_degree (λ i.
    (sum_below count (λ k. product_at plain_modulus ring_degree (factors (k + 1)) (plaintexts k) i) + slice_index (factors 0) i) % plain_modulus)

-- What the evaluation rests on: parameters that are allowed, for each power a ciphertext that carries a plaintext within the greatest
-- error under a key, and the factors, each coefficient of which may be the greatest.
pub record IsEvaluable (p : Parameters) (key : List ℤ) (ciphertexts : ℕ → List (List ℕ)) (plaintexts factors : ℕ → List ℕ) : Type 0 where
  pub passed : ArePassed p
  pub ternary : IsKey key
  pub encrypted : (k : ℕ) → k < p.capacity → IsCiphertext (ciphertexts k)
  pub plain : (k : ℕ) → k < p.capacity → IsPolynomial plain_modulus (plaintexts k)
  pub carried : (k : ℕ) → k < p.capacity → Carries greatest_error key (ciphertexts k) (plaintexts k)
  pub polynomials : (k : ℕ) → k ≤ p.capacity → IsPolynomial plain_modulus (factors k)

-- Let M be the sum of P_k·m_k and P_0 over the whole numbers. Its coefficient i is this number ..
unfoldable pub whole_more : (count : ℕ) → (factors plaintexts : ℕ → List ℕ) → ℕ → ℕ
whole_more count factors plaintexts i = sum_below count (λ k. conv (factors (k + 1)) (plaintexts k) i) + slice_index (factors 0) i

-- .. less this one
unfoldable pub whole_less : (count : ℕ) → (factors plaintexts : ℕ → List ℕ) → ℕ → ℕ
whole_less count factors plaintexts i = sum_below count (λ k. conv (factors (k + 1)) (plaintexts k) (i + ring_degree))

-- M = m + t·U at coefficient i, where m is M modulo the plaintext modulus t, and U is `up` less `down`
abbrev pub IsCarry : (count : ℕ) → (factors plaintexts : ℕ → List ℕ) → (i up down : ℕ) → Type 0
IsCarry count factors plaintexts i up down =
    whole_more count factors plaintexts i + plain_modulus * down
    ≡ whole_less count factors plaintexts i + slice_index (evaluated_plain count factors plaintexts) i + plain_modulus * up

-- Δ·M is congruent to Δ·m - r·U modulo the ciphertext modulus there
abbrev pub IsScaledCarry : (count : ℕ) → (factors plaintexts : ℕ → List ℕ) → (i up down : ℕ) → Type 0
IsScaledCarry count factors plaintexts i up down =
    (scale * whole_more count factors plaintexts i + scale_rest * up) % cipher_modulus
    ≡ (scale * whole_less count factors plaintexts i + scale * slice_index (evaluated_plain count factors plaintexts) i + scale_rest * down) % cipher_modulus

-- slot j of the polynomial is the sum of the products of the factors' and the plaintexts' slots, and the slot of P_0
abbrev pub IsSlotwise : (count : ℕ) → (factors plaintexts : ℕ → List ℕ) → List ℕ → ℕ → Type 0
IsSlotwise count factors plaintexts polynomial j =
    slot_of polynomial j
    ≡ (sum_below count (λ k. slot_of (factors (k + 1)) j * slot_of (plaintexts k) j) + slot_of (factors 0) j) % plain_modulus

-- there is such a U
pub record HasCarry (count : ℕ) (factors plaintexts : ℕ → List ℕ) (i : ℕ) : Type 0 where
  pub up : ℕ
  pub down : ℕ
  pub whole : IsCarry count factors plaintexts i up down

-- the size of U is at most the ledger's carry
pub record IsSmallCarry (count up down : ℕ) : Type 0 where
  pub above : up ≤ down + carry_of count
  pub below : down ≤ up + carry_of count

-- The evaluation carries, within the noise of the ledger, the same evaluation of the plaintexts.
abbrev pub EvaluationsCarry : Type 0
EvaluationsCarry =
    (p : Parameters) (key : List ℤ) (ciphertexts : ℕ → List (List ℕ)) (plaintexts factors : ℕ → List ℕ)
    → IsEvaluable p key ciphertexts plaintexts factors
    → Carries (noise_of p.capacity) key (evaluated p.capacity factors ciphertexts) (evaluated_plain p.capacity factors plaintexts)

-- What carries a plaintext within the noise of a ledger that passes opens to it.
abbrev pub CarriedOpens : Type 0
CarriedOpens =
    (p : Parameters) (key : List ℤ) (ct : List (List ℕ)) (plain : List ℕ)
    → passes p → IsPolynomial plain_modulus plain → Carries (noise_of p.capacity) key ct plain → opening key ct ≡ plain

-- The evaluation opens to the same evaluation of the plaintexts.
abbrev pub EvaluationsOpen : Type 0
EvaluationsOpen =
    (p : Parameters) (key : List ℤ) (ciphertexts : ℕ → List (List ℕ)) (plaintexts factors : ℕ → List ℕ)
    → IsEvaluable p key ciphertexts plaintexts factors
    → opening key (evaluated p.capacity factors ciphertexts) ≡ evaluated_plain p.capacity factors plaintexts

-- Each slot of what the evaluation opens to is the same evaluation of the slots.
abbrev pub SlotsEvaluate : Type 0
SlotsEvaluate =
    (p : Parameters) (key : List ℤ) (ciphertexts : ℕ → List (List ℕ)) (plaintexts factors : ℕ → List ℕ)
    → IsEvaluable p key ciphertexts plaintexts factors
    → (j : ℕ) → IsSlotwise p.capacity factors plaintexts (opening key (evaluated p.capacity factors ciphertexts)) j

-- Over the whole numbers the evaluation of the plaintexts is the plaintext and t times some U ..
abbrev pub CarriesExist : Type 0
CarriesExist =
    (p : Parameters) (key : List ℤ) (ciphertexts : ℕ → List (List ℕ)) (plaintexts factors : ℕ → List ℕ)
    → IsEvaluable p key ciphertexts plaintexts factors
    → (i : ℕ) → i < ring_degree → HasCarry p.capacity factors plaintexts i

-- .. which is at most the ledger's carry in size ..
abbrev pub CarriesAreSmall : Type 0
CarriesAreSmall =
    (p : Parameters) (key : List ℤ) (ciphertexts : ℕ → List (List ℕ)) (plaintexts factors : ℕ → List ℕ)
    → IsEvaluable p key ciphertexts plaintexts factors
    → (i : ℕ) → i < ring_degree → (up down : ℕ) → IsCarry p.capacity factors plaintexts i up down → IsSmallCarry p.capacity up down

-- .. and of which the scale leaves r.
abbrev pub CarriesLeaveRests : Type 0
CarriesLeaveRests =
    (p : Parameters) (key : List ℤ) (ciphertexts : ℕ → List (List ℕ)) (plaintexts factors : ℕ → List ℕ)
    → IsEvaluable p key ciphertexts plaintexts factors
    → (i : ℕ) → i < ring_degree → (up down : ℕ) → IsCarry p.capacity factors plaintexts i up down → IsScaledCarry p.capacity factors plaintexts i up down
