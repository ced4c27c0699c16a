-- What short ciphertexts are, and what a reply's ciphertexts open to under a key, full or short by the form of the reply.
use Rattle.std.specs.Prelude.{◌≡◌, ℕ, ◌*◌, ◌<◌, List, ℤ}
use Rattle.psi_residue.specs.Numbers.{ring_degree, plain_modulus, second_modulus, cipher_modulus}
use Rattle.psi_residue.specs.Parameters.{Parameters}
use Rattle.psi_residue.specs.Polynomials.{IsPolynomial}
use Rattle.psi_residue.specs.Ciphertexts.{IsCiphertext}
use Rattle.psi_residue.specs.ShortCiphertexts.{shortened_lists, reply_lists, IsShortCiphertext}
use Rattle.psi_residue.specs.Evaluations.{evaluated}
use Rattle.noise_ledger.specs.Ledgers.{noise_of, rounding_of, passes}
use Rattle.bfv_core.specs.Encryptions.{IsKey, IsNear, Carries, phase}
use Rattle.bfv_core.specs.Evaluations.{evaluated_plain, IsEvaluable, IsSlotwise}
use Rattle.bfv_core.specs.ShortOpenings.{short_phase, reply_opening}

-- The short ciphertext of any lists is one: two lists of numbers up to the greatest.
abbrev pub ShortenedAreShort : Type 0
ShortenedAreShort = (drop : ℕ) (ct : List (List ℕ)) → IsShortCiphertext drop (shortened_lists drop ct)

-- Twice a coefficient of the short ciphertext's c0 + c1·s, in units of the first modulus, is near twice that of the ciphertext's: the
-- rounding error is at most the ledger's.
abbrev pub RoundingsAreSmall : Type 0
RoundingsAreSmall =
    (drop : ℕ) (key : List ℤ) (ct : List (List ℕ)) (k : ℕ) → IsKey key → IsCiphertext ct → k < ring_degree
    → IsNear (2 * cipher_modulus) (second_modulus * rounding_of drop)
    (2 * (second_modulus * short_phase drop key (shortened_lists drop ct) k)) (2 * phase key ct k)

-- What carries a plaintext within the noise of a ledger that passes opens to it in a reply.
abbrev pub CarriedRepliesOpen : Type 0
CarriedRepliesOpen =
    (p : Parameters) (key : List ℤ) (ct : List (List ℕ)) (plain : List ℕ)
    → passes p → IsKey key → IsCiphertext ct → IsPolynomial plain_modulus plain → Carries (noise_of p.capacity) key ct plain
    → reply_opening p key (reply_lists p ct) ≡ plain

-- The evaluation opens in a reply to the same evaluation of the plaintexts.
abbrev pub RepliesOpen : Type 0
RepliesOpen =
    (p : Parameters) (key : List ℤ) (ciphertexts : ℕ → List (List ℕ)) (plaintexts factors : ℕ → List ℕ)
    → IsEvaluable p key ciphertexts plaintexts factors
    → reply_opening p key (reply_lists p (evaluated p.capacity factors ciphertexts)) ≡ evaluated_plain p.capacity factors plaintexts

-- Each slot of what the evaluation opens to in a reply is the same evaluation of the slots.
abbrev pub ReplySlotsEvaluate : Type 0
ReplySlotsEvaluate =
    (p : Parameters) (key : List ℤ) (ciphertexts : ℕ → List (List ℕ)) (plaintexts factors : ℕ → List ℕ)
    → IsEvaluable p key ciphertexts plaintexts factors
    → (j : ℕ) → IsSlotwise p.capacity factors plaintexts (reply_opening p key (reply_lists p (evaluated p.capacity factors ciphertexts))) j
