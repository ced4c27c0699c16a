-- What carries a plaintext within the ledger's noise opens to it in a reply, full or short.
use Rattle.std.proofs.Common.{◌≡◌, ℕ, Bool, true, false, ◌+◌, ◌*◌, ◌/◌, ◌%◌, ◌<◌, List, get_or, if◌then◌else◌, refl, ap, ◌∙◌, sym, arith, ℤ}
use Rattle.std.specs.Prelude.{◌==◌}
use Rattle.psi_residue.specs.Numbers.{plain_modulus, first_modulus, second_modulus, cipher_modulus, scale, scale_rest}
use Rattle.psi_residue.specs.Parameters.{Parameters}
use Rattle.psi_residue.specs.Polynomials.{IsPolynomial}
use Rattle.psi_residue.specs.Ciphertexts.{IsCiphertext}
use Rattle.psi_residue.specs.ShortCiphertexts.{shortened_lists, reply_lists}
use Rattle.psi_residue.specs.Evaluations.{evaluated}
use Rattle.psi_residue.proofs.Congruences.{mod-witness, mod-from_witness}
use Rattle.psi_residue.proofs.Sums.{same_as_table}
use Rattle.noise_ledger.specs.Ledgers.{greatest_coefficient, rounding_of, noise_of, used_of, passes}
use Rattle.bfv_core.specs.Encryptions.{IsKey, IsNear, Carries, phase, opened_coefficient, opening}
use Rattle.bfv_core.specs.Evaluations.{evaluated_plain, IsEvaluable}
use Rattle.bfv_core.specs.ShortOpenings.{opened_short, short_phase, short_opening, reply_opening}
use Rattle.bfv_core.proofs.LedgerOpenings.{near-twice, opened-near_twice}
use Rattle.bfv_core.proofs.LedgerTheorem.{opened-within, evaluation-carries, evaluated_plain-polynomial}
use Rattle.bfv_core.proofs.LedgerEvaluations.{evaluated-ciphertext}
use Rattle.reply_switch.proofs.ShortPhases.{short_phase-near}

-- ---- numbers taken twice

-- what is near what is near
near-near : (q b c x y z : ℕ) → IsNear q b x y → IsNear q c y z → IsNear q (b + c) x z
near-near q b c x y z one other = record {
  more = one.more + other.more;
  less = one.less + other.less;
  small = let s = one.small in let t = other.small in omega (arith, s, t);
  near =
      by_witness ((x + one.less) / q) ((y + one.more) / q) ((y + other.less) / q) ((z + other.more) / q)
      (mod-witness q (x + one.less) (y + one.more) one.near) (mod-witness q (y + other.less) (z + other.more) other.near);
}
  where
    by_witness : (a b c d : ℕ) → x + one.less + q * b ≡ y + one.more + q * a → y + other.less + q * d ≡ z + other.more + q * c
        → (x + (one.less + other.less)) % q ≡ (z + (one.more + other.more)) % q
    by_witness a b c d e f = mod-from_witness q (x + (one.less + other.less)) (z + (one.more + other.more)) (b + d) (a + c) (omega (arith, e, f))

-- ---- one coefficient

opened_short-twice : (w : ℕ) → opened_short w ≡ (plain_modulus * (2 * (second_modulus * w)) + cipher_modulus) / (2 * cipher_modulus) % plain_modulus
unfolding opened_short
opened_short-twice w = ap (λ (u : ℕ). u % plain_modulus) (divided w)
  where
    divided : (w : ℕ) → (2 * plain_modulus * w + first_modulus) / (2 * first_modulus) ≡ (plain_modulus * (2 * (second_modulus * w)) + cipher_modulus) / (2 * cipher_modulus)
    divided w = omega arith

opened-short : (noise rounding w x m : ℕ)
    → 2 * (plain_modulus * noise + scale_rest * greatest_coefficient) + plain_modulus * (second_modulus * rounding) < cipher_modulus → m < plain_modulus
    → IsNear (2 * cipher_modulus) (second_modulus * rounding) (2 * (second_modulus * w)) (2 * x) → IsNear cipher_modulus noise x (scale * m) → opened_short w ≡ m
opened-short noise rounding w x m fits below rounds near =
    opened_short-twice w
    ∙ opened-near_twice cipher_modulus plain_modulus scale scale_rest greatest_coefficient (second_modulus * rounding + 2 * noise) (2 * (second_modulus * w)) m
    (omega arith) refl below (omega arith) (omega (arith, fits))
    (near-near (2 * cipher_modulus) (second_modulus * rounding) (2 * noise) (2 * (second_modulus * w)) (2 * x) (2 * (scale * m)) rounds
    (near-twice cipher_modulus noise x (scale * m) near))

-- ---- a reply's ciphertext, by whether it is short

by_form : (short : Bool) (drop noise : ℕ) (key : List ℤ) (ct : List (List ℕ)) (plain : List ℕ)
    → 2 * (plain_modulus * noise + scale_rest * greatest_coefficient) + plain_modulus * (if short then second_modulus * rounding_of drop else 0) < cipher_modulus
    → IsKey key → IsCiphertext ct → IsPolynomial plain_modulus plain → Carries noise key ct plain
    → (if short then short_opening drop key (if short then shortened_lists drop ct else ct) else opening key (if short then shortened_lists drop ct else ct)) ≡ plain
unfolding short_opening opening
by_form true drop noise key ct plain fits ternary whole h carried =
    sym (same_as_table 4096 (λ k. opened_short (short_phase drop key (shortened_lists drop ct) k)) plain h.size
    (λ k lt. sym (opened-short noise (rounding_of drop) (short_phase drop key (shortened_lists drop ct) k) (phase key ct k) (get_or plain k 0) fits (h.below k lt)
    (short_phase-near drop key ct k ternary whole lt) (carried k lt))))
by_form false drop noise key ct plain fits ternary whole h carried =
    sym (same_as_table 4096 (λ k. opened_coefficient (phase key ct k)) plain h.size
    (λ k lt. sym (opened-within noise (phase key ct k) (get_or plain k 0) (omega (arith, fits)) (h.below k lt) (carried k lt))))

pub carried_reply-opens : (p : Parameters) (key : List ℤ) (ct : List (List ℕ)) (plain : List ℕ)
    → passes p → IsKey key → IsCiphertext ct → IsPolynomial plain_modulus plain → Carries (noise_of p.capacity) key ct plain
    → reply_opening p key (reply_lists p ct) ≡ plain
unfolding used_of
carried_reply-opens p key ct plain passed ternary whole h carried =
    by_form (p.form == 2) p.drop (noise_of p.capacity) key ct plain passed ternary whole h carried

-- ---- an evaluation

pub evaluated_reply-opens : (p : Parameters) (key : List ℤ) (ciphertexts : ℕ → List (List ℕ)) (plaintexts factors : ℕ → List ℕ)
    → IsEvaluable p key ciphertexts plaintexts factors
    → reply_opening p key (reply_lists p (evaluated p.capacity factors ciphertexts)) ≡ evaluated_plain p.capacity factors plaintexts
evaluated_reply-opens p key ciphertexts plaintexts factors h =
    carried_reply-opens p key (evaluated p.capacity factors ciphertexts) (evaluated_plain p.capacity factors plaintexts) h.passed.little_noise h.ternary
    (evaluated-ciphertext p.capacity factors ciphertexts) (evaluated_plain-polynomial p.capacity factors plaintexts)
    (evaluation-carries p key ciphertexts plaintexts factors h)
