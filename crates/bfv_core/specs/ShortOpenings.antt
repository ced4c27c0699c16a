-- What a short ciphertext opens to under a key, and what a reply's ciphertext opens to by the form of the reply. Each number of a short
-- ciphertext stands for the middle of the numbers modulo q1 that it can be.
use Rattle.std.specs.Prelude.{ℕ, ◌+◌, ◌*◌, ◌/◌, ◌%◌, ◌==◌, List, ℤ, if◌then◌else◌}
use Rattle.psi_residue.specs.Sums.{table}
use Rattle.psi_residue.specs.Numbers.{ring_degree, plain_modulus, first_modulus}
use Rattle.psi_residue.specs.Parameters.{Parameters}
use Rattle.psi_residue.specs.Ciphertexts.{list_at}
use Rattle.psi_residue.specs.ShortCiphertexts.{restored_list}
use Rattle.bfv_core.specs.Encryptions.{opening, phase_residue}

-- what a coefficient modulo the first modulus q1 opens to: t·w / q1, rounded to the nearest whole number, modulo t
unfoldable pub opened_short : ℕ → ℕ
opened_short w = (2 * plain_modulus * w + first_modulus) / (2 * first_modulus) % plain_modulus

-- coefficient k of c0 + c1·s modulo the first modulus
unfoldable pub short_phase : (drop : ℕ) → List ℤ → List (List ℕ) → ℕ → ℕ
short_phase drop key ct k = phase_residue first_modulus key (restored_list drop (list_at ct 0)) (restored_list drop (list_at ct 1)) k

-- the plaintext that a short ciphertext opens to under a key
unfoldable pub short_opening : (drop : ℕ) → List ℤ → List (List ℕ) → List ℕ
short_opening drop key ct = table ring_degree (λ k. opened_short (short_phase drop key ct k))

-- the plaintext that a reply's ciphertext opens to: a full one, or a short one
abbrev pub reply_opening : Parameters → List ℤ → List (List ℕ) → List ℕ
reply_opening p key ct = if p.form == 2 then short_opening p.drop key ct else opening key ct
