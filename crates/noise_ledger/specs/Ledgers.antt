-- The ledger: how much noise a reply may carry in the scheme of Fan and Vercauteren (2012), at the worst. The capacity is the number
-- of ciphertexts that are summed. The formulas are this project's own.
use Rattle.std.specs.Prelude.{ℕ, ◌+◌, ◌*◌, ◌/◌, ◌<◌, ◌==◌, if◌then◌else◌}
use Rattle.psi_residue.specs.Numbers.{ring_degree, plain_modulus, second_modulus, cipher_modulus, scale_rest}
use Rattle.psi_residue.specs.Parameters.{Parameters}
use Rattle.psi_residue.specs.ShortCiphertexts.{half_dropped}

-- the greatest coefficient of a plaintext
abbrev pub greatest_coefficient : ℕ
greatest_coefficient = 65536

-- the greatest size of a coefficient of an encryption's error
abbrev pub greatest_error : ℕ
greatest_error = 21

-- how often the plaintext modulus goes at most into a coefficient of the sum of as many products of two plaintexts as the capacity
-- says, and of one more plaintext
unfoldable pub carry_of : ℕ → ℕ
carry_of capacity = (capacity * (ring_degree * greatest_coefficient * greatest_coefficient) + greatest_coefficient) / plain_modulus + 1

-- the greatest size of a coefficient of the sum's noise: what scaling leaves for each carry, and as many products of an error and
-- a plaintext as the capacity says
unfoldable pub noise_of : ℕ → ℕ
noise_of capacity = scale_rest * carry_of capacity + greatest_error * capacity * (ring_degree * greatest_coefficient)

-- twice the greatest rounding error of a coefficient of c0 + c1·s where the ciphertext is short, in units of the first modulus: c0 has the
-- error of one coefficient, and c1·s at most that of 4096
unfoldable pub rounding_of : (drop : ℕ) → ℕ
rounding_of drop = (ring_degree + 1) * (1 + 2 * half_dropped drop)

-- the same modulo the ciphertext modulus, for a reply's ciphertext: a full one is not rounded
abbrev pub form_rounding : Parameters → ℕ
form_rounding p = if p.form == 2 then second_modulus * rounding_of p.drop else 0

-- what the noise of a reply under the parameters, and its rounding, use of the ciphertext modulus; a ciphertext opens to its plaintext
-- where they use less than all
unfoldable pub used_of : Parameters → ℕ
used_of p = 2 * (plain_modulus * noise_of p.capacity + scale_rest * greatest_coefficient) + plain_modulus * form_rounding p

-- the ledger of the parameters passes
abbrev pub passes : Parameters → Type 0
passes p = used_of p < cipher_modulus
