-- Ciphertexts as residues. A ciphertext (c0, c1) of the scheme of Fan and Vercauteren (2012) is four lists of residues: c0 modulo the
-- first and the second modulus, then c1 modulo these.
use Rattle.std.specs.Prelude.{◌≡◌, ℕ, ◌%◌, ◌==◌, List, [], length, slice_index_or, if◌then◌else◌}
use Rattle.psi_residue.specs.Numbers.{first_modulus, second_modulus}
use Rattle.psi_residue.specs.Polynomials.{IsPolynomial}

-- residue list number l of a ciphertext
abbrev pub list_at : List (List ℕ) → ℕ → List ℕ
list_at ct l = slice_index_or ct l []

-- its modulus
abbrev pub list_modulus : ℕ → ℕ
list_modulus l = if l % 2 == 0 then first_modulus else second_modulus

-- four residue lists, each of a polynomial modulo its modulus
pub record IsCiphertext (ct : List (List ℕ)) : Type 0 where
  pub four : length ct ≡ 4
  pub c0_first : IsPolynomial first_modulus (list_at ct 0)
  pub c0_second : IsPolynomial second_modulus (list_at ct 1)
  pub c1_first : IsPolynomial first_modulus (list_at ct 2)
  pub c1_second : IsPolynomial second_modulus (list_at ct 3)

-- ciphertext number c of a list, none past its end
abbrev pub ciphertext_at : List (List (List ℕ)) → ℕ → List (List ℕ)
ciphertext_at cts c = slice_index_or cts c []
