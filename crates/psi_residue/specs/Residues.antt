-- Residues of whole numbers, and the number with two given ones (the Chinese remainder theorem).
use Rattle.std.specs.Prelude.{ℕ, suc, ◌+◌, ◌-◌, ◌*◌, ◌%◌, ℤ, pos, negsuc, List, map}
use Rattle.psi_residue.specs.Numbers.{first_modulus, second_modulus}

-- the inverse of the first modulus modulo the second
unfoldable pub first_inverse : ℕ
first_inverse = 42540076863

-- the number below the ciphertext modulus whose residues modulo the first and the second modulus are a and b (Garner's formula)
unfoldable pub composed : (a b : ℕ) → ℕ
composed a b = a + first_modulus * ((b + (second_modulus - a % second_modulus)) * first_inverse % second_modulus)

-- the residue of a whole number modulo m
abbrev pub residue_of : ℕ → ℤ → ℕ
residue_of m (pos n) = n % m
residue_of m (negsuc n) = (m - suc n % m) % m

-- the residues of a list of whole numbers
abbrev pub residues_of : ℕ → List ℤ → List ℕ
residues_of m xs = map (residue_of m) xs
