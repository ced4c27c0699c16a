-- Polynomials modulo the plaintext modulus by their roots (Chen, Laine, Rindal, CCS 2017).
use Rattle.std.specs.Prelude.{ℕ, zero, suc, ◌+◌, ◌-◌, ◌*◌, ◌%◌, List, [], ◌∷◌}
use Rattle.psi_residue.specs.Numbers.{plain_modulus}

-- coefficient k of the product of (x - a) over the roots, modulo the plaintext modulus; 1 where there are none
unfoldable pub root_coefficient : List ℕ → ℕ → ℕ
root_coefficient [] zero = 1
root_coefficient [] (suc k) = 0
root_coefficient (a ∷ roots) zero = (plain_modulus - a) * root_coefficient roots zero % plain_modulus
root_coefficient (a ∷ roots) (suc k) = (root_coefficient roots k + (plain_modulus - a) * root_coefficient roots (suc k)) % plain_modulus

-- the product of (x - a) over the roots, at x = b
abbrev pub root_value : List ℕ → ℕ → ℕ
root_value [] b = 1
root_value (a ∷ roots) b = (b + (plain_modulus - a)) * root_value roots b % plain_modulus
