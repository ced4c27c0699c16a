-- Polynomials modulo the plaintext modulus and the factors (x - a) of their roots a. Coefficients stand by their places, the constant at 0.
use Rattle.std.specs.Prelude.{◌≡◌, ℕ, zero, suc, ◌+◌, ◌-◌, ◌*◌, ◌%◌, List, [], ◌∷◌, slice_index, cond, ◌==◌}
use Rattle.psi_residue.specs.Numbers.{plain_modulus}
use Rattle.psi_residue.specs.RootPolynomials.{root_coefficient}

-- coefficient k of the polynomial with the coefficients p, times (x - a)
unfoldable pub times_root_coefficient : ℕ → (ℕ → ℕ) → ℕ → ℕ
times_root_coefficient a p zero = (plain_modulus - a) * p 0 % plain_modulus
times_root_coefficient a p (suc k) = (p k + (plain_modulus - a) * p (suc k)) % plain_modulus

-- the polynomial is the product of (x - a) over the roots a
abbrev pub HasRoots : List ℕ → List ℕ → Type 0
HasRoots polynomial roots = (k : ℕ) → slice_index polynomial k ≡ root_coefficient roots k

-- the roots less the first one that is a
unfoldable pub without : ℕ → List ℕ → List ℕ
without a [] = []
without a (b ∷ roots) = cond (a == b) roots (b ∷ without a roots)
