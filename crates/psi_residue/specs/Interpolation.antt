-- The polynomial through some points modulo the plaintext modulus, by Lagrange's formula (labels by interpolation: Chen, Huang, Laine, Rindal, CCS 2018).
use Rattle.std.specs.Prelude.{ℕ, ◌+◌, ◌-◌, ◌*◌, ◌%◌, ◌^◌, List, ◌++◌, map, take, drop}
use Rattle.std.specs.List.{enumerate_from, sum_by}
use Rattle.psi_residue.specs.Numbers.{plain_modulus}
use Rattle.psi_residue.specs.RootPolynomials.{root_coefficient, root_value}

-- the inverse modulo the prime plaintext modulus, by Fermat's little theorem; 0 for 0
unfoldable pub inverse_of : ℕ → ℕ
inverse_of a = a ^ (plain_modulus - 2) % plain_modulus

-- the list without its element number i
abbrev pub others : List ℕ → ℕ → List ℕ
others xs i = take i xs ++ drop (i + 1) xs

-- Lagrange's polynomial of one root: coefficient k of that which is 1 at this root, number i with the value a, and 0 at the others
unfoldable pub lagrange_coefficient : List ℕ → ℕ → ℕ → ℕ → ℕ
lagrange_coefficient roots i a k = root_coefficient (others roots i) k * inverse_of (root_value (others roots i) a) % plain_modulus

-- coefficient k of the polynomial of degree below the number of points that takes each point's second number at its first; 0 where there is none
unfoldable pub interpolated : List (ℕ × ℕ) → ℕ → ℕ
interpolated points k =
    sum_by (λ p. p.1.1 * lagrange_coefficient (map (λ q. q.0) points) p.0 p.1.0 k) (enumerate_from 0 points) % plain_modulus
