-- Points and the polynomials through them.
use Rattle.std.specs.Prelude.{◌≡◌, ℕ, zero, suc, ◌+◌, ◌-◌, ◌*◌, ◌<◌, ◌≤◌, List, length, map, nat_eq, slice_index, slice_index_or}
use Rattle.std.specs.List.{All, IsDistinct}
use Rattle.psi_residue.specs.Numbers.{plain_modulus}
use Rattle.psi_residue.specs.Polynomials.{value_at}
use Rattle.psi_residue.specs.Interpolation.{interpolated}
use Rattle.bin_poly.specs.Horner.{nested}

-- the first and the second number of point i
abbrev pub place_at : List (ℕ × ℕ) → ℕ → ℕ
place_at points i = (slice_index_or points i (0, 0)).0

abbrev pub value_of : List (ℕ × ℕ) → ℕ → ℕ
value_of points i = (slice_index_or points i (0, 0)).1

-- the value at x of Newton's form c_k + (x - x_k) * (c_(k+1) + (x - x_(k+1)) * ( .. )), with m coefficients c
abbrev pub newton_value : List (ℕ × ℕ) → (ℕ → ℕ) → (x m k : ℕ) → ℕ
newton_value points c x m k = nested c (λ i. x + (plain_modulus - place_at points i)) m k

-- the product of g k, g (k + 1), .., m factors
unfoldable pub product_from : (ℕ → ℕ) → (m k : ℕ) → ℕ
product_from g zero k = 1
product_from g (suc m) k = g k * product_from g m (k + 1)

-- the product of the differences of x to the first numbers of m points, from number k on
abbrev pub newton_product : List (ℕ × ℕ) → (x m k : ℕ) → ℕ
newton_product points x m k = product_from (λ i. x + (plain_modulus - place_at points i)) m k

-- a polynomial of degree below the number of points that takes their second numbers at their first has the interpolated coefficients
abbrev pub OneAlone : Type 0
OneAlone = (points : List (ℕ × ℕ)) (polynomial : List ℕ)
    → All (λ p. (p.0 < plain_modulus) × (p.1 < plain_modulus)) points → IsDistinct nat_eq (map (λ p. p.0) points)
    → All (λ c. c < plain_modulus) polynomial → ((k : ℕ) → length points ≤ k → slice_index polynomial k ≡ 0)
    → All (λ p. value_at plain_modulus polynomial p.0 ≡ p.1) points
    → (k : ℕ) → slice_index polynomial k ≡ interpolated points k
