-- The product of polynomials modulo x^n + 1 and a number m (Fan and Vercauteren 2012).
-- A polynomial is the list of its coefficients, the constant first; a coefficient past the end is 0.
use Rattle.std.specs.Prelude.{ℕ, ◌+◌, ◌-◌, ◌*◌, ◌%◌, List, slice_index}
use Rattle.psi_residue.specs.Sums.{sum_below, table}

-- the sum of a_i * b_j over i + j = s
unfoldable pub conv : List ℕ → List ℕ → ℕ → ℕ
conv a b s = sum_below (s + 1) (λ i. slice_index a i * slice_index b (s - i))

-- coefficient k of the product: the sum over i + j = k less the sum over i + j = k + n, modulo m
unfoldable pub product_at : (m n : ℕ) → List ℕ → List ℕ → ℕ → ℕ
product_at m n a b k = (conv a b k + (m - conv a b (k + n) % m)) % m

-- the n coefficients of the product
unfoldable pub product : (m n : ℕ) → List ℕ → List ℕ → List ℕ
product m n a b = table n (product_at m n a b)
