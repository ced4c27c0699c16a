-- Polynomials as lists of their coefficients, the constant first.
use Rattle.std.specs.Prelude.{◌≡◌, ℕ, ◌*◌, ◌%◌, ◌^◌, ◌<◌, List, length, slice_index}
use Rattle.psi_residue.specs.Sums.{sum_below}
use Rattle.psi_residue.specs.Numbers.{ring_degree}

-- 4096 coefficients, each below m; a list of slot values has the same form
pub record IsPolynomial (m : ℕ) (coefficients : List ℕ) : Type 0 where
  pub size : length coefficients ≡ ring_degree
  pub below : (i : ℕ) → i < ring_degree → slice_index coefficients i < m

-- the value of a polynomial at x, modulo m
unfoldable pub value_at : (m : ℕ) → List ℕ → (x : ℕ) → ℕ
value_at m coefficients x = sum_below (length coefficients) (λ i. slice_index coefficients i * x ^ i) % m
