-- The laws of products of polynomials modulo x^n + 1.
use Rattle.std.specs.Prelude.{◌≡◌, ℕ, ◌+◌, ◌*◌, ◌%◌, ◌^◌, ◌<◌, List, length, slice_index}
use Rattle.psi_residue.specs.Numbers.{plain_modulus, ring_degree}
use Rattle.psi_residue.specs.Polynomials.{IsPolynomial, value_at}
use Rattle.psi_residue.specs.Ring.{product}
use Rattle.psi_residue.specs.Slots.{slot_of}
use Rattle.psi_residue.specs.Sums.{table}

-- at each x with x^n = -1 modulo m, the value of a product is the product of the values
abbrev pub ValuesMultiply : Type 0
ValuesMultiply = (m n x : ℕ) (a b : List ℕ) → 0 < m → (x ^ n + 1) % m ≡ 0 → length a ≡ n → length b ≡ n → value_at m (product m n a b) x ≡ (value_at m a x * value_at m b x) % m

-- each slot of a product of plaintext polynomials is the product of their slots
abbrev pub SlotsMultiply : Type 0
SlotsMultiply = (a b : List ℕ) (j : ℕ) → IsPolynomial plain_modulus a → IsPolynomial plain_modulus b → slot_of (product plain_modulus ring_degree a b) j ≡ (slot_of a j * slot_of b j) % plain_modulus

-- the order of the factors does not matter
abbrev pub ProductsCommute : Type 0
ProductsCommute = (m n : ℕ) (a b : List ℕ) → product m n a b ≡ product m n b a

-- nor does the grouping of three factors
abbrev pub ProductsAssociate : Type 0
ProductsAssociate = (m n : ℕ) (a b c : List ℕ) → 0 < m → length a ≡ n → length b ≡ n → length c ≡ n → product m n (product m n a b) c ≡ product m n a (product m n b c)

-- the sum of two polynomials of n coefficients, modulo m
unfoldable pub sum_modulo : (m n : ℕ) → List ℕ → List ℕ → List ℕ
sum_modulo m n a b = table n (λ i. (slice_index a i + slice_index b i) % m)

-- the product of a sum is the sum of the products
abbrev pub ProductsDistribute : Type 0
ProductsDistribute = (m n : ℕ) (a b c : List ℕ) → 0 < m → length a ≡ n → length b ≡ n → product m n (sum_modulo m n a b) c ≡ sum_modulo m n (product m n a c) (product m n b c)
