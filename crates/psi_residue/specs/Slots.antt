-- The slots of a polynomial: its values at the odd powers of a root of -1, which hold one plaintext each (Smart and Vercauteren 2014).
use Rattle.std.specs.Prelude.{ℕ, ◌+◌, ◌*◌, ◌%◌, ◌^◌, List, slice_index}
use Rattle.psi_residue.specs.Sums.{sum_below, table}
use Rattle.psi_residue.specs.Numbers.{ring_degree, plain_modulus, root, root_inverse, degree_inverse}

-- the value at x^(2j + 1) of the polynomial with the coefficients p, modulo m
unfoldable pub value_at_odd : (m n x : ℕ) → (ℕ → ℕ) → ℕ → ℕ
value_at_odd m n x p j = sum_below n (λ i. p i * x ^ ((2 * j + 1) * i)) % m

-- c times the sum of v_j * y^((2j + 1) * i), modulo m: where y is the inverse of x, and c that of n, this is coefficient i of the polynomial with the values v at the odd powers of x
unfoldable pub coefficient_from : (m n y c : ℕ) → (ℕ → ℕ) → ℕ → ℕ
coefficient_from m n y c v i = (c * sum_below n (λ j. v j * y ^ ((2 * j + 1) * i))) % m

-- slot j of the polynomial p
unfoldable pub slot_of : List ℕ → ℕ → ℕ
slot_of p j = value_at_odd plain_modulus ring_degree root (slice_index p) j

-- coefficient i of the polynomial whose slot j is v j
unfoldable pub packed_at : (ℕ → ℕ) → ℕ → ℕ
packed_at v i = coefficient_from plain_modulus ring_degree root_inverse degree_inverse v i

-- the polynomial whose slot j is v j
unfoldable pub packed : (ℕ → ℕ) → List ℕ
packed v = table ring_degree (packed_at v)

-- the polynomial whose slots are the list's values
unfoldable pub packed_list : List ℕ → List ℕ
packed_list vs = packed (slice_index vs)

-- the slots of the polynomial p
unfoldable pub slots_of : List ℕ → List ℕ
slots_of p = table ring_degree (slot_of p)
