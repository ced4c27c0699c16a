-- The transforms of polynomials: their values at the odd powers of a modulus's root of -1, and back.
use Rattle.std.specs.Prelude.{◌≡◌, ℕ, ◌+◌, ◌*◌, ◌%◌, List, slice_index}
use Rattle.psi_residue.specs.declared.numbers.Modulus.{Modulus}
use Rattle.psi_residue.specs.Numbers.{modulus_of, ring_degree, root_of, root_inverse_of, degree_inverse_of}
use Rattle.psi_residue.specs.Polynomials.{IsPolynomial}
use Rattle.psi_residue.specs.Ring.{product}
use Rattle.psi_residue.specs.Slots.{value_at_odd, coefficient_from}
use Rattle.psi_residue.specs.Sums.{table}
use Rattle.negacyclic.specs.Laws.{sum_modulo}

-- the values of a polynomial: place j has the one at the power 2j + 1 of the modulus's root
unfoldable pub values_of : Modulus → List ℕ → List ℕ
values_of m polynomial = table ring_degree (value_at_odd (modulus_of m) ring_degree (root_of m) (slice_index polynomial))

-- the polynomial that has these values
unfoldable pub polynomial_of : Modulus → List ℕ → List ℕ
polynomial_of m values = table ring_degree (coefficient_from (modulus_of m) ring_degree (root_inverse_of m) (degree_inverse_of m) (slice_index values))

-- place by place a sum and a product, modulo m
unfoldable pub with_products : (m : ℕ) → (sum a b : List ℕ) → List ℕ
with_products m sum a b = table ring_degree (λ i. (slice_index sum i + slice_index a i * slice_index b i) % m)

-- the values of a sum and a product are, place by place, the sum and the product of the values
abbrev pub ValuesOfProducts : Type 0
ValuesOfProducts = (m : Modulus) (sum a b : List ℕ) → IsPolynomial (modulus_of m) sum → IsPolynomial (modulus_of m) a → IsPolynomial (modulus_of m) b
    → with_products (modulus_of m) (values_of m sum) (values_of m a) (values_of m b) ≡ values_of m (sum_modulo (modulus_of m) ring_degree sum (product (modulus_of m) ring_degree a b))

-- so the polynomial of place-by-place products, added to zeros, is the product of the polynomials
abbrev pub ProductsByValues : Type 0
ProductsByValues = (m : Modulus) (a b zeros : List ℕ) → IsPolynomial (modulus_of m) a → IsPolynomial (modulus_of m) b → ((i : ℕ) → slice_index zeros i ≡ 0)
    → polynomial_of m (with_products (modulus_of m) zeros (values_of m a) (values_of m b)) ≡ product (modulus_of m) ring_degree a b

-- a polynomial and its values decide each other
abbrev pub ValuesDecide : Type 0
ValuesDecide = (m : Modulus) (xs : List ℕ) → IsPolynomial (modulus_of m) xs → (polynomial_of m (values_of m xs) ≡ xs) × (values_of m (polynomial_of m xs) ≡ xs)
