-- Packing and the slots of lists are the transforms modulo the plaintext modulus.
use Rattle.std.proofs.Common.{◌≡◌, ℕ, ◌<◌, List, get_or, refl, ap, ◌∙◌, sym, subst, arith}
use Rattle.psi_residue.specs.declared.numbers.Modulus.TheVariants as moduli
use Rattle.psi_residue.specs.Numbers.{root_of, root_inverse_of, degree_inverse_of}
use Rattle.psi_residue.specs.Polynomials.{IsPolynomial}
use Rattle.psi_residue.specs.Slots.{coefficient_from, slot_of, slots_of, packed_at, packed, packed_list}
use Rattle.psi_residue.proofs.Polynomials.{IsPolynomial-table}
use Rattle.psi_residue.proofs.Sums.{slice_index-table}
use Rattle.negacyclic.specs.Transforms.{values_of, polynomial_of}
use Rattle.negacyclic.proofs.TransformLaws.{IsPolynomial-values_of, IsPolynomial-polynomial_of, polynomial_of-values_of, values_of-polynomial_of}

pub polynomial_of-packed_list : (v : List ℕ) → polynomial_of moduli.T v ≡ packed_list v
unfolding polynomial_of root_inverse_of degree_inverse_of packed_list packed packed_at
polynomial_of-packed_list v = refl

pub values_of-slots_of : (p : List ℕ) → values_of moduli.T p ≡ slots_of p
unfolding values_of root_of slots_of slot_of
values_of-slots_of p = refl

pub IsPolynomial-packed_list : (v : List ℕ) → IsPolynomial 65537 (packed_list v)
IsPolynomial-packed_list v = subst (λ (p : List ℕ). IsPolynomial 65537 p) (polynomial_of-packed_list v) (IsPolynomial-polynomial_of moduli.T v)

pub IsPolynomial-slots_of : (p : List ℕ) → IsPolynomial 65537 (slots_of p)
IsPolynomial-slots_of p = subst (λ (v : List ℕ). IsPolynomial 65537 v) (values_of-slots_of p) (IsPolynomial-values_of moduli.T p)

-- so is what packs any numbers
packed_at-below : (v : ℕ → ℕ) (i : ℕ) → packed_at v i < 65537
unfolding packed_at coefficient_from
packed_at-below v i = omega arith

pub packed-polynomial : (v : ℕ → ℕ) → IsPolynomial 65537 (packed v)
unfolding packed
packed-polynomial v = IsPolynomial-table 65537 (packed_at v) (λ k lt. packed_at-below v k)

-- the slots of packed plaintexts are those plaintexts
pub slots_of-packed_list : (v : List ℕ) → IsPolynomial 65537 v → slots_of (packed_list v) ≡ v
slots_of-packed_list v plain =
    sym (ap (values_of moduli.T) (polynomial_of-packed_list v) ∙ values_of-slots_of (packed_list v)) ∙ values_of-polynomial_of moduli.T v plain

-- the polynomial of a polynomial's slots is that polynomial
pub packed_list-slots_of : (p : List ℕ) → IsPolynomial 65537 p → packed_list (slots_of p) ≡ p
packed_list-slots_of p plain =
    sym (ap (polynomial_of moduli.T) (values_of-slots_of p) ∙ polynomial_of-packed_list (slots_of p)) ∙ polynomial_of-values_of moduli.T p plain

pub slot-slots_of : (p : List ℕ) (j : ℕ) → j < 4096 → get_or (slots_of p) j 0 ≡ slot_of p j
unfolding slots_of
slot-slots_of p j lt = slice_index-table 4096 (slot_of p) j lt
