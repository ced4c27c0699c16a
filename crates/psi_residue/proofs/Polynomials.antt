-- Lists that are polynomials.
use Rattle.std.proofs.Common.{ℕ, ◌<◌, List, set, ◌∙◌, inl, inr, arith, replicate}
use Rattle.std.proofs.lemmas.Bool.{cases_eq}
use Rattle.std.proofs.lemmas.List.{get_or-set_other, get_or-replicate, length-replicate, length-set}
use Rattle.std.proofs.lemmas.Grind.{get_or-set_at}
use Rattle.psi_residue.specs.Sums.{table}
use Rattle.psi_residue.specs.Polynomials.{IsPolynomial}
use Rattle.psi_residue.proofs.Sums.{length-table, slice_index-table}

-- a table of numbers below m is a polynomial
pub IsPolynomial-table : (m : ℕ) (f : ℕ → ℕ) → ((k : ℕ) → k < 4096 → f k < m) → IsPolynomial m (table 4096 f)
IsPolynomial-table m f h = record { size = length-table 4096 f; below = λ i lt. rw (slice_index-table 4096 f i lt) (h i lt) }

-- all coefficients are one number
pub IsPolynomial-constant : (m value : ℕ) → value < m → IsPolynomial m (replicate 4096 value)
IsPolynomial-constant m value lt = record {
  size = length-replicate {A = ℕ} 4096 value;
  below = λ i below. rw (get_or-replicate 4096 i value 0 below) lt;
}

-- one coefficient is written
pub IsPolynomial-set : (m : ℕ) (xs : List ℕ) (place value : ℕ) → IsPolynomial m xs → value < m → IsPolynomial m (set xs place value)
IsPolynomial-set m xs place value h lt = record {
  size = length-set xs place value ∙ h.size;
  below = λ i below.
      elim (cases_eq i place) [
        | inl same ↦ rw (get_or-set_at xs place i value 0 same (omega (arith, h.size))) lt
        | inr other ↦ rw (get_or-set_other xs place i value 0 other) (h.below i below)
      ];
}
