-- The polynomials that a bin keeps beside its members: by part, the one with their slot values as roots (Chen, Laine, Rindal, CCS 2017).
use Rattle.std.specs.Prelude.{◌≡◌, ℕ, ◌+◌, ◌<◌, ◌^◌, List, [], ◌∷◌, length, slice_index_or}
use Rattle.std.specs.List.{All}
use Rattle.psi_residue.specs.Numbers.{plain_modulus}
use Rattle.bin_poly.specs.Roots.{HasRoots, without}
use Rattle.psi_bundle.specs.declared.member.Member.{Member}
use Rattle.item_slots.specs.Tags.{parts_of_tag}
use Rattle.psi_bundle.specs.Bins.{AreApart, roots_of}

-- coefficients modulo the plaintext modulus, at least one
pub record IsReduced (coefficients : List ℕ) : Type 0 where
  pub some : 0 < length coefficients
  pub below : All (λ c. c < plain_modulus) coefficients

-- the new polynomial has one root more than the old one, a 16-bit number
pub record GainsRoot (root : ℕ) (old new : List ℕ) : Type 0 where
  pub value : root < 2 ^ 16
  pub longer : length new ≡ length old + 1
  pub product : (roots : List ℕ) → HasRoots old roots → HasRoots new (root ∷ roots)

-- the new polynomial has one root less than the old one
pub record LosesRoot (root : ℕ) (old new : List ℕ) : Type 0 where
  pub shorter : length new + 1 ≡ length old
  pub quotient : (roots : List ℕ) → All (λ a. a < 2 ^ 16) roots → HasRoots old roots → HasRoots new (without root roots)

-- the polynomial of these roots, which are 16-bit numbers: one coefficient more than roots
pub record IsRootPolynomial (roots polynomial : List ℕ) : Type 0 where
  pub values : All (λ a. a < 2 ^ 16) roots
  pub longer : length polynomial ≡ length roots + 1
  pub product : HasRoots polynomial roots

-- for each of the five parts
abbrev pub EachPart : (ℕ → Type 0) → Type 0
EachPart P = (j : ℕ) → j < parts_of_tag → P j

-- the polynomial of one part
abbrev pub polynomial_at : List (List ℕ) → ℕ → List ℕ
polynomial_at polynomials j = slice_index_or polynomials j []

-- the polynomials are those of the members, no two of which share a slot value in the same part
pub record KeepsPolynomials (members : List Member) (polynomials : List (List ℕ)) : Type 0 where
  pub parts : EachPart (λ j. IsRootPolynomial (roots_of members j) (polynomial_at polynomials j))
  pub apart : AreApart members
