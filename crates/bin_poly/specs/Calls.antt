-- Calls that change a polynomial by one root, and the roots that stand after them.
use Rattle.std.specs.Prelude.{◌≡◌, ℕ, ◌<◌, ◌^◌, List, [], ◌∷◌, slice_index, fold}
use Rattle.std.specs.List.{All}
use Rattle.psi_residue.specs.Numbers.{plain_modulus}
use Rattle.psi_residue.specs.Polynomials.{value_at}
use Rattle.bin_poly.specs.Roots.{times_root_coefficient, HasRoots, without}

-- a root is multiplied in, or divided out
pub data Call : Type 0 where
  times : ℕ → Call
  divide : ℕ → Call

-- the call, under its condition, makes the polynomial new of the polynomial old
abbrev pub Makes : Call → List ℕ → List ℕ → Type 0
Makes (times a) old new = (a < 2 ^ 16) × ((k : ℕ) → slice_index new k ≡ times_root_coefficient a (slice_index old) k)
Makes (divide a) old new =
    (a < 2 ^ 16) × (value_at plain_modulus old a ≡ 0) × All (λ c. c < plain_modulus) new
    × ((k : ℕ) → times_root_coefficient a (slice_index new) k ≡ slice_index old k)

-- the calls, one after the other, make new of old
abbrev pub AllMake : List Call → List ℕ → List ℕ → Type 0
AllMake [] old new = (k : ℕ) → slice_index new k ≡ slice_index old k
AllMake (call ∷ calls) old new = (between : List ℕ) × Makes call old between × AllMake calls between new

-- the roots after a call
abbrev pub roots_after : List ℕ → Call → List ℕ
roots_after roots (times a) = a ∷ roots
roots_after roots (divide a) = without a roots

-- after all calls the polynomial is the product over the roots that then stand
abbrev pub RootsStand : Type 0
RootsStand = (calls : List Call) (roots old new : List ℕ) → All (λ a. a < 2 ^ 16) roots → HasRoots old roots
    → AllMake calls old new → HasRoots new (fold roots_after roots calls)
