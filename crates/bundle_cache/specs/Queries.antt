-- A query's ciphertexts as transforms, and what a lane keeps for its evaluations.
use Rattle.std.specs.Prelude.{◌≡◌, ⊤, ℕ, Bool, ◌*◌, ◌%◌, ◌==◌, List, [], ◌∷◌, slice_index, Option, Some, None, if◌then◌else◌}
use Rattle.psi_residue.specs.declared.numbers.Modulus.{Modulus}
use Rattle.psi_residue.specs.declared.numbers.Modulus.TheVariants as moduli
use Rattle.psi_residue.specs.Ciphertexts.{list_at}
use Rattle.psi_residue.specs.Numbers.{ring_degree, scale}
use Rattle.psi_residue.specs.Sums.{table}
use Rattle.psi_residue.specs.Parameters.{Parameters}
use Rattle.negacyclic.specs.Transforms.{polynomial_of}
use Rattle.row_block.specs.Rows.{Block}
use Rattle.bundle_cache.specs.Caches.{IsBundleBlock}

-- the modulus of residue list number l of a ciphertext
abbrev pub modulus_of_list : ℕ → Modulus
modulus_of_list l = if l % 2 == 0 then moduli.Q1 else moduli.Q2

-- the ciphertext whose four residue lists have these values
unfoldable pub ciphertext_of : List (List ℕ) → List (List ℕ)
ciphertext_of values =
    polynomial_of moduli.Q1 (list_at values 0)
    ∷ polynomial_of moduli.Q2 (list_at values 1)
    ∷ polynomial_of moduli.Q1 (list_at values 2)
    ∷ polynomial_of moduli.Q2 (list_at values 3)
    ∷ []

-- the powers of a query as contracts see them: the parameters, and the query's ciphertexts
pub record PowersOf : Type 0 where
  pub parameters : Parameters
  pub query : List (List (List ℕ))

-- what a lane keeps as contracts see it: the parameters, and the block, where it is there
pub record ScratchOf : Type 0 where
  pub parameters : Parameters
  pub block : Option Block

-- a block that is there has the size of a bundle, and holds no row
abbrev pub IsKept : Parameters → Option Block → Type 0
IsKept p None = ⊤
IsKept p (Some block) = IsBundleBlock p block × (block.held ≡ [])

-- the values of Δ times a polynomial, modulo m, from its values; of c1 none
unfoldable pub scaled_values : (m : ℕ) → Bool → List ℕ → List ℕ
scaled_values m of_c0 values = table ring_degree (λ i. (if of_c0 then scale * slice_index values i else 0) % m)
