-- A key with its values, by which products with it are place by place.
use Rattle.std.specs.Prelude.{◌≡◌, ℕ, List, ℤ}
use Rattle.psi_residue.specs.declared.numbers.Modulus.TheVariants as moduli
use Rattle.psi_residue.specs.Numbers.{first_modulus, second_modulus}
use Rattle.psi_residue.specs.Residues.{residues_of}
use Rattle.negacyclic.specs.Transforms.{values_of}
use Rattle.bfv_core.specs.Encryptions.{IsKey}

-- the key's residues modulo both moduli of a ciphertext, as their values at the odd powers of the roots
pub record HasValues (key : List ℤ) (first second : List ℕ) : Type 0 where
  pub key_is : IsKey key
  pub first_is : first ≡ values_of moduli.Q1 (residues_of first_modulus key)
  pub second_is : second ≡ values_of moduli.Q2 (residues_of second_modulus key)
