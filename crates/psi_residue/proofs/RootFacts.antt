-- The roots of minus one of the three moduli, computed.
use Rattle.std.proofs.Common.{◌≡◌, ◌+◌, ◌*◌, ◌%◌, ◌^◌, refl}
use Rattle.psi_residue.specs.declared.numbers.Modulus.{Modulus}
use Rattle.psi_residue.specs.declared.numbers.Modulus.TheVariants as moduli
use Rattle.psi_residue.specs.Numbers.{modulus_of, root, root_inverse, degree_inverse, root_of, root_inverse_of, degree_inverse_of}

pub root_of-minus_one : (m : Modulus) → (root_of m ^ 4096 + 1) % modulus_of m ≡ 0
unfolding root_of root
root_of-minus_one moduli.Q1 = refl
root_of-minus_one moduli.Q2 = refl
root_of-minus_one moduli.T = refl

pub root_inverse_of-minus_one : (m : Modulus) → (root_inverse_of m ^ 4096 + 1) % modulus_of m ≡ 0
unfolding root_inverse_of root_inverse
root_inverse_of-minus_one moduli.Q1 = refl
root_inverse_of-minus_one moduli.Q2 = refl
root_inverse_of-minus_one moduli.T = refl

pub root_of-inverse : (m : Modulus) → (root_of m * root_inverse_of m) % modulus_of m ≡ 1
unfolding root_of root root_inverse_of root_inverse
root_of-inverse moduli.Q1 = refl
root_of-inverse moduli.Q2 = refl
root_of-inverse moduli.T = refl

pub degree_inverse_of-inverse : (m : Modulus) → (4096 * degree_inverse_of m) % modulus_of m ≡ 1
unfolding degree_inverse_of degree_inverse
degree_inverse_of-inverse moduli.Q1 = refl
degree_inverse_of-inverse moduli.Q2 = refl
degree_inverse_of-inverse moduli.T = refl
