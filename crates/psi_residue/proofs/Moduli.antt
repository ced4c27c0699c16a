-- The sizes of the moduli.
use Rattle.std.proofs.Common.{◌<◌, ◌≤◌, arith}
use Rattle.psi_residue.specs.declared.numbers.Modulus.{Modulus}
use Rattle.psi_residue.specs.declared.numbers.Modulus.TheVariants as moduli
use Rattle.psi_residue.specs.Numbers.{modulus_of}

-- at most 2^36
pub modulus-bound : (m : Modulus) → modulus_of m ≤ 68719476736
modulus-bound moduli.Q1 = omega arith
modulus-bound moduli.Q2 = omega arith
modulus-bound moduli.T = omega arith

pub modulus-positive : (m : Modulus) → 0 < modulus_of m
modulus-positive moduli.Q1 = omega arith
modulus-positive moduli.Q2 = omega arith
modulus-positive moduli.T = omega arith
