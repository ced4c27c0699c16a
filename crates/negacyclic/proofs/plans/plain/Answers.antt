use Rattle.std.proofs.Common.{refl, arith}
use Rattle.psi_residue.specs.Numbers.{degree_inverse, degree_inverse_of}
use Rattle.negacyclic.proofs.PowerTests.{plain-factors, plain-powers}
use Rattle.negacyclic.proofs.plans.plain.Goals as goal

pub returns : goal.returns
unfolding degree_inverse_of degree_inverse
returns c = record {
  modulus = refl;
  small = omega arith;
  fold = refl;
  narrow = omega arith;
  one = (record { reduced = omega arith; scaled = refl }, refl);
  scaled = (record { reduced = omega arith; scaled = refl }, refl);
  factors = plain-factors;
  powers = plain-powers;
}
