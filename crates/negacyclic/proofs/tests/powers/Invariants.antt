use Rattle.std.proofs.Common.{◌<◌}
use Rattle.psi_residue.specs.Numbers.{modulus_of}
use Rattle.psi_residue.specs.Polynomials.{IsPolynomial}
use Rattle.negacyclic.proofs.tests.powers.Given as goal

abbrev pub invariant-loop-i : goal.invariant-loop-i
invariant-loop-i l = IsPolynomial (modulus_of l.m) l.polynomial × (l.power < modulus_of l.m)
