use Rattle.psi_residue.specs.Numbers.{modulus_of}
use Rattle.psi_residue.specs.Polynomials.{IsPolynomial}
use Rattle.negacyclic.proofs.tests.line.Given as goal

abbrev pub invariant-loop-i : goal.invariant-loop-i
invariant-loop-i l = IsPolynomial (modulus_of l.fn.m) l.polynomial
