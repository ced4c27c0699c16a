use Rattle.psi_residue.specs.Polynomials.{IsPolynomial}
use Rattle.bundle_cache.proofs.tests.rising.Given as goal

abbrev pub invariant-loop-i : goal.invariant-loop-i
invariant-loop-i l = IsPolynomial 65537 l.residues
