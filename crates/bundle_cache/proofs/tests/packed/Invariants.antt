use Rattle.psi_residue.specs.Polynomials.{IsPolynomial}
use Rattle.bundle_cache.proofs.tests.packed.Given as goal

abbrev pub invariant-loop-slot : goal.invariant-loop-slot
invariant-loop-slot l = IsPolynomial 65537 l.values
