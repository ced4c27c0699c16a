use Rattle.std.proofs.Common.{◌<◌}
use Rattle.psi_residue.specs.Polynomials.{IsPolynomial}
use Rattle.batching.proofs.tests.mixed_values.Given as goal

abbrev pub invariant-loop-i : goal.invariant-loop-i
invariant-loop-i l = IsPolynomial 65537 l.values × (l.value < 65537)
