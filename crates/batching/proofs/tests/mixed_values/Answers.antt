use Rattle.std.proofs.Common.{arith}
use Rattle.psi_residue.proofs.Polynomials.{IsPolynomial-constant, IsPolynomial-set}
use Rattle.batching.proofs.tests.mixed_values.Goals as goal

pub loop-i-init : goal.loop-i-init
loop-i-init c = (IsPolynomial-constant 65537 1 (omega arith), omega arith)

pub loop-i-preserved : goal.loop-i-preserved
loop-i-preserved c = (IsPolynomial-set 65537 c.loop-i.values _ _ c.loop-i.invariant.0 (omega arith), omega arith)
