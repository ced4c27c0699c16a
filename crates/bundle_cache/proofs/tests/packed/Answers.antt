use Rattle.std.proofs.Common.{arith}
use Rattle.psi_residue.proofs.Polynomials.{IsPolynomial-constant, IsPolynomial-set}
use Rattle.bundle_cache.proofs.tests.packed.Goals as goal

pub loop-slot-init : goal.loop-slot-init
loop-slot-init c = IsPolynomial-constant 65537 0 (omega arith)

pub loop-slot-preserved : goal.loop-slot-preserved
loop-slot-preserved c = IsPolynomial-set 65537 c.loop-slot.values c.loop-slot.slot c.coefficient.result c.loop-slot.invariant c.coefficient.ensures
