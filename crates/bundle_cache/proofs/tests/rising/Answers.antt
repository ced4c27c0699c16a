use Rattle.std.proofs.Common.{arith}
use Rattle.psi_residue.proofs.Polynomials.{IsPolynomial-constant, IsPolynomial-set}
use Rattle.bundle_cache.proofs.Cells.{small-list}
use Rattle.bundle_cache.proofs.tests.rising.Goals as goal

pub loop-i-init : goal.loop-i-init
loop-i-init c = IsPolynomial-constant 65537 0 (omega arith)

pub loop-i-preserved : goal.loop-i-preserved
loop-i-preserved c = IsPolynomial-set 65537 c.loop-i.residues c.loop-i.i _ c.loop-i.invariant (omega arith)

pub returns : goal.returns
returns c = λ l. small-list c.loop-i.residues l c.loop-i.invariant
