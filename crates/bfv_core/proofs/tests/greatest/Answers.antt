use Rattle.std.proofs.Common.{arith}
use Rattle.psi_residue.proofs.Polynomials.{IsPolynomial-constant}
use Rattle.bfv_core.proofs.tests.greatest.Goals as goal

pub returns : goal.returns
returns c = IsPolynomial-constant 65537 65536 (omega arith)
