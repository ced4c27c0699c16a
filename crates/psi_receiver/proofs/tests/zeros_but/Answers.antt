use Rattle.std.proofs.Common.{arith, replicate}
use Rattle.psi_residue.proofs.Polynomials.{IsPolynomial-constant, IsPolynomial-set}
use Rattle.psi_receiver.proofs.tests.zeros_but.Goals as goal

pub returns : goal.returns
returns c = IsPolynomial-set 65537 (replicate 4096 0) c.args.slot 1 (IsPolynomial-constant 65537 0 (omega arith)) (omega arith)
