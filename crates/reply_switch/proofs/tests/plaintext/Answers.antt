use Rattle.std.proofs.Common.{replicate, set, arith}
use Rattle.psi_residue.proofs.Polynomials.{IsPolynomial-constant, IsPolynomial-set}
use Rattle.reply_switch.proofs.tests.plaintext.Goals as goal

pub returns : goal.returns
returns c =
    IsPolynomial-set 65537 (set (replicate 4096 65536) 0 0) 1 1
    (IsPolynomial-set 65537 (replicate 4096 65536) 0 0 (IsPolynomial-constant 65537 65536 (omega arith)) (omega arith)) (omega arith)
