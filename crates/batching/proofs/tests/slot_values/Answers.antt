use Rattle.std.proofs.Common.{replicate}
use Rattle.psi_residue.proofs.Polynomials.{IsPolynomial-constant, IsPolynomial-set}
use Rattle.batching.proofs.tests.slot_values.Goals as goal

pub returns : goal.returns
returns c = IsPolynomial-set 65537 (replicate 4096 c.args.others) 0 c.args.first (IsPolynomial-constant 65537 c.args.others c.requires.others_below) c.requires.first_below
