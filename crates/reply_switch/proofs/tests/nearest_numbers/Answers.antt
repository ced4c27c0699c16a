use Rattle.std.proofs.Common.{arith}
use Rattle.psi_residue.specs.Numbers.{first_modulus, second_modulus}
use Rattle.psi_residue.proofs.Polynomials.{IsPolynomial-constant, IsPolynomial-set}
use Rattle.reply_switch.proofs.tests.nearest_numbers.Goals as goal

pub loop-i-init : goal.loop-i-init
loop-i-init g c = record { first = IsPolynomial-constant first_modulus 0 (omega arith); second = IsPolynomial-constant second_modulus 0 (omega arith) }

pub loop-i-preserved : goal.loop-i-preserved
loop-i-preserved g c = record {
  first = IsPolynomial-set first_modulus _ _ _ c.loop-i.invariant.first (omega (arith, c.split-a.ensures.first));
  second = IsPolynomial-set second_modulus _ _ _ c.loop-i.invariant.second (omega (arith, c.split-a.ensures.second));
}
