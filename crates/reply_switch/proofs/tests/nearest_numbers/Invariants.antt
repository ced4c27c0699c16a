use Rattle.psi_residue.specs.Numbers.{first_modulus, second_modulus}
use Rattle.psi_residue.specs.Polynomials.{IsPolynomial}
use Rattle.reply_switch.proofs.tests.nearest_numbers.Given as goal

abbrev pub invariant-loop-i : goal.invariant-loop-i
invariant-loop-i g l = record {
  first : IsPolynomial first_modulus l.first;
  second : IsPolynomial second_modulus l.second;
}
