use Rattle.psi_residue.specs.Numbers.{modulus_of}
use Rattle.psi_residue.proofs.Polynomials.{IsPolynomial-constant, IsPolynomial-set}
use Rattle.negacyclic.proofs.TransformLaws.{one-below}
use Rattle.negacyclic.proofs.tests.powers.Goals as goal

pub loop-i-init : goal.loop-i-init
loop-i-init c = (IsPolynomial-constant (modulus_of c.args.m) 1 (one-below c.args.m), one-below c.args.m)

pub loop-i-preserved : goal.loop-i-preserved
loop-i-preserved c =
    (IsPolynomial-set (modulus_of c.args.m) c.loop-i.polynomial c.loop-i.i c.loop-i.power c.loop-i.invariant.0 c.loop-i.invariant.1, c.mul-power.ensures.below)
