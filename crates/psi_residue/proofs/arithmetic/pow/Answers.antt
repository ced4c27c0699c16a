use Rattle.std.proofs.Common.{◌∙◌}
use Rattle.psi_residue.specs.Numbers.{modulus_of}
use Rattle.psi_residue.proofs.Powers.{step_even, step_odd}
use Rattle.psi_residue.proofs.arithmetic.pow.Goals as goal
use Rattle.psi_residue.proofs.arithmetic.pow.Goals.{then-rest-eq1, else-rest-eq1}

pub loop-rest-preserved : goal.loop-rest-preserved
loop-rest-preserved c =
    let old = c.loop-rest.invariant in
    elim c.if-rest-eq1.branch [
      | then-rest-eq1 w ↦ record {
        so_far = step_odd (modulus_of c.args.m) c.loop-rest.power c.loop-rest.square c.loop-rest.rest c.mul-square.result c.if-rest-eq1.power w.if-rest-eq1.true c.mul-square.ensures.product (w.power-is ∙ w.mul-power.ensures.product) ∙ old.so_far;
        power_below = rw w.power-is w.mul-power.ensures.below;
        square_below = c.mul-square.ensures.below;
      }
      | else-rest-eq1 w ↦ record {
        so_far = rw w.power-is (step_even (modulus_of c.args.m) c.loop-rest.power c.loop-rest.square c.loop-rest.rest c.mul-square.result w.if-rest-eq1.false c.mul-square.ensures.product ∙ old.so_far);
        power_below = rw w.power-is old.power_below;
        square_below = c.mul-square.ensures.below;
      }
    ]
