use Rattle.std.proofs.Common.{◌≡◌, ◌%◌, ℕ, length, slice_index, subst, arith}
use Rattle.label_interp.specs.Points.{place_at, value_of, newton_value}
use Rattle.label_interp.proofs.Forms.{form-step, form-below}
use Rattle.label_interp.proofs.newton.newton_form.Goals as goal

pub loop-i-preserved : goal.loop-i-preserved
loop-i-preserved c = record {
  through = form-step c.args.points.now c.loop-i.out c.loop-i.i c.newton_coefficient.result (omega arith) (omega arith) c.requires.numbers_below
      c.newton_coefficient.ensures.takes c.loop-i.invariant.through;
  below = form-below c.loop-i.out c.loop-i.i c.newton_coefficient.result (omega arith) c.newton_coefficient.ensures.below c.loop-i.invariant.below;
}

pub returns-clause-through : goal.returns-clause-through
returns-clause-through c = λ j lt.
    let same : c.loop-i.i ≡ length c.args.points.now = omega arith in
    subst (λ (m : ℕ). newton_value c.args.points.now (slice_index c.loop-i.out) (place_at c.args.points.now j) m 0 % 65537 ≡ value_of c.args.points.now j) same
    (c.loop-i.invariant.through j (omega arith))
