use Rattle.std.proofs.Common.{length}
use Rattle.bin_poly.proofs.Products.{all_below}
use Rattle.label_interp.proofs.Interpolating.{filled-below, filled-through, filled-interpolated}
use Rattle.label_interp.proofs.newton.interpolate.Goals as goal

pub returns-clause-coefficients : goal.returns-clause-coefficients
returns-clause-coefficients c = λ k lt.
    filled-interpolated c.args.points.now c.newton_form.new.out c.expand.new.out c.clear.new.out c.requires.numbers_below c.requires.places_differ
    c.newton_form.ensures.through c.expand.ensures.values c.expand.ensures.below c.clear.ensures.before c.clear.ensures.after k

pub returns-clause-rest : goal.returns-clause-rest
returns-clause-rest c = c.clear.ensures.after

pub returns-clause-through : goal.returns-clause-through
returns-clause-through c =
    filled-through c.args.points.now c.newton_form.new.out c.expand.new.out c.clear.new.out
    c.newton_form.ensures.through c.expand.ensures.values c.clear.ensures.before c.clear.ensures.after

pub returns-clause-below : goal.returns-clause-below
returns-clause-below c = all_below c.clear.new.out (filled-below (length c.args.points.now) c.expand.new.out c.clear.new.out c.expand.ensures.below c.clear.ensures.before c.clear.ensures.after)
