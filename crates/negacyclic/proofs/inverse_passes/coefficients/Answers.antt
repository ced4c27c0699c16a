use Rattle.std.proofs.Common.{arith}
use Rattle.negacyclic.specs.Butterflies.{numbers_of}
use Rattle.negacyclic.proofs.Stages.{coefficients_of_passes}
use Rattle.negacyclic.proofs.inverse_passes.coefficients.Goals as goal

pub returns-clause-coefficients : goal.returns-clause-coefficients
returns-clause-coefficients c = λ x y minus_one turned inverse powers.
    coefficients_of_passes c.args.q x y c.args.degree_inverse.number _ _ _ _ _ _ (numbers_of c.args.factors.now) c.args.a.now
    c.first_pass.new.to c.pass.new.to c.pass-2.new.to c.pass-3.new.to c.pass-4.new.to c.pass-5.new.to c.scale.new.a
    (omega (arith, c.requires.degree_inverse.reduced)) minus_one turned inverse powers
    c.first_pass.ensures.replaced c.pass.ensures.replaced c.pass-2.ensures.replaced c.pass-3.ensures.replaced c.pass-4.ensures.replaced c.pass-5.ensures.replaced
    c.scale.ensures.scaled c.scale.ensures.reduced.size
