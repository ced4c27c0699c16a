use Rattle.std.proofs.Common.{ap, ◌∙◌}
use Rattle.negacyclic.specs.Butterflies.{numbers_of}
use Rattle.negacyclic.specs.Transforms.{values_of}
use Rattle.negacyclic.proofs.TransformLaws.{polynomial_from, values_of-polynomial_of}
use Rattle.negacyclic.proofs.transforms.inverse.Goals as goal

pub returns-clause-polynomial : goal.returns-clause-polynomial
returns-clause-polynomial c =
    polynomial_from c.args.m c.plan_of-plan.result.modulus c.plan_of-plan.result.degree_inverse.number (numbers_of c.plan_of-plan.result.factors.now) c.args.a.now c.coefficients.new.a
    c.plan_of-plan.ensures.modulus c.plan_of-plan.ensures.scaled.1 c.plan_of-plan.ensures.powers c.coefficients.ensures.coefficients

pub returns-clause-undone : goal.returns-clause-undone
returns-clause-undone c = ap (values_of c.args.m) (returns-clause-polynomial c) ∙ values_of-polynomial_of c.args.m c.args.a.now c.requires
