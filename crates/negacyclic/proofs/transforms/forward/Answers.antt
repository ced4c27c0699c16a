use Rattle.std.proofs.Common.{ap, ◌∙◌}
use Rattle.negacyclic.specs.Butterflies.{numbers_of}
use Rattle.negacyclic.specs.Transforms.{polynomial_of}
use Rattle.negacyclic.proofs.TransformLaws.{values_from, polynomial_of-values_of}
use Rattle.negacyclic.proofs.transforms.forward.Goals as goal

pub returns-clause-values : goal.returns-clause-values
returns-clause-values c =
    values_from c.args.m c.plan_of-plan.result.modulus (numbers_of c.plan_of-plan.result.factors.now) c.args.a.now c.values.new.a
    c.plan_of-plan.ensures.modulus c.plan_of-plan.ensures.powers c.values.ensures.values

pub returns-clause-undone : goal.returns-clause-undone
returns-clause-undone c = ap (polynomial_of c.args.m) (returns-clause-values c) ∙ polynomial_of-values_of c.args.m c.args.a.now c.requires
