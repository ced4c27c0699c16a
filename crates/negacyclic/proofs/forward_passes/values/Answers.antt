use Rattle.std.proofs.Common.{arith}
use Rattle.negacyclic.specs.Butterflies.{numbers_of}
use Rattle.negacyclic.proofs.Stages.{values_of_passes}
use Rattle.negacyclic.proofs.forward_passes.values.Goals as goal

pub returns-clause-values : goal.returns-clause-values
returns-clause-values c = λ x minus_one powers.
    values_of_passes c.args.q x _ _ _ _ _ _ (numbers_of c.args.factors.now) c.args.a.now c.pass.new.to c.pass-2.new.to c.pass-3.new.to c.pass-4.new.to c.pass-5.new.to c.last_pass.new.to
    (omega (arith, c.requires.one.0.reduced)) minus_one powers
    c.pass.ensures.placed c.pass-2.ensures.placed c.pass-3.ensures.placed c.pass-4.ensures.placed c.pass-5.ensures.placed c.last_pass.ensures.placed c.last_pass.ensures.below
