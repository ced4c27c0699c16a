use Rattle.std.proofs.Common.{◌∙◌, [], arith}
use Rattle.std.proofs.lemmas.List.FromFn.{fill_by_all}
use Rattle.psi_bundle.specs.Bodies.{evaluated_plane}
use Rattle.psi_bundle.specs.Planes.{planes_of_bundle}
use Rattle.bundle_cache.proofs.evaluation.eval_into.Goals as goal

pub returns-clause-evaluated : goal.returns-clause-evaluated
returns-clause-evaluated c =
    let p = c.args.cache.now.parameters in
    fill_by_all (evaluated_plane p c.args.powers.now.query c.args.row c.args.cache.now.bins) c.loop-plane.out (planes_of_bundle p) [] (c.loop-plane.invariant.size ∙ c.requires.places)
    (λ k lt. c.loop-plane.invariant.done k (omega (arith, lt, c.loop-plane-test.false, c.planes-plane-end.ensures.number)))
