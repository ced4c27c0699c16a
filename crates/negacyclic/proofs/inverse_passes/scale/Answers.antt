use Rattle.std.proofs.Common.{ℕ, ◌+◌, ◌*◌, ◌%◌, ◌<◌, get_or, ap, ◌∙◌, arith}
use Rattle.negacyclic.proofs.Filled.{filled-more, filled-along, filled-below, mod-below}
use Rattle.negacyclic.proofs.inverse_passes.scale.Goals as goal

pub loop-k-preserved : goal.loop-k-preserved
loop-k-preserved c =
    let i : ℕ = 4 * c.loop-c.c + c.loop-k.k in
    filled-along _ c.args.a.now _ (i + 1) (4 * c.loop-c.c + (c.loop-k.k + 1)) (omega arith)
    (filled-more (λ n. (get_or c.args.a.now n 0 * c.args.factor.number) % c.args.q) c.args.a.now c.loop-k.a i c.reduced_product.result (omega arith)
    (c.reduced_product.ensures.product ∙ ap (λ (u : ℕ). (u * c.args.factor.number) % c.args.q) (c.loop-k.invariant.rest i (omega arith))) c.loop-k.invariant)

pub returns-clause-reduced : goal.returns-clause-reduced
returns-clause-reduced c =
    let positive : 0 < c.args.q = omega (arith, c.requires.factor.reduced) in
    filled-below c.args.q (λ n. (get_or c.args.a.now n 0 * c.args.factor.number) % c.args.q) c.args.a.now c.loop-c.a (4 * c.loop-c.c)
    (λ n. mod-below (get_or c.args.a.now n 0 * c.args.factor.number) c.args.q positive) (omega arith) (omega arith) c.loop-c.invariant
