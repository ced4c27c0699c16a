use Rattle.std.proofs.Common.{ℕ, ◌+◌, ◌*◌, ◌%◌, ◌<◌, get_or, ap, ◌∙◌, sym, subst, arith}
use Rattle.psi_residue.specs.Numbers.{modulus_of}
use Rattle.psi_residue.proofs.Moduli.{modulus-positive}
use Rattle.negacyclic.proofs.Filled.{filled-more, filled-along, filled-below, mod-below}
use Rattle.negacyclic.proofs.TransformLaws.{with_products_from}
use Rattle.negacyclic.proofs.transforms.mul_acc.Goals as goal

pub with_product-requires-clause-sum : goal.with_product-requires-clause-sum
with_product-requires-clause-sum c =
    let i : ℕ = 4 * c.loop-c.c + c.loop-k.k in
    subst (λ (u : ℕ). u < modulus_of c.args.m) (sym (c.loop-k.invariant.rest i (omega arith))) (c.requires.sum.below i (omega arith))

pub loop-k-preserved : goal.loop-k-preserved
loop-k-preserved c =
    let i : ℕ = 4 * c.loop-c.c + c.loop-k.k in
    filled-along _ c.args.acc.now _ (i + 1) (4 * c.loop-c.c + (c.loop-k.k + 1)) (omega arith)
    (filled-more (λ n. (get_or c.args.acc.now n 0 + get_or c.args.a.now n 0 * get_or c.args.b.now n 0) % modulus_of c.args.m) c.args.acc.now c.loop-k.acc i c.with_product.result (omega arith)
    (c.with_product.ensures.sum ∙ ap (λ (u : ℕ). (u + get_or c.args.a.now i 0 * get_or c.args.b.now i 0) % modulus_of c.args.m) (c.loop-k.invariant.rest i (omega arith))) c.loop-k.invariant)

pub returns-clause-sums : goal.returns-clause-sums
returns-clause-sums c =
    with_products_from (modulus_of c.args.m) c.args.acc.now c.args.a.now c.args.b.now c.loop-c.acc (omega arith) (λ i lt. c.loop-c.invariant.done i (omega arith))

pub returns-clause-reduced : goal.returns-clause-reduced
returns-clause-reduced c =
    filled-below (modulus_of c.args.m) (λ n. (get_or c.args.acc.now n 0 + get_or c.args.a.now n 0 * get_or c.args.b.now n 0) % modulus_of c.args.m) c.args.acc.now c.loop-c.acc (4 * c.loop-c.c)
    (λ n. mod-below (get_or c.args.acc.now n 0 + get_or c.args.a.now n 0 * get_or c.args.b.now n 0) (modulus_of c.args.m) (modulus-positive c.args.m)) (omega arith) (omega arith) c.loop-c.invariant
