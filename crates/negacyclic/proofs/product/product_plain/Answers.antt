use Rattle.std.proofs.Common.{arith}
use Rattle.psi_residue.specs.Numbers.{modulus_of}
use Rattle.psi_residue.proofs.Moduli.{modulus-positive}
use Rattle.negacyclic.proofs.Convolutions.{StartsProduct-none, StartsProduct-more, StartsProduct-all, StartsProduct-reduced}
use Rattle.negacyclic.proofs.product.product_plain.Goals as goal

pub loop-k-init : goal.loop-k-init
loop-k-init c = StartsProduct-none (modulus_of c.args.m) c.args.a.now c.args.b.now c.args.out.now

pub loop-k-preserved : goal.loop-k-preserved
loop-k-preserved c =
    StartsProduct-more (modulus_of c.args.m) c.args.a.now c.args.b.now c.loop-k.out c.loop-k.k c.low_sum.result c.high_sum.result c.difference.result c.loop-k.invariant (omega arith) c.low_sum.ensures.sum c.high_sum.ensures c.difference.ensures.difference

pub returns-clause-product : goal.returns-clause-product
returns-clause-product c = StartsProduct-all (modulus_of c.args.m) c.args.a.now c.args.b.now c.loop-k.out c.loop-k.k (omega arith) (omega arith) c.loop-k.invariant

pub returns-clause-reduced : goal.returns-clause-reduced
returns-clause-reduced c = StartsProduct-reduced (modulus_of c.args.m) c.args.a.now c.args.b.now c.loop-k.out c.loop-k.k (modulus-positive c.args.m) (omega arith) (omega arith) c.loop-k.invariant
