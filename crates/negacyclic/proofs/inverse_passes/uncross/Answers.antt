use Rattle.std.proofs.Common.{arith}
use Rattle.negacyclic.proofs.Butterflying.{uncrossed_from}
use Rattle.negacyclic.proofs.inverse_passes.uncross.Goals as goal

pub returns-clause-uncrossed : goal.returns-clause-uncrossed
returns-clause-uncrossed c =
    uncrossed_from c.args.q c.args.top c.args.w.first.number c.args.w.second.number c.args.w.third.number c.args.y0 c.args.y1 c.args.y2 c.args.y3
    c.product-a1.result c.product-b1.result c.product-x2.result c.product-x3.result c.requires.multiple
    c.product-a1.ensures.product c.product-b1.ensures.product c.product-x2.ensures.product c.product-x3.ensures.product
    (omega arith) (omega arith) (omega arith) (omega arith)
