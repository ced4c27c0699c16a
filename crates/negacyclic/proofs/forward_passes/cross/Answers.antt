use Rattle.std.proofs.Common.{arith}
use Rattle.negacyclic.proofs.Butterflying.{crossed_from}
use Rattle.negacyclic.proofs.forward_passes.cross.Goals as goal

pub returns-clause-crossed : goal.returns-clause-crossed
returns-clause-crossed c =
    crossed_from c.args.q c.args.w.first.number c.args.w.second.number c.args.w.third.number c.args.x0 c.args.x1 c.args.x2 c.args.x3
    c.product-v2.result c.product-v3.result c.product-u.result c.product-t.result
    c.product-v2.ensures.product c.product-v3.ensures.product c.product-u.ensures.product c.product-t.ensures.product
    (omega arith) (omega arith) (omega arith) (omega arith)
