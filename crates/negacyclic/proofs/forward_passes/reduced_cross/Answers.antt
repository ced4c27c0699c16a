use Rattle.negacyclic.proofs.Butterflying.{crossed_reduced}
use Rattle.negacyclic.proofs.forward_passes.reduced_cross.Goals as goal

pub returns-clause-crossed : goal.returns-clause-crossed
returns-clause-crossed c =
    crossed_reduced c.args.q c.args.one.number c.args.w.first.number c.args.w.second.number c.args.w.third.number c.args.x0 c.args.x1 c.args.x2 c.args.x3
    _ _ _ _ _ _ _ _ c.requires.one.1
    c.reduced_product.ensures.product c.reduced_product-2.ensures.product c.reduced_product-3.ensures.product c.reduced_product-4.ensures.product
    c.cross-y0.ensures.crossed
