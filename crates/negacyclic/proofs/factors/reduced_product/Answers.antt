use Rattle.std.proofs.Common.{◌*◌, arith}
use Rattle.negacyclic.proofs.Shoup.{reduced_once}
use Rattle.negacyclic.proofs.factors.reduced_product.Goals as goal

pub returns-else-product-q-clause-product : goal.returns-else-product-q-clause-product
returns-else-product-q-clause-product c =
    reduced_once c.args.q c.product-product.result (c.args.x * c.args.factor.number) (omega arith) (omega arith) c.product-product.ensures.product
