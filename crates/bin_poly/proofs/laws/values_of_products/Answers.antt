use Rattle.bin_poly.proofs.Products.{value-of_product, value-at_root}
use Rattle.bin_poly.proofs.laws.values_of_products.Goals as goal

pub returns-clause-values : goal.returns-clause-values
returns-clause-values c = value-of_product

pub returns-clause-at_roots : goal.returns-clause-at_roots
returns-clause-at_roots c = value-at_root
