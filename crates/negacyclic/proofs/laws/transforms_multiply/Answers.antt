use Rattle.negacyclic.proofs.TransformLaws.{polynomial_of-values_of, values_of-polynomial_of, values_of_products, product_by_values}
use Rattle.negacyclic.proofs.laws.transforms_multiply.Goals as goal

pub returns-clause-decide : goal.returns-clause-decide
returns-clause-decide c = λ m xs polynomial. (polynomial_of-values_of m xs polynomial, values_of-polynomial_of m xs polynomial)

pub returns-clause-values : goal.returns-clause-values
returns-clause-values c = values_of_products

pub returns-clause-products : goal.returns-clause-products
returns-clause-products c = product_by_values
