use Rattle.negacyclic.proofs.RingLaws.{product-value, product-slot}
use Rattle.negacyclic.proofs.laws.values_multiply.Goals as goal

pub returns-clause-values : goal.returns-clause-values
returns-clause-values c = product-value

pub returns-clause-slots : goal.returns-clause-slots
returns-clause-slots c = λ a b j first second. product-slot a b j first.size second.size
