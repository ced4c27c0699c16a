use Rattle.negacyclic.proofs.RingLaws.{product-comm, product-assoc, product-distribute}
use Rattle.negacyclic.proofs.laws.products_form_a_ring.Goals as goal

pub returns-clause-commute : goal.returns-clause-commute
returns-clause-commute c = product-comm

pub returns-clause-associate : goal.returns-clause-associate
returns-clause-associate c = product-assoc

pub returns-clause-distribute : goal.returns-clause-distribute
returns-clause-distribute c = product-distribute
