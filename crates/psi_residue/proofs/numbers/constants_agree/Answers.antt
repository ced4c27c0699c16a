use Rattle.std.proofs.Common.{refl}
use Rattle.psi_residue.specs.Numbers.{root, root_inverse, degree_inverse}
use Rattle.psi_residue.proofs.RootFacts.{root_of-minus_one, root_of-inverse, degree_inverse_of-inverse}
use Rattle.psi_residue.proofs.numbers.constants_agree.Goals as goal

pub returns-clause-root_of_minus_one : goal.returns-clause-root_of_minus_one
unfolding root
returns-clause-root_of_minus_one c = refl

pub returns-clause-root_inverse : goal.returns-clause-root_inverse
unfolding root root_inverse
returns-clause-root_inverse c = refl

pub returns-clause-degree_inverse : goal.returns-clause-degree_inverse
unfolding degree_inverse
returns-clause-degree_inverse c = refl

pub returns-clause-roots_of_minus_one : goal.returns-clause-roots_of_minus_one
returns-clause-roots_of_minus_one c = root_of-minus_one

pub returns-clause-root_inverses : goal.returns-clause-root_inverses
returns-clause-root_inverses c = root_of-inverse

pub returns-clause-degree_inverses : goal.returns-clause-degree_inverses
returns-clause-degree_inverses c = degree_inverse_of-inverse
