use Rattle.psi_demo.proofs.ServedTexts.{counted, served-bodies, short-fit}
use Rattle.psi_demo.proofs.laws.served_replies_are_counted.Goals as goal

pub returns-clause-fit : goal.returns-clause-fit
returns-clause-fit c = short-fit

pub returns-clause-bodies : goal.returns-clause-bodies
returns-clause-bodies c = served-bodies

pub returns-clause-counted : goal.returns-clause-counted
returns-clause-counted c = counted
