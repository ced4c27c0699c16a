use Rattle.psi_receiver.proofs.Members.{item-found, unfound-missing}
use Rattle.psi_receiver.proofs.laws.items_are_found.Goals as goal

pub returns-clause-found : goal.returns-clause-found
returns-clause-found c = item-found

pub returns-clause-missing : goal.returns-clause-missing
returns-clause-missing c = unfound-missing
