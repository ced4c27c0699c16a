use Rattle.psi_receiver.proofs.Members.{member-found}
use Rattle.psi_receiver.proofs.laws.members_are_found.Goals as goal

pub returns : goal.returns
returns c = member-found
