use Rattle.psi_receiver.proofs.Encryptions.{query-read}
use Rattle.psi_receiver.proofs.Joined.{opened-found}
use Rattle.psi_receiver.proofs.laws.opened_is_found.Goals as goal

pub returns-clause-opened : goal.returns-clause-opened
returns-clause-opened c = opened-found

pub returns-clause-read : goal.returns-clause-read
returns-clause-read c = query-read
