use Rattle.psi_receiver.proofs.Strangers.{found_take}
use Rattle.psi_receiver.proofs.laws.found_take_slots.Goals as goal

pub returns : goal.returns
returns c = found_take
