use Rattle.psi_frames.proofs.OneHistory.{one_history}
use Rattle.psi_frames.proofs.laws.served_rounds_have_one_history.Goals as goal

pub returns : goal.returns
returns c = one_history
