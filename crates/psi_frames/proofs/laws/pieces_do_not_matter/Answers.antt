use Rattle.psi_frames.proofs.Readings.{one_reading}
use Rattle.psi_frames.proofs.laws.pieces_do_not_matter.Goals as goal

pub returns : goal.returns
returns c = one_reading
