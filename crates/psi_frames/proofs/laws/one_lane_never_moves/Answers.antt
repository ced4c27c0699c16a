use Rattle.psi_frames.proofs.NeverMoved.{never_moved}
use Rattle.psi_frames.proofs.laws.one_lane_never_moves.Goals as goal

pub returns : goal.returns
returns c = never_moved
