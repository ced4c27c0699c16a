use Rattle.psi_frames.proofs.OnlyText.{lane-of_one, one-text}
use Rattle.psi_frames.proofs.laws.one_text_is_of_one_lane.Goals as goal

pub returns-clause-one : goal.returns-clause-one
returns-clause-one c = one-text

pub returns-clause-lane : goal.returns-clause-lane
returns-clause-lane c = lane-of_one
