use Rattle.psi_frames.proofs.OneFrames as frames
use Rattle.psi_frames.proofs.OneRounds as rounds
use Rattle.psi_frames.proofs.laws.an_input_is_read_in_one_way.Goals as goal

pub returns-clause-frames : goal.returns-clause-frames
returns-clause-frames c = frames.one_list

pub returns-clause-rounds : goal.returns-clause-rounds
returns-clause-rounds c = rounds.one_list
