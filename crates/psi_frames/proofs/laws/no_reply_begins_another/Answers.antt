use Rattle.psi_frames.proofs.Apart.{apart}
use Rattle.psi_frames.proofs.laws.no_reply_begins_another.Goals as goal

pub returns : goal.returns
returns c = apart
