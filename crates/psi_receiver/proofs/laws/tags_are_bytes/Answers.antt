use Rattle.psi_receiver.proofs.TagBytes.{tag_of-bytes}
use Rattle.psi_receiver.proofs.laws.tags_are_bytes.Goals as goal

pub returns : goal.returns
returns c = tag_of-bytes
