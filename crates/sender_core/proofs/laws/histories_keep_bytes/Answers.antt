use Rattle.sender_core.proofs.HistoryBytes.{empty-bytes, versions-bytes}
use Rattle.sender_core.proofs.laws.histories_keep_bytes.Goals as goal

pub returns-clause-begins : goal.returns-clause-begins
returns-clause-begins c = empty-bytes

pub returns-clause-through : goal.returns-clause-through
returns-clause-through c = versions-bytes
