use Rattle.sender_core.proofs.StampHistories.{stamps-tell, rows-stand, equal-stamps}
use Rattle.sender_core.proofs.laws.stamps_tell.Goals as goal

pub returns-clause-told : goal.returns-clause-told
returns-clause-told c = stamps-tell

pub returns-clause-stand : goal.returns-clause-stand
returns-clause-stand c = rows-stand

pub returns-clause-equal : goal.returns-clause-equal
returns-clause-equal c = equal-stamps
