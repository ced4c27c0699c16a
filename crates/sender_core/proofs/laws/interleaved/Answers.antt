use Rattle.sender_core.proofs.Interleaving.{numbers-first, numbers-interleaved}
use Rattle.sender_core.proofs.laws.interleaved.Goals as goal

pub returns-clause-begins : goal.returns-clause-begins
returns-clause-begins c = numbers-first

pub returns-clause-through : goal.returns-clause-through
returns-clause-through c = numbers-interleaved
