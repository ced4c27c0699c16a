use Rattle.std.proofs.Common.{length}
use Rattle.query_pool.specs.Dealing.{listed}
use Rattle.query_pool.proofs.Handing.{IsMerged}
use Rattle.query_pool.proofs.dealing.merge.Given as goal

-- what is merged so far was taken from behind
abbrev pub invariant-loop-lane : goal.invariant-loop-lane
invariant-loop-lane l = IsMerged l.initial.order.items (listed l.initial.replies.items) l.order.items (listed l.replies.items) l.merged.items

abbrev pub decreases-loop-lane : goal.decreases-loop-lane
decreases-loop-lane l = length l.order.items
