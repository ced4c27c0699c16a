use Rattle.std.proofs.Common.{◌≡◌, take}
use Rattle.psi_bundle.specs.Bodies.{bundle_counts}
use Rattle.sender_core.specs.Kept.{rows_of}
use Rattle.query_pool.proofs.evaluation.counts.Given as goal

-- the numbers of the rows so far
abbrev pub invariant-loop-row : goal.invariant-loop-row
invariant-loop-row l = l.counts.items ≡ bundle_counts (take l.row (rows_of l.snapshot.rows))
