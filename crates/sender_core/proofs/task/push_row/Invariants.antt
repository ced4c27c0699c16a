use Rattle.std.proofs.Common.{◌≡◌, ◌++◌, drop, map}
use Rattle.sender_core.specs.Given.{bare_row}
use Rattle.sender_core.specs.Shown.{kept_of_row}
use Rattle.sender_core.specs.Tries.{job_of}
use Rattle.sender_core.proofs.task.push_row.Given as goal

abbrev pub invariant-loop-index : goal.invariant-loop-index
invariant-loop-index g l =
    map job_of l.tasks.items ++ bare_row l.row l.index (kept_of_row (drop l.index l.shown)) ≡ map job_of l.initial.tasks.items ++ bare_row l.row 0 (kept_of_row l.shown)
