use Rattle.std.proofs.Common.{◌≡◌, ◌++◌, drop, map}
use Rattle.sender_core.specs.Given.{bare_rows}
use Rattle.sender_core.specs.Shown.{kept_of_rows}
use Rattle.sender_core.specs.Tries.{job_of}
use Rattle.sender_core.proofs.task.bare_tasks.Given as goal

abbrev pub invariant-loop-row : goal.invariant-loop-row
invariant-loop-row g l = map job_of l.tasks.items ++ bare_rows l.row (kept_of_rows (drop l.row l.rows)) ≡ bare_rows 0 (kept_of_rows l.rows)
