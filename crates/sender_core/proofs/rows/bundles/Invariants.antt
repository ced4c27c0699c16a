use Rattle.std.proofs.Common.{◌≡◌, ◌+◌, drop}
use Rattle.sender_core.specs.Kept.{bundles_of}
use Rattle.sender_core.specs.Shown.{kept_of_rows}
use Rattle.sender_core.proofs.rows.bundles.Given as goal

abbrev pub invariant-loop-row : goal.invariant-loop-row
invariant-loop-row g l = l.bundles + bundles_of (kept_of_rows (drop l.row-index l.rows)) ≡ bundles_of (kept_of_rows l.rows)
