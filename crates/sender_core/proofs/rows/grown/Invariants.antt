use Rattle.std.proofs.Common.{◌≡◌, ◌+◌, ◌≤◌, drop}
use Rattle.sender_core.specs.Kept.{rows_of}
use Rattle.sender_core.specs.Shown.{kept_of_rows}
use Rattle.sender_core.proofs.Growing.{grown_by}
use Rattle.sender_core.proofs.rows.grown.Given as goal

abbrev pub invariant-loop-p : goal.invariant-loop-p
invariant-loop-p g l =
    (l.grown + grown_by l.capacity l.tag (rows_of (kept_of_rows l.rows)) l.opened (drop l.p-index l.places) ≡ grown_by l.capacity l.tag (rows_of (kept_of_rows l.rows)) 0 l.places) × (l.grown ≤ l.p-index)
