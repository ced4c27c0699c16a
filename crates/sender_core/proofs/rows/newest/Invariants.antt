use Rattle.std.proofs.Common.{◌≡◌, drop, map, max}
use Rattle.std.specs.List.{fold}
use Rattle.psi_bundle.specs.Versions.{Stamped, greatest_stamp}
use Rattle.sender_core.specs.Kept.{row_of}
use Rattle.sender_core.specs.Shown.{kept_of_row}
use Rattle.sender_core.proofs.rows.newest.Given as goal

abbrev pub invariant-loop-shown : goal.invariant-loop-shown
invariant-loop-shown g l = fold max l.newest (map (λ (u : Stamped). u.stamp) (row_of (kept_of_row (drop l.shown-index l.row)))) ≡ greatest_stamp (row_of (kept_of_row l.row))
