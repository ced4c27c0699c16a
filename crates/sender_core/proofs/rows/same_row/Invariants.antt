use Rattle.std.proofs.Common.{◌≡◌, take}
use Rattle.sender_core.specs.Shown.{kept_of_row}
use Rattle.sender_core.proofs.rows.same_row.Given as goal

abbrev pub invariant-loop-shown : goal.invariant-loop-shown
invariant-loop-shown g l = kept_of_row l.copy.items ≡ kept_of_row (take l.shown-index l.row)
