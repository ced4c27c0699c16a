use Rattle.std.proofs.Common.{◌≡◌}
use Rattle.sender_core.specs.Shown.{kept_of_rows}
use Rattle.sender_core.specs.UndoLogs.{rolled_back, CanRollBack}
use Rattle.sender_core.proofs.undo.roll_back.Given as goal

abbrev pub decreases-loop-change : goal.decreases-loop-change
decreases-loop-change g l = goal.left-loop-change g l

abbrev pub invariant-loop-change : goal.invariant-loop-change
invariant-loop-change g l = record {
  can : CanRollBack l.left.items (kept_of_rows l.rows.items);
  to : rolled_back l.left.items (kept_of_rows l.rows.items) ≡ rolled_back l.fn.log.items (kept_of_rows l.fn.rows.items);
}
