use Rattle.std.proofs.Common.{◌≡◌, length}
use Rattle.sender_core.specs.Shown.{kept_of_rows}
use Rattle.sender_core.specs.UndoLogs.{StillLeadsBack}
use Rattle.sender_core.proofs.RowChanges.{changed_to}
use Rattle.sender_core.proofs.rows.change_at.Given as goal

abbrev pub invariant-loop-index : goal.invariant-loop-index
invariant-loop-index g l = record {
  made : kept_of_rows l.rows.items ≡ changed_to l.edit.stamp l.bin l.edit.change l.edit.tag (kept_of_rows l.fn.rows.items) l.row l.index;
  size : length l.rows.items ≡ length l.fn.rows.items;
  back : StillLeadsBack l.fn.log.items (kept_of_rows l.fn.rows.items) l.log.items (kept_of_rows l.rows.items);
}
