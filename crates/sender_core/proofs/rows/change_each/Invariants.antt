use Rattle.std.proofs.Common.{◌≡◌, drop, length}
use Rattle.std.specs.List.{fold}
use Rattle.psi_bundle.specs.Versions.{changed_at}
use Rattle.sender_core.specs.Kept.{rows_of, KeepCaches}
use Rattle.sender_core.specs.Shown.{kept_of_rows}
use Rattle.sender_core.specs.Changes.{bin_after}
use Rattle.sender_core.specs.UndoLogs.{StillLeadsBack}
use Rattle.sender_core.proofs.rows.change_each.Given as goal

abbrev pub invariant-loop-p : goal.invariant-loop-p
invariant-loop-p g l = record {
  made : fold (changed_at l.edit.stamp (bin_after l.edit.change l.edit.tag) l.edit.tag) (rows_of (kept_of_rows l.rows.items)) (drop l.p-index l.places) ≡ fold (changed_at l.edit.stamp (bin_after l.edit.change l.edit.tag) l.edit.tag) (rows_of (kept_of_rows l.fn.rows.items)) l.places;
  caches : KeepCaches l.edit.stamp (kept_of_rows l.fn.rows.items) (kept_of_rows l.rows.items);
  size : length l.rows.items ≡ length l.fn.rows.items;
  back : StillLeadsBack l.fn.log.items (kept_of_rows l.fn.rows.items) l.log.items (kept_of_rows l.rows.items);
}
