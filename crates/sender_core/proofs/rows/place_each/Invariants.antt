use Rattle.std.proofs.Common.{◌≡◌, drop, length}
use Rattle.std.specs.List.{fold}
use Rattle.psi_bundle.specs.Versions.{placed_at}
use Rattle.sender_core.specs.Kept.{rows_of, KeepCaches}
use Rattle.sender_core.specs.Shown.{kept_of_rows}
use Rattle.sender_core.specs.UndoLogs.{StillLeadsBack}
use Rattle.sender_core.proofs.rows.place_each.Given as goal

abbrev pub invariant-loop-p : goal.invariant-loop-p
invariant-loop-p g l = record {
  fitted : fold (placed_at l.capacity l.stamp l.member) (rows_of (kept_of_rows l.rows.items)) (drop l.p-index l.places) ≡ fold (placed_at l.capacity l.stamp l.member) (rows_of (kept_of_rows l.fn.rows.items)) l.places;
  caches : KeepCaches l.stamp (kept_of_rows l.fn.rows.items) (kept_of_rows l.rows.items);
  size : length l.rows.items ≡ length l.fn.rows.items;
  back : StillLeadsBack l.fn.log.items (kept_of_rows l.fn.rows.items) l.log.items (kept_of_rows l.rows.items);
}
