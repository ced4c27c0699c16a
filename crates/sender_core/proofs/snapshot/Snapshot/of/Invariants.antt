use Rattle.std.proofs.Common.{◌≡◌, take, map}
use Rattle.sender_core.specs.Shown.{kept_of_rows}
use Rattle.sender_core.specs.Sights.{seen_row, with_cached_bins}
use Rattle.sender_core.proofs.snapshot.Snapshot.of.Given as goal

abbrev pub invariant-loop-row : goal.invariant-loop-row
invariant-loop-row g l = map (λ row. seen_row g.C.Cached.contents row.items) l.shown.items ≡ map (map (with_cached_bins g.C.Cached.contents)) (kept_of_rows (take l.row-index l.rows))
