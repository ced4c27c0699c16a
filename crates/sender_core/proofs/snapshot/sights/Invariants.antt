use Rattle.std.proofs.Common.{◌≡◌, take, map}
use Rattle.sender_core.specs.Shown.{kept_of_row}
use Rattle.sender_core.specs.Sights.{seen_row, with_cached_bins}
use Rattle.sender_core.proofs.snapshot.sights.Given as goal

abbrev pub invariant-loop-shown : goal.invariant-loop-shown
invariant-loop-shown g l = seen_row g.C.Cached.contents l.sights.items ≡ map (with_cached_bins g.C.Cached.contents) (kept_of_row (take l.shown-index l.row))
