use Rattle.std.proofs.Common.{◌≡◌, take}
use Rattle.bundle_cache.proofs.rows.widen.Given as goal

abbrev pub invariant-loop-i : goal.invariant-loop-i
invariant-loop-i l = take l.i l.out ≡ take l.i l.plain
