use Rattle.std.proofs.Common.{◌≡◌, take}
use Rattle.batching.proofs.slots.narrow.Given as goal

abbrev pub invariant-loop-i : goal.invariant-loop-i
invariant-loop-i l = take l.i l.out ≡ take l.i l.values
