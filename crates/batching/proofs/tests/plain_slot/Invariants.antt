use Rattle.std.proofs.Common.{◌<◌}
use Rattle.batching.proofs.tests.plain_slot.Given as goal

abbrev pub invariant-loop-i : goal.invariant-loop-i
invariant-loop-i l = l.slot < 65537
