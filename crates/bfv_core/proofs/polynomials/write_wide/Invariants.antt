use Rattle.std.proofs.Common.{◌≡◌, take}
use Rattle.bfv_core.proofs.polynomials.write_wide.Given as goal

abbrev pub invariant-loop-i : goal.invariant-loop-i
invariant-loop-i l = take l.i l.out ≡ take l.i l.plain
