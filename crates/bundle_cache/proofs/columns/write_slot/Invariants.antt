use Rattle.bundle_cache.specs.Columns.{IsWritten}
use Rattle.bundle_cache.proofs.columns.write_slot.Given as goal

abbrev pub invariant-loop-k : goal.invariant-loop-k
invariant-loop-k l = IsWritten l.slot l.coefficients l.k l.fn.columns l.columns
