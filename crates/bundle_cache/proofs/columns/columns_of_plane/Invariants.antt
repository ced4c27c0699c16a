use Rattle.noise_ledger.specs.Verdicts.{parameters_of}
use Rattle.bundle_cache.specs.Columns.{AreFilled}
use Rattle.bundle_cache.proofs.columns.columns_of_plane.Given as goal

abbrev pub invariant-loop-slot : goal.invariant-loop-slot
invariant-loop-slot l = AreFilled (parameters_of l.params) l.bundle l.plane l.slot l.columns.items
