use Rattle.std.proofs.Common.{◌≡◌}
use Rattle.std.specs.List.{All}
use Rattle.noise_ledger.specs.Verdicts.{parameters_of}
use Rattle.bundle_cache.specs.Caches.{IsBundleBlock}
use Rattle.psi_rebuilder.proofs.tests.caches_are_built_where_there_are_none.Given as goal

abbrev pub invariant-loop-budget : goal.invariant-loop-budget
invariant-loop-budget g l = record {
  here : l.seat.turnstile ≡ l.initial.seat.turnstile;
  base : l.seat.knows.base ≡ l.initial.seat.knows.base;
  shelf : All (IsBundleBlock (parameters_of l.params)) l.shelf;
}
