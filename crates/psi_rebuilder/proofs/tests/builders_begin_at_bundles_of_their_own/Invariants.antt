use Rattle.std.proofs.Common.{◌≡◌}
use Rattle.std.specs.List.{All}
use Rattle.noise_ledger.specs.Verdicts.{parameters_of}
use Rattle.bundle_cache.specs.Caches.{IsBundleBlock}
use Rattle.psi_rebuilder.proofs.tests.builders_begin_at_bundles_of_their_own.Given as goal

abbrev pub invariant-loop-slot : goal.invariant-loop-slot
invariant-loop-slot g l = record {
  here : l.seat.turnstile ≡ l.initial.seat.turnstile;
  base : l.seat.knows.base ≡ l.initial.seat.knows.base;
}

abbrev pub invariant-loop-skip : goal.invariant-loop-skip
invariant-loop-skip g l = record {
  here : l.seat.turnstile ≡ l.initial.seat.turnstile;
  base : l.seat.knows.base ≡ l.initial.seat.knows.base;
  shelf : All (IsBundleBlock (parameters_of l.params)) l.shelf;
}
