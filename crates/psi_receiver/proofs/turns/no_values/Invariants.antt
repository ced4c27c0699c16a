use Rattle.std.proofs.Common.{◌≡◌, None, length}
use Rattle.std.specs.List.{All}
use Rattle.psi_receiver.proofs.turns.no_values.Given as goal

abbrev pub invariant-loop : goal.invariant-loop
invariant-loop g l = record {
  size : length l.places.items ≡ l.counter;
  none : All (λ place. place ≡ None) l.places.items;
}
