use Rattle.std.proofs.Common.{◌<◌, ◌≤◌, length}
use Rattle.std.specs.List.{All}
use Rattle.cuckoo_place.proofs.tests.sets_of.Given as goal

abbrev pub invariant-loop-row : goal.invariant-loop-row
invariant-loop-row l = record {
  within : All (All (λ p. p < l.table)) l.sets.items;
  few : length l.sets.items ≤ l.row-index;
}
