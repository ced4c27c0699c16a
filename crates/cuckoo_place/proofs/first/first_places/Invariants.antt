use Rattle.std.proofs.Common.{◌≡◌, length}
use Rattle.cuckoo_place.specs.Searches.{IsFull}
use Rattle.cuckoo_place.proofs.Lowered.{NoneBelow}
use Rattle.cuckoo_place.proofs.first.first_places.Given as goal

-- the items so far are at the least places
abbrev pub invariant-loop-item : goal.invariant-loop-item
invariant-loop-item l = record {
  each : length l.places.items ≡ l.item;
  full : IsFull l.sets l.places.items l.holders;
  least : NoneBelow l.sets l.places.items;
}
