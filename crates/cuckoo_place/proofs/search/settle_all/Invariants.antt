use Rattle.std.proofs.Common.{ℕ, ◌<◌, [], length}
use Rattle.cuckoo_place.specs.Searches.{choices_of, IsPlaced, IsAssignment}
use Rattle.cuckoo_place.proofs.search.settle_all.Given as goal

-- the items so far are placed, and no others
abbrev pub invariant-loop-item : goal.invariant-loop-item
invariant-loop-item l = record {
  assigned : IsAssignment (length l.sets) (choices_of l.sets []) l.holders;
  placed : (i : ℕ) → i < l.item → IsPlaced l.holders i;
  only : (i : ℕ) → IsPlaced l.holders i → i < l.item;
}
