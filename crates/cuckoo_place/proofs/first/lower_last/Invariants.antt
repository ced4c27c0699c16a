use Rattle.std.proofs.Common.{◌≡◌, ℕ, ◌<◌, get_or, set}
use Rattle.cuckoo_place.specs.Searches.{IsFull, NoneBegins}
use Rattle.cuckoo_place.proofs.first.lower_last.Given as goal

-- only the last place changes, and none of the positions so far that is lower is possible
abbrev pub invariant-loop-to : goal.invariant-loop-to
invariant-loop-to l = record {
  full : IsFull l.sets l.places l.holders;
  kept : (q : ℕ) → set l.places l.item q ≡ set l.initial.places l.item q;
  least : (k : ℕ) → k < l.to-index → get_or l.to-items k 0 < get_or l.places l.item 0 → NoneBegins l.sets (set l.places l.item (get_or l.to-items k 0));
}
