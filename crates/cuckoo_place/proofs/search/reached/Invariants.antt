use Rattle.cuckoo_place.specs.Searches.{reached_at}
use Rattle.cuckoo_place.proofs.Gathered.{IsGathered}
use Rattle.cuckoo_place.proofs.search.reached.Given as goal

abbrev pub invariant-loop-place : goal.invariant-loop-place
invariant-loop-place l = IsGathered (reached_at l.holders l.seen) l.place l.items.items
