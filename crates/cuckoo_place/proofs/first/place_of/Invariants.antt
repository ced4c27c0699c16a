use Rattle.std.proofs.Common.{ℕ, ◌<◌, get_or}
use Rattle.cuckoo_place.specs.Searches.{Holds}
use Rattle.cuckoo_place.proofs.first.place_of.Given as goal

-- none so far is the item's
abbrev pub invariant-loop-place : goal.invariant-loop-place
invariant-loop-place l = (k : ℕ) → k < l.place-index → ¬ Holds l.holders l.item (get_or l.list k 0)
