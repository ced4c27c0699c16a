use Rattle.std.proofs.Common.{◌≡◌, ℕ, ◌+◌, ◌*◌, ◌<◌, get_or}
use Rattle.cuckoo_place.specs.Searches.{choices_of, IsSeen, IsSeenStill, AreStuck, unseen}
use Rattle.cuckoo_place.proofs.search.+search.Given as goal

abbrev pub decreases-settle : goal.decreases-settle
decreases-settle l = 2 * unseen l.seen.now

abbrev pub decreases-vacate : goal.decreases-vacate
decreases-vacate l = 2 * unseen l.seen.now + 1

-- no choice so far could be vacated: nothing moved, and what was visited since is stuck
abbrev pub invariant-settle-loop-choice : goal.invariant-settle-loop-choice
invariant-settle-loop-choice l = record {
  same : l.holders ≡ l.initial.holders;
  still : IsSeenStill l.initial.seen l.seen;
  passed : (k : ℕ) → k < l.choice-index → IsSeen l.seen (get_or l.choice-items k 0);
  stuck : AreStuck (choices_of l.sets l.fixed) l.initial.holders l.initial.seen l.seen;
}
