use Rattle.std.proofs.Common.{◌≡◌, length}
use Rattle.std.specs.Vec.Iter.{into_iter_items}
use Rattle.query_pool.specs.Dealing.{asked_lists}
use Rattle.query_pool.proofs.Handing.{IsDealt}
use Rattle.query_pool.proofs.dealing.deal.Given as goal

-- what is dealt so far, and what is left, is the whole round
abbrev pub invariant-loop-request : goal.invariant-loop-request
invariant-loop-request l = record {
  dealt : IsDealt l.workers (into_iter_items l.initial.request-iterator) (into_iter_items l.request-iterator) (asked_lists l.lanes.items) l.order.items l.index;
  number : length l.lanes.items ≡ l.workers;
}
