use Rattle.std.proofs.Common.{◌≡◌}
use Rattle.std.specs.List.{All}
use Rattle.std.specs.Vec.Iter.{into_iter_items}
use Rattle.query_pool.proofs.Seatings.{MeetsSoFar}
use Rattle.query_pool.proofs.seating.meet.Given as goal

-- the first seats are taken in, and their replies are there
abbrev pub invariant-loop-done : goal.invariant-loop-done
invariant-loop-done l = record {
  here : l.seat.turnstile ≡ l.sender;
  each_here : All (λ d. d.seat.turnstile ≡ l.sender) (into_iter_items l.done-iterator);
  so_far : MeetsSoFar l.fn.seat.knows l.seat.knows (into_iter_items l.initial.done-iterator) (into_iter_items l.done-iterator) l.replies.items;
}
