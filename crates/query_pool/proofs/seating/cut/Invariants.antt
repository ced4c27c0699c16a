use Rattle.std.proofs.Common.{◌≡◌}
use Rattle.std.specs.List.{All}
use Rattle.std.specs.Vec.Iter.{into_iter_items}
use Rattle.query_pool.proofs.Seatings.{CutsSoFar}
use Rattle.query_pool.proofs.seating.cut.Given as goal

-- the jobs so far have the first works, and fresh seats of the sender
abbrev pub invariant-loop-work : goal.invariant-loop-work
invariant-loop-work l = record {
  here : l.seat.turnstile ≡ l.sender;
  each_here : All (λ job. job.seat.turnstile ≡ l.sender) l.jobs.items;
  so_far : CutsSoFar l.fn.seat.knows l.seat.knows (into_iter_items l.initial.work-iterator) (into_iter_items l.work-iterator) l.jobs.items;
}
