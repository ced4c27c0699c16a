use Rattle.std.proofs.Common.{◌≡◌}
use Rattle.std.specs.Vec.Iter.{into_iter_items}
use Rattle.noise_ledger.specs.Verdicts.{parameters_of}
use Rattle.query_pool.specs.Caching.{IsScratch}
use Rattle.query_pool.proofs.LaneRuns.{IsLaneUnderWay}
use Rattle.query_pool.proofs.lane.run_lane.Given as goal

-- what is done so far, and what is left, is the whole lane
abbrev pub invariant-loop-numbered : goal.invariant-loop-numbered
invariant-loop-numbered g l = record {
  way :
      IsLaneUnderWay (parameters_of l.params) l.fn.lane.seat.knows (into_iter_items l.initial.numbered-iterator) (into_iter_items l.numbered-iterator) l.seat.knows l.replies.items;
  here : l.seat.turnstile ≡ l.fn.lane.seat.turnstile;
  scratch : IsScratch (parameters_of l.params) l.scratch;
}
