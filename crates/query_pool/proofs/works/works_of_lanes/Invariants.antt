use Rattle.std.proofs.Common.{◌≡◌, ◌++◌}
use Rattle.std.specs.List.{All}
use Rattle.std.specs.Vec.Iter.{into_iter_items}
use Rattle.noise_ledger.specs.Verdicts.{parameters_of}
use Rattle.psi_frames.specs.Requests.{IsFit}
use Rattle.query_pool.specs.Dealing.{asked_lists}
use Rattle.query_pool.specs.Jobs.{IsWork, request_lists}
use Rattle.query_pool.proofs.works.works_of_lanes.Given as goal

-- the works so far have the requests of the first lanes
abbrev pub invariant-loop-requests : goal.invariant-loop-requests
invariant-loop-requests l = record {
  lists : asked_lists (into_iter_items l.initial.requests-iterator) ≡ request_lists l.works.items ++ asked_lists (into_iter_items l.requests-iterator);
  ready : All (IsWork (parameters_of l.params)) l.works.items;
  fit : All (All (IsFit (parameters_of l.params))) (asked_lists (into_iter_items l.requests-iterator));
}
