use Rattle.std.proofs.Common.{◌≡◌, ◌++◌, []}
use Rattle.std.specs.Prelude.{replicate}
use Rattle.std.specs.List.{All}
use Rattle.noise_ledger.specs.Verdicts.{parameters_of}
use Rattle.query_pool.specs.Dealing.{asked_lists}
use Rattle.query_pool.specs.Jobs.{IsWork, request_lists}
use Rattle.query_pool.proofs.works.works_of.Given as goal

-- behind the lanes stand so many builders, which have no requests
abbrev pub invariant-loop-number : goal.invariant-loop-number
invariant-loop-number l = record {
  lists : request_lists l.works.items ≡ asked_lists l.fn.lanes.items ++ replicate l.number [];
  ready : All (IsWork (parameters_of l.params)) l.works.items;
}
