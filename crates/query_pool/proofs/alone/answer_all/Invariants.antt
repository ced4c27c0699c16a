use Rattle.std.specs.Vec.Iter.{into_iter_items}
use Rattle.noise_ledger.specs.Verdicts.{parameters_of}
use Rattle.query_pool.specs.Caching.{IsScratch}
use Rattle.query_pool.proofs.Turns.{IsUnderWay}
use Rattle.query_pool.proofs.alone.answer_all.Given as goal

-- what is told so far, and what is left, is the whole round
abbrev pub invariant-loop-request : goal.invariant-loop-request
invariant-loop-request g l = record {
  way : IsUnderWay (parameters_of l.params) l.fn.book (into_iter_items l.initial.request-iterator) (into_iter_items l.request-iterator) l.book l.replies.items;
  scratch : IsScratch (parameters_of l.params) l.scratch;
}
