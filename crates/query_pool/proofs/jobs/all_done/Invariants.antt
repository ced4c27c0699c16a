use Rattle.std.proofs.Common.{◌≡◌, ◌++◌, Ok, map}
use Rattle.std.specs.Vec.Iter.{into_iter_items}
use Rattle.query_pool.proofs.jobs.all_done.Given as goal

-- those that are done, and what is left, are all results
abbrev pub invariant-loop-result : goal.invariant-loop-result
invariant-loop-result l = into_iter_items l.initial.result-iterator ≡ map Ok l.dones.items ++ into_iter_items l.result-iterator
