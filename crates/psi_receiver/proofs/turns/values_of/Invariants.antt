use Rattle.std.proofs.Common.{◌≡◌, ◌++◌, Ok, map}
use Rattle.std.specs.Vec.Iter.{into_iter_items}
use Rattle.psi_receiver.proofs.turns.values_of.Given as goal

-- the values so far, and the results that are left, are all
abbrev pub invariant-loop-result : goal.invariant-loop-result
invariant-loop-result g l = map Ok l.values.items ++ into_iter_items l.result-iterator ≡ l.fn.results.items
