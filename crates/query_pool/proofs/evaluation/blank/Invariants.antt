use Rattle.std.proofs.Common.{◌≡◌, length}
use Rattle.query_pool.proofs.evaluation.blank.Given as goal

-- so many are there
abbrev pub invariant-loop : goal.invariant-loop
invariant-loop l = length l.cts.items ≡ l.counter
