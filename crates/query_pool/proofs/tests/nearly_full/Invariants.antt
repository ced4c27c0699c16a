use Rattle.std.proofs.Common.{◌≡◌}
use Rattle.query_pool.proofs.tests.nearly_full.Given as goal

abbrev pub invariant-loop-made : goal.invariant-loop-made
invariant-loop-made l = l.book.parameters ≡ l.initial.book.parameters
