use Rattle.std.proofs.Common.{◌≡◌}
use Rattle.sender_core.proofs.tests.assert_run.Given as goal

abbrev pub invariant-loop-made : goal.invariant-loop-made
invariant-loop-made g l = (l.book.parameters.units ≡ 0) × (l.book.parameters.rows ≡ 1)
