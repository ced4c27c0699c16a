use Rattle.std.proofs.Common.{◌≡◌}
use Rattle.query_pool.specs.Tried.{smallest}
use Rattle.psi_follower.proofs.tests.entries_are_taken_once_and_in_order.Given as goal

abbrev pub invariant-loop-place : goal.invariant-loop-place
invariant-loop-place g l = l.follower.parameters ≡ smallest
