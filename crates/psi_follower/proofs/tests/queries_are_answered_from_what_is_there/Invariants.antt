use Rattle.std.proofs.Common.{◌≡◌}
use Rattle.query_pool.specs.Tried.{smallest}
use Rattle.psi_follower.proofs.tests.queries_are_answered_from_what_is_there.Given as goal

abbrev pub invariant-loop-place : goal.invariant-loop-place
invariant-loop-place g l = l.follower.parameters ≡ smallest
