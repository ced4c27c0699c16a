use Rattle.std.proofs.Common.{◌≡◌}
use Rattle.sender_core.proofs.tests.a_set_is_full_at_its_planes.Given as goal

abbrev pub invariant-loop-i : goal.invariant-loop-i
invariant-loop-i g l = (l.book.parameters.units ≡ 0) × (l.book.parameters.rows ≡ 1)
