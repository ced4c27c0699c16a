use Rattle.std.proofs.Common.{◌≡◌, length}
use Rattle.bundle_cache.proofs.tests.query.Given as goal

abbrev pub invariant-loop-c : goal.invariant-loop-c
invariant-loop-c l = length l.query.items ≡ l.c
