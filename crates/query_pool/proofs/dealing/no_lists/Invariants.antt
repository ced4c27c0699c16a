use Rattle.std.proofs.Common.{◌≡◌, []}
use Rattle.std.specs.Prelude.{replicate}
use Rattle.query_pool.specs.Dealing.{asked_lists}
use Rattle.query_pool.proofs.dealing.no_lists.Given as goal

abbrev pub invariant-loop : goal.invariant-loop
invariant-loop l = asked_lists l.lists.items ≡ replicate l.counter []
