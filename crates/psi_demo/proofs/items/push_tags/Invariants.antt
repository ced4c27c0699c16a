use Rattle.std.proofs.Common.{◌≡◌, ◌++◌}
use Rattle.psi_demo.specs.Items.{item_tag, run}
use Rattle.psi_demo.proofs.items.push_tags.Given as goal

abbrev pub invariant-loop-k : goal.invariant-loop-k
invariant-loop-k l = l.tags.items ≡ l.fn.tags.items ++ run (item_tag l.number) l.first l.step l.k
