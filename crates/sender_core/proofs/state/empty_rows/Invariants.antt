use Rattle.std.proofs.Common.{◌≡◌, replicate, []}
use Rattle.sender_core.specs.Shown.{kept_of_rows}
use Rattle.sender_core.proofs.state.empty_rows.Given as goal

abbrev pub invariant-loop-made : goal.invariant-loop-made
invariant-loop-made g l = kept_of_rows l.empty.items ≡ replicate l._made []
