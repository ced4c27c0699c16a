use Rattle.std.proofs.Common.{◌≡◌, map, replicate}
use Rattle.std.specs.Arc.{arc_value}
use Rattle.page_list.proofs.shared.repeated.Given as goal

abbrev pub invariant-loop-made : goal.invariant-loop-made
invariant-loop-made g l = map arc_value l.made.items ≡ replicate l._made (arc_value l.value)
