use Rattle.std.proofs.Common.{length, map}
use Rattle.psi_cli.proofs.SoFar.{AreSoFar}
use Rattle.psi_cli.proofs.items.items_of.Given as goal

abbrev pub invariant-loop-rest : goal.invariant-loop-rest
invariant-loop-rest l = AreSoFar l.text l.rest (map (λ item. item.items) l.items.items) l.seen

abbrev pub decreases-loop-rest : goal.decreases-loop-rest
decreases-loop-rest l = length l.rest
