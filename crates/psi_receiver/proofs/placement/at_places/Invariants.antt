use Rattle.std.proofs.Common.{◌≡◌}
use Rattle.psi_receiver.proofs.Steps.{placed_below}
use Rattle.psi_receiver.proofs.placement.at_places.Given as goal

abbrev pub invariant-loop-item : goal.invariant-loop-item
invariant-loop-item l = l.placed.items ≡ placed_below l.tags l.places l.item
