use Rattle.std.proofs.Common.{List, ℕ, length, take, refl, ap, ◌∙◌, arith, length-take}
use Rattle.psi_receiver.proofs.Opened.{length-units}
use Rattle.psi_receiver.proofs.opening.label.Goals as goal

pub unreachable-requires : goal.unreachable-requires
unreachable-requires c =
    let long = c.in-None.ensures.long.0 refl in
    let size = ap length (c.deref.ensures.value ∙ c.loop-unit.invariant) in
    let few = c.requires.few in
    let done = take c.loop-unit.unit-index c.args.units.now in
    omega (arith, long, size, few, length-units c.args.bin (take c.loop-unit.unit-index c.args.units.now), length-take {A = List ℕ} c.loop-unit.unit-index c.args.units.now)
