use Rattle.std.proofs.Common.{◌≡◌, ◌%◌, take}
use Rattle.std.specs.Int.{bytes_high_first}
use Rattle.std.specs.List.{flat_map}
use Rattle.item_slots.specs.Tags.{parts}
use Rattle.psi_receiver.specs.Openings.{value_in}
use Rattle.psi_receiver.proofs.opening.label.Given as goal

abbrev pub invariant-loop-unit : goal.invariant-loop-unit
invariant-loop-unit l = l.bytes.items ≡ flat_map (λ unit. flat_map (λ part. bytes_high_first 2 (value_in unit l.bin part % 65536)) parts) (take l.unit-index l.units)
