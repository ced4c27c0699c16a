use Rattle.std.proofs.Common.{◌≡◌, ◌++◌, ◌%◌}
use Rattle.std.specs.Int.{bytes_high_first}
use Rattle.std.specs.List.{flat_map, range_with_len}
use Rattle.psi_receiver.specs.Openings.{value_in}
use Rattle.psi_receiver.proofs.opening.append_unit.Given as goal

abbrev pub invariant-loop-part : goal.invariant-loop-part
invariant-loop-part l = l.bytes.items ≡ l.initial.bytes.items ++ flat_map (λ part. bytes_high_first 2 (value_in l.plane l.bin part % 65536)) (range_with_len 0 l.part)
