use Rattle.std.proofs.Common.{◌≡◌, map}
use Rattle.std.specs.List.{range_with_len}
use Rattle.psi_receiver.specs.Openings.{is_zero_in}
use Rattle.psi_receiver.proofs.plane.zero_bins.Given as goal

abbrev pub invariant-loop-bin : goal.invariant-loop-bin
invariant-loop-bin l = l.zeros.items ≡ map (is_zero_in l.slots) (range_with_len 0 l.bin)
