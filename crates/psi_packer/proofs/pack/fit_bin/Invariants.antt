use Rattle.std.proofs.Common.{◌≡◌, drop}
use Rattle.std.specs.List.{fold}
use Rattle.psi_packer.specs.Packing.{unstamped_row, fitted, bin_members}
use Rattle.psi_packer.proofs.pack.fit_bin.Given as goal

abbrev pub invariant-loop-member : goal.invariant-loop-member
invariant-loop-member l =
    fold (fitted l.capacity) (unstamped_row l.packed.items) (bin_members l.bin (drop l.member-index l.members)) ≡ fold (fitted l.capacity) (unstamped_row l.initial.packed.items) (bin_members l.bin l.members)
