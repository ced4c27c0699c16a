use Rattle.std.proofs.Common.{◌≡◌, drop}
use Rattle.std.specs.List.{fold}
use Rattle.psi_packer.specs.Packing.{unstamped_row, fitted, bundle_members}
use Rattle.psi_packer.proofs.pack.fit_bundle.Given as goal

abbrev pub invariant-loop-bin : goal.invariant-loop-bin
invariant-loop-bin l =
    fold (fitted l.capacity) (unstamped_row l.packed.items) (bundle_members l.bin (drop l.bin l.bundle)) ≡ fold (fitted l.capacity) (unstamped_row l.initial.packed.items) (bundle_members 0 l.bundle)
