use Rattle.std.proofs.Common.{◌≡◌, drop}
use Rattle.std.specs.List.{fold}
use Rattle.psi_bundle.specs.Versions.{members_of_row, packed_row}
use Rattle.psi_bundle.specs.Shows.{shown_row}
use Rattle.psi_packer.specs.Packing.{unstamped_row, fitted}
use Rattle.psi_packer.proofs.pack.pack_row.Given as goal

abbrev pub invariant-loop-shown : goal.invariant-loop-shown
invariant-loop-shown g l =
    fold (fitted l.capacity) (unstamped_row l.packed.items) (members_of_row (shown_row (drop l.shown-index l.bundles))) ≡ packed_row l.capacity 0 (members_of_row (shown_row l.bundles))
