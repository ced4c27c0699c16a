use Rattle.std.proofs.Common.{}
use Rattle.psi_bundle.specs.Bins.{bin_at}
use Rattle.psi_bundle.proofs.BinChanges.{accepted-apart}
use Rattle.psi_bundle.proofs.bundle.Bundle.add.Goals as goal

pub add-requires : goal.add-requires
add-requires c = rw c.bin.ensures (accepted-apart c.args.capacity (bin_at c.args.self.now c.args.bin) c.args.member.tag c.requires.accepted)
