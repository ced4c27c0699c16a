use Rattle.std.proofs.Common.{◌≡◌, ◌∙◌, ap, sym}
use Rattle.std.proofs.lemmas.Result.{IfOk-weaker}
use Rattle.psi_residue.specs.Parameters.{Parameters}
use Rattle.psi_follower.proofs.Telling.{packing-is}
use Rattle.psi_follower.proofs.taking.packing.Goals as goal

pub returns-in-Repack : goal.returns-in-Repack
returns-in-Repack c =
    IfOk-weaker c.pack_row.result _ _
    (λ packed made. packing-is c.args.book.now c.args.call.now c.in-Repack.row c.in-Repack.from c.args.params.now.capacity c.bundles.result.now packed.items c.in-Repack.is c.bundles.ensures
    (ap (λ (p : Parameters). p.capacity) (sym c.requires.same)) made)
    c.pack_row.ensures
