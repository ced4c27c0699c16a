use Rattle.std.proofs.Common.{◌∷◌, length, ap, arith, length-append}
use Rattle.psi_demo.specs.Items.{demo_item, demo_label}
use Rattle.psi_demo.proofs.Made.{length-item, length-label}
use Rattle.psi_demo.proofs.written.Written.put.Goals as goal

pub add-requires-clause-small : goal.add-requires-clause-small
add-requires-clause-small c =
    let label = length-label c.args.number c.args.i in
    omega (arith, ap length c.in_ok-body.ensures, length-append (12 ∷ demo_item c.args.number c.args.i) (demo_label c.args.number c.args.i), length-item c.args.number c.args.i, label)
