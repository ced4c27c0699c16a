use Rattle.std.proofs.Common.{length, ap, arith}
use Rattle.psi_demo.proofs.Made.{length-item}
use Rattle.psi_demo.proofs.written.Written.drop.Goals as goal

pub add-requires-clause-small : goal.add-requires-clause-small
add-requires-clause-small c = omega (arith, ap length c.in_ok-body.ensures, length-item c.args.number c.args.i)
