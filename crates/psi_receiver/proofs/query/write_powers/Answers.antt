use Rattle.std.proofs.Common.{arith}
use Rattle.psi_receiver.proofs.Writes.{powers-from}
use Rattle.psi_receiver.proofs.query.write_powers.Goals as goal

pub returns-clause-powers : goal.returns-clause-powers
returns-clause-powers c = powers-from c.args.values.now c.args.exponent c.loop-slot.out (omega arith) (λ i lt. c.loop-slot.invariant i (omega arith))
