use Rattle.std.proofs.Common.{sym, arith}
use Rattle.psi_receiver.specs.Openings.{value_in}
use Rattle.psi_receiver.proofs.Steps.{all_zero}
use Rattle.psi_receiver.proofs.plane.is_zero.Goals as goal

pub returns : goal.returns
returns c = sym (all_zero (λ part. value_in c.args.slots.now c.args.bin part) (λ k lt. c.loop-part.invariant k (omega arith)))
