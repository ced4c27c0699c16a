use Rattle.std.proofs.Common.{get_or, arith}
use Rattle.psi_residue.specs.Residues.{composed}
use Rattle.psi_residue.specs.ShortCiphertexts.{shortened, shortened_list}
use Rattle.psi_residue.proofs.Sums.{same_as_table}
use Rattle.reply_switch.proofs.switching.write_short.Goals as goal

pub returns : goal.returns
unfolding shortened_list
returns c =
    same_as_table 4096 (λ k. shortened c.args.drop (composed (get_or c.args.first.now k 0) (get_or c.args.second.now k 0))) c.loop-c.out
    (omega arith) (λ k lt. c.loop-c.invariant k (omega arith))
