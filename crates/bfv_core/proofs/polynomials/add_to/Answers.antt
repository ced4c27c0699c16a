use Rattle.std.proofs.Common.{arith, ◌+◌, ◌%◌, get_or}
use Rattle.psi_residue.specs.Numbers.{modulus_of}
use Rattle.psi_residue.proofs.Sums.{same_as_table}
use Rattle.bfv_core.specs.EncryptedLists.{added}
use Rattle.bfv_core.proofs.polynomials.add_to.Goals as goal

pub returns-clause-sum : goal.returns-clause-sum
unfolding added
returns-clause-sum c =
    same_as_table 4096 (λ k. (get_or c.args.a.now k 0 + get_or c.args.out.now k 0) % modulus_of c.args.m) c.loop-i.out
    (omega (arith, c.requires.second.size)) (λ k lt. c.loop-i.invariant.done k (omega (arith, c.requires.first.size)))
