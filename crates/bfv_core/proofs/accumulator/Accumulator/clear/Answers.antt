use Rattle.std.proofs.Common.{arith, ◌∙◌, replicate, []}
use Rattle.psi_residue.proofs.Polynomials.{IsPolynomial-constant}
use Rattle.psi_residue.specs.Ciphertexts.{list_at, list_modulus}
use Rattle.bfv_core.specs.EncryptedLists.{zero_lists}
use Rattle.psi_residue.proofs.Filling.{IsFilled-all}
use Rattle.bfv_core.proofs.FourLists.{four_same, list_modulus-positive}
use Rattle.bfv_core.proofs.accumulator.Accumulator.clear.Goals as goal

pub set-requires-clause-below : goal.set-requires-clause-below
set-requires-clause-below c = IsPolynomial-constant (list_modulus c.loop-list.list) 0 (list_modulus-positive c.loop-list.list)

pub returns : goal.returns
unfolding zero_lists
returns c =
    IsFilled-all [] (λ k. replicate 4096 0) (list_at c.args.self.now) c.loop-list.self-inside.sum 4 c.loop-list.list c.loop-list.invariant.whole.four (omega arith) c.loop-list.invariant.filled
    ∙ four_same (replicate 4096 0) (replicate 4096 0) (replicate 4096 0) (replicate 4096 0) (replicate 4096 0) (λ i. replicate 4096 0) (λ i. replicate 4096 0) (λ i. replicate 4096 0) (λ i. replicate 4096 0)
