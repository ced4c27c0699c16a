use Rattle.std.proofs.Common.{arith, ◌≡◌, ◌∙◌, ap, sym, length}
use Rattle.psi_residue.specs.Ciphertexts.{IsCiphertext}
use Rattle.bfv_core.proofs.FourLists.{four, four_from}
use Rattle.bfv_core.proofs.accumulator.Accumulator.read.Goals as goal

pub returns-clause-sum : goal.returns-clause-sum
returns-clause-sum c =
    let whole : IsCiphertext c.loop-list.out = c.loop-list.invariant.whole (omega arith) in
    let len : length c.args.self.now ≡ 4 = ap length (sym c.self.view_is) ∙ c.self.invariant.four in
    four_from c.loop-list.out _ _ _ _ whole.four
    (c.loop-list.invariant.done 0 (omega arith)) (c.loop-list.invariant.done 1 (omega arith)) (c.loop-list.invariant.done 2 (omega arith)) (c.loop-list.invariant.done 3 (omega arith))
    ∙ sym (four c.args.self.now len)
