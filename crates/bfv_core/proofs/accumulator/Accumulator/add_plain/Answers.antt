use Rattle.std.proofs.Common.{arith}
use Rattle.bfv_core.specs.EncryptedLists.{with_plain}
use Rattle.bfv_core.proofs.FourLists.{four_from}
use Rattle.bfv_core.proofs.accumulator.Accumulator.add_plain.Goals as goal

pub returns : goal.returns
unfolding with_plain
returns c =
    let whole = c.loop-list.invariant.whole in
    let filled = c.loop-list.invariant.filled in
    four_from c.loop-list.self-inside.sum _ _ _ _ whole.four
    (filled.done 0 (omega arith)) (filled.done 1 (omega arith)) (filled.rest 2 (omega arith) (omega (arith, whole.four))) (filled.rest 3 (omega arith) (omega (arith, whole.four)))
