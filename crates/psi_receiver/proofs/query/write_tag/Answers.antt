use Rattle.std.proofs.Common.{◌≡◌, List, ℕ, ◌+◌, subst, sym, arith}
use Rattle.psi_receiver.proofs.Steps.{slot_value-told}
use Rattle.psi_receiver.proofs.Writes.{IsWriting, writing-none, writing-more, writing-all}
use Rattle.psi_receiver.proofs.query.write_tag.Goals as goal

pub loop-part-init : goal.loop-part-init
loop-part-init c = writing-none c.args.tag.now c.args.values.now c.args.bin

pub loop-part-preserved : goal.loop-part-preserved
loop-part-preserved c =
    let size = c.loop-part.invariant.size in
    subst (λ (xs : List ℕ). IsWriting c.args.tag.now c.args.values.now c.args.bin (c.loop-part.part + 1) xs) (sym c.set.ensures.set)
    (writing-more c.args.tag.now c.args.values.now c.args.bin c.loop-part.part c.loop-part.values c.from.result (omega (arith, size, c.requires.whole))
    (slot_value-told c.args.tag.now c.slots-own.result c.loop-part.part c.from.result c.slots-own.ensures c.loop-part-test.true c.from.ensures) c.loop-part.invariant)

pub returns-clause-size : goal.returns-clause-size
returns-clause-size c = c.loop-part.invariant.size

pub returns-clause-written : goal.returns-clause-written
returns-clause-written c =
    let all : c.loop-part.part ≡ 5 = omega arith in
    writing-all c.args.tag.now c.args.values.now c.args.bin c.loop-part.values (subst (λ (n : ℕ). IsWriting c.args.tag.now c.args.values.now c.args.bin n c.loop-part.values) all c.loop-part.invariant)
