use Rattle.std.proofs.Common.{◌+◌, IfSome, length, subst, sym, refl, arith, ap, ◌∙◌}
use Rattle.std.specs.Fn.{FnReturns}
use Rattle.std.specs.Vec.Iter.{into_iter_items}
use Rattle.psi_receiver.proofs.Worked.{in_order-more, length-more, next-place}
use Rattle.psi_receiver.proofs.turns.in_order.Goals as goal

pub value_at-value-requires-clause-placed : goal.value_at-value-requires-clause-placed
value_at-value-requires-clause-placed g c =
    let number = length c.loop-place.values.items in
    let next =
    next-place g.F.Fn c.args.f.now (into_iter_items c.loop-place.place-iterator) c.in-Some.place (into_iter_items c.next.new.self) number (number + 1)
    c.in-Some.ensures.steps.0 refl c.loop-place.invariant.left in
    subst (λ n. IfSome c.in-Some.place (FnReturns g.F.Fn c.args.f.now (n, tt))) (sym (c.len.ensures ∙ c.loop-place.values.ok.0)) next.0

pub loop-place-preserved : goal.loop-place-preserved
loop-place-preserved g c =
    let number = length c.loop-place.values.items in
    let size = length-more c.loop-place.values.items c.push.new.self.items c.value_at-value.result c.in_ok-push.ensures.items in
    let next =
    next-place g.F.Fn c.args.f.now (into_iter_items c.loop-place.place-iterator) c.in-Some.place (into_iter_items c.next.new.self) number (length c.push.new.self.items)
    c.in-Some.ensures.steps.0 size c.loop-place.invariant.left in
    let made = subst (λ n. FnReturns g.F.Fn c.args.f.now (n, tt) c.value_at-value.result) (c.len.ensures ∙ c.loop-place.values.ok.0) c.value_at-value.ensures in
    record {
      size = omega (arith, size, ap length c.in-Some.ensures.steps.0, c.loop-place.invariant.size);
      left = next.1;
      done = in_order-more g.F.Fn c.args.f.now c.loop-place.values.items c.push.new.self.items c.value_at-value.result c.loop-place.invariant.done made c.in_ok-push.ensures.items;
    }
