use Rattle.std.proofs.Common.{rules, ◌<◌, length, arith}
use Rattle.std.specs.Vec.Iter.{into_iter_items}
use Rattle.psi_receiver.specs.Works.{IsWork}
use Rattle.psi_receiver.proofs.Worked.{first-and-rest, in_place-set}
use Rattle.psi_receiver.proofs.turns.put_part.Goals as goal

pub offset_bounds-places-number : goal.offset_bounds-places-number
offset_bounds-places-number g c =
    let work = first-and-rest (λ done. IsWork g.F.Fn c.args.f.now (length c.args.places.now) done.number done.value) (into_iter_items c.loop-done.done-iterator) c.in-Some.done
    (into_iter_items c.next.new.self) c.in-Some.ensures.steps.0 c.loop-done.invariant.left in
    let within = work.0.0 in
    let size = c.loop-done.invariant.in_place.size in
    let h : c.in-Some.done.number < length c.loop-done.places = omega arith in
    search rules

pub loop-done-preserved-in-Some : goal.loop-done-preserved-in-Some
loop-done-preserved-in-Some g c =
    let work = first-and-rest (λ done. IsWork g.F.Fn c.args.f.now (length c.args.places.now) done.number done.value) (into_iter_items c.loop-done.done-iterator) c.in-Some.done
    (into_iter_items c.next.new.self) c.in-Some.ensures.steps.0 c.loop-done.invariant.left in
    record { left = work.1; in_place = in_place-set g.F.Fn c.args.f.now (length c.args.places.now) c.loop-done.places c.in-Some.done.number c.in-Some.done.value c.loop-done.invariant.in_place work.0 }

pub loop-done-preserved : goal.loop-done-preserved
loop-done-preserved g c =
    let work = first-and-rest (λ done. IsWork g.F.Fn c.args.f.now (length c.args.places.now) done.number done.value) (into_iter_items c.loop-done.done-iterator) c.in-Some.done
    (into_iter_items c.next.new.self) c.in-Some.ensures.steps.0 c.loop-done.invariant.left in
    record { left = work.1; in_place = in_place-set g.F.Fn c.args.f.now (length c.args.places.now) c.loop-done.places c.in-Some.done.number c.in-Some.done.value c.loop-done.invariant.in_place work.0 }
