use Rattle.std.proofs.Common.{◌≡◌, length, ap, subst, sym, ◌∙◌}
use Rattle.std.specs.List.{All}
use Rattle.std.specs.Vec.Iter.{into_iter_items}
use Rattle.bfv_core.proofs.Encrypted.{whole-written}
use Rattle.psi_receiver.specs.Works.{AreInPlace, IsWork}
use Rattle.psi_receiver.proofs.Worked.{first-and-rest, in_place-none}
use Rattle.psi_receiver.proofs.turns.in_places.Goals as goal

pub loop-part-init : goal.loop-part-init
loop-part-init g c = record {
  left = subst (All (λ part. All (λ done. IsWork g.F.Fn c.args.f.now c.args.count done.number done.value) part.items)) (sym c.into_iter-part-iterator.ensures.into_iter_gives.0) c.requires.done;
  in_place = in_place-none g.F.Fn c.args.f.now c.args.count c.in_ok-places.places.items c.in_ok-places.ensures.size c.in_ok-places.ensures.none;
}

pub loop-part-preserved : goal.loop-part-preserved
loop-part-preserved g c =
    let work =
    first-and-rest (λ part. All (λ done. IsWork g.F.Fn c.args.f.now c.args.count done.number done.value) part.items) (into_iter_items c.loop-part.part-iterator) c.in-Some.part
    (into_iter_items c.next.new.self) c.in-Some.ensures.steps.0 c.loop-part.invariant.left in
    let count : length c.deref_mut.result.now ≡ c.args.count = ap length c.deref_mut.ensures.value ∙ c.loop-part.invariant.in_place.size in
    let placed = subst (λ n. AreInPlace g.F.Fn c.args.f.now n c.put_part.new.places) count c.put_part.ensures.in_place in
    record {
      left = work.1;
      in_place =
          subst (AreInPlace g.F.Fn c.args.f.now c.args.count)
          (sym (whole-written c.put_part.new.places c.loop-part.places.items c.loop-part.places.len (c.put_part.ensures.size ∙ c.deref_mut.ensures.len))) placed;
    }
