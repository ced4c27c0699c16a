use Rattle.std.specs.List.{All}
use Rattle.std.specs.Vec.Iter.{into_iter_items}
use Rattle.psi_receiver.specs.Works.{AreInPlace, IsWork}
use Rattle.psi_receiver.proofs.turns.in_places.Given as goal

abbrev pub invariant-loop-part : goal.invariant-loop-part
invariant-loop-part g l = record {
  left : All (λ part. All (λ done. IsWork g.F.Fn l.fn.f l.fn.count done.number done.value) part.items) (into_iter_items l.part-iterator);
  in_place : AreInPlace g.F.Fn l.fn.f l.fn.count l.places.items;
}
