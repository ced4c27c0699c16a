use Rattle.std.proofs.Common.{length}
use Rattle.std.specs.List.{All}
use Rattle.std.specs.Vec.Iter.{into_iter_items}
use Rattle.psi_receiver.specs.Works.{AreInPlace, IsWork}
use Rattle.psi_receiver.proofs.turns.put_part.Given as goal

abbrev pub invariant-loop-done : goal.invariant-loop-done
invariant-loop-done g l = record {
  left : All (λ done. IsWork g.F.Fn l.fn.f (length l.fn.places) done.number done.value) (into_iter_items l.done-iterator);
  in_place : AreInPlace g.F.Fn l.fn.f (length l.fn.places) l.places;
}
