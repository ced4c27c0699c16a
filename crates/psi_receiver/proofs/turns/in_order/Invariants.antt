use Rattle.std.proofs.Common.{◌≡◌, ℕ, ◌+◌, ◌<◌, IfSome, length, slice_index_or}
use Rattle.std.specs.Fn.{FnReturns}
use Rattle.std.specs.Fork.{GivesEach}
use Rattle.std.specs.Vec.Iter.{into_iter_items}
use Rattle.psi_receiver.proofs.turns.in_order.Given as goal

abbrev pub invariant-loop-place : goal.invariant-loop-place
invariant-loop-place g l = record {
  size : length l.values.items + length (into_iter_items l.place-iterator) ≡ l.fn.count;
  left : (k : ℕ) (d : _) → k < length (into_iter_items l.place-iterator)
      → IfSome (slice_index_or (into_iter_items l.place-iterator) k d) (FnReturns g.F.Fn l.fn.f (length l.values.items + k, tt));
  done : GivesEach g.F.Fn l.fn.f (length l.values.items) l.values.items;
}
