use Rattle.std.proofs.Common.{◌≡◌, ◌<◌, ◌≤◌, ℕ, slice_index}
use Rattle.label_interp.proofs.newton.clear.Given as goal

abbrev pub invariant-loop-k : goal.invariant-loop-k
invariant-loop-k l = record {
  before : (i : ℕ) → i < l.from → slice_index l.out i ≡ slice_index l.initial.out i;
  after : (i : ℕ) → l.from ≤ i → i < l.k → slice_index l.out i ≡ 0;
}
