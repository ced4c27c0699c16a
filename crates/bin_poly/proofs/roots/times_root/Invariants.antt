use Rattle.std.proofs.Common.{◌≡◌, ◌+◌, ◌<◌, ◌≤◌, ℕ, slice_index}
use Rattle.psi_residue.specs.Numbers.{plain_modulus}
use Rattle.bin_poly.specs.Roots.{times_root_coefficient}
use Rattle.bin_poly.proofs.roots.times_root.Given as goal

abbrev pub invariant-loop-k : goal.invariant-loop-k
invariant-loop-k l = record {
  done : (i : ℕ) → i < l.k → slice_index l.poly i ≡ times_root_coefficient l.fn.root (slice_index l.initial.poly) i;
  left : (i : ℕ) → l.k ≤ i → slice_index l.poly i ≡ slice_index l.initial.poly i;
  below : l.low < plain_modulus;
  first : l.k ≡ 0 → l.low ≡ 0;
  low : (i : ℕ) → i + 1 ≡ l.k → l.low ≡ slice_index l.initial.poly i;
}
