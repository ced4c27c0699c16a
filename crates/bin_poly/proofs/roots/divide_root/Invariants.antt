use Rattle.std.proofs.Common.{◌≡◌, ◌+◌, ◌-◌, ◌%◌, ◌<◌, ◌≤◌, ℕ, slice_index}
use Rattle.psi_residue.specs.Numbers.{plain_modulus}
use Rattle.bin_poly.specs.Horner.{horner}
use Rattle.bin_poly.proofs.Factors.{quotient}
use Rattle.bin_poly.proofs.roots.divide_root.Given as goal

abbrev pub invariant-loop-k : goal.invariant-loop-k
invariant-loop-k l = record {
  next : l.quotient ≡ horner (slice_index l.initial.poly) l.fn.root (l.degree + 1 - l.k) l.k % plain_modulus;
  done : (i : ℕ) → l.k ≤ i → slice_index l.poly i ≡ quotient l.fn.root (slice_index l.initial.poly) (l.degree + 1) i;
  left : (i : ℕ) → i < l.k → slice_index l.poly i ≡ slice_index l.initial.poly i;
}
