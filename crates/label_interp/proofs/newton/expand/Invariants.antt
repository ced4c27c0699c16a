use Rattle.std.proofs.Common.{◌≡◌, ◌-◌, ◌%◌, ◌<◌, ℕ, length, slice_index}
use Rattle.psi_residue.specs.Numbers.{plain_modulus}
use Rattle.bin_poly.specs.Horner.{horner}
use Rattle.label_interp.specs.Points.{newton_value}
use Rattle.label_interp.proofs.newton.expand.Given as goal

abbrev pub invariant-loop-i : goal.invariant-loop-i
invariant-loop-i l = record {
  values : (x : ℕ) → horner (slice_index l.out) x (length l.points - l.i) l.i % plain_modulus
      ≡ newton_value l.points (slice_index l.initial.out) x (length l.points - l.i) l.i % plain_modulus;
  left : (k : ℕ) → k < l.i → slice_index l.out k ≡ slice_index l.initial.out k;
  below : (k : ℕ) → k < length l.points → slice_index l.out k < plain_modulus;
}
