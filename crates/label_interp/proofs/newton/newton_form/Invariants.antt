use Rattle.std.proofs.Common.{◌≡◌, ◌%◌, ◌<◌, ℕ, slice_index}
use Rattle.psi_residue.specs.Numbers.{plain_modulus}
use Rattle.label_interp.specs.Points.{newton_value, place_at, value_of}
use Rattle.label_interp.proofs.newton.newton_form.Given as goal

abbrev pub invariant-loop-i : goal.invariant-loop-i
invariant-loop-i l = record {
  through : (j : ℕ) → j < l.i → newton_value l.points (slice_index l.out) (place_at l.points j) l.i 0 % plain_modulus ≡ value_of l.points j;
  below : (k : ℕ) → k < l.i → slice_index l.out k < plain_modulus;
}
