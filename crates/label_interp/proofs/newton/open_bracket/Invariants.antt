use Rattle.std.proofs.Common.{◌≡◌, ◌+◌, ◌-◌, ◌*◌, ◌%◌, ◌<◌, ◌≤◌, ℕ, slice_index}
use Rattle.psi_residue.specs.Numbers.{plain_modulus}
use Rattle.label_interp.proofs.newton.open_bracket.Given as goal

abbrev pub invariant-loop-k : goal.invariant-loop-k
invariant-loop-k l = record {
  product : (j : ℕ) → l.i ≤ j → j < l.k → slice_index l.out j ≡ ((plain_modulus - l.place) * slice_index l.initial.out (j + 1) + slice_index l.initial.out j) % plain_modulus;
  before : (j : ℕ) → j < l.i → slice_index l.out j ≡ slice_index l.initial.out j;
  left : (j : ℕ) → l.k ≤ j → slice_index l.out j ≡ slice_index l.initial.out j;
}
