use Rattle.std.proofs.Common.{◌≡◌, ◌-◌, ◌%◌, slice_index}
use Rattle.psi_residue.specs.Numbers.{plain_modulus}
use Rattle.label_interp.specs.Points.{newton_value, newton_product}
use Rattle.label_interp.proofs.newton.newton_coefficient.Given as goal

abbrev pub invariant-loop-k : goal.invariant-loop-k
invariant-loop-k l = record {
  so_far : l.so_far ≡ newton_value l.points (slice_index l.coefficients) l.place (l.i - l.k) l.k % plain_modulus;
  product : l.product ≡ newton_product l.points l.place (l.i - l.k) l.k % plain_modulus;
}
