use Rattle.std.proofs.Common.{◌≡◌, ◌-◌, ◌%◌, length, slice_index}
use Rattle.psi_residue.specs.Numbers.{plain_modulus}
use Rattle.bin_poly.specs.Horner.{horner}
use Rattle.bin_poly.proofs.values.eval.Given as goal

abbrev pub invariant-loop-k : goal.invariant-loop-k
invariant-loop-k l = l.value ≡ horner (slice_index l.coeffs) l.x (length l.coeffs - l.k) l.k % plain_modulus
