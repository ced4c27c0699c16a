use Rattle.std.proofs.Common.{◌≡◌, ◌*◌, ◌%◌, ◌<◌, ℕ}
use Rattle.std.specs.Int.{IsGcd}
use Rattle.psi_residue.specs.Numbers.{plain_modulus}
use Rattle.psi_residue.proofs.inverse.euclid.Given as goal

abbrev pub invariant-loop-low : goal.invariant-loop-low
invariant-loop-low l = record {
  high_is : (l.a * l.of_high) % plain_modulus ≡ l.high % plain_modulus;
  low_is : (l.a * l.of_low) % plain_modulus ≡ l.low % plain_modulus;
  of_high_below : l.of_high < plain_modulus;
  of_low_below : l.of_low < plain_modulus;
  divisors : (g : ℕ) → IsGcd l.high l.low g → IsGcd plain_modulus l.a g;
}

abbrev pub decreases-loop-low : goal.decreases-loop-low
decreases-loop-low l = l.low
