use Rattle.std.proofs.Common.{◌≡◌, ◌%◌, ℕ, ◌∙◌, ap, arith}
use Rattle.std.proofs.lemmas.Nat.Gcd.{IsGcd-from_mod, IsGcd-from_zero, le_of_dvd}
use Rattle.psi_residue.proofs.Inverses.{next_multiple, one_from_divisor}
use Rattle.psi_residue.proofs.inverse.euclid.Goals as goal

pub loop-low-preserved : goal.loop-low-preserved
loop-low-preserved c = record {
  high_is = c.loop-low.invariant.low_is;
  low_is = next_multiple 65536 c.args.a c.loop-low.high c.loop-low.low c.loop-low.of_high c.loop-low.of_low c.mul-taken.result c.sub-next.result c.loop-low.invariant.high_is c.loop-low.invariant.low_is c.mul-taken.ensures.below c.mul-taken.ensures.product c.sub-next.ensures.difference;
  of_high_below = c.loop-low.invariant.of_low_below;
  of_low_below = c.sub-next.ensures.below;
  divisors = λ g h. c.loop-low.invariant.divisors g (IsGcd-from_mod c.loop-low.high c.loop-low.low g h);
}

pub returns-clause-inverse : goal.returns-clause-inverse
returns-clause-inverse c =
    let low-is : c.loop-low.low ≡ 0 = omega arith in
    let gcd = c.loop-low.invariant.divisors c.loop-low.high (IsGcd-from_zero c.loop-low.high c.loop-low.low low-is) in
    let at_most = le_of_dvd c.requires.nonzero gcd.1 in
    let one = one_from_divisor c.loop-low.high gcd.0 (omega arith) in
    c.loop-low.invariant.high_is ∙ ap (λ (u : ℕ). u % 65537) one
