use Rattle.std.proofs.Common.{◌≡◌, ℕ, ◌+◌, ◌-◌, ◌*◌, ◌%◌, length, slice_index, ap, ◌∙◌, arith}
use Rattle.std.proofs.Math.Nat.{mod-add-mod}
use Rattle.bin_poly.specs.Horner.{horner}
use Rattle.bin_poly.proofs.Horner.{horner-start, horner-step}
use Rattle.bin_poly.proofs.Products.{value-done}
use Rattle.bin_poly.proofs.values.eval.Goals as goal

pub loop-k-init : goal.loop-k-init
loop-k-init c = horner-start 65537 (slice_index c.args.coeffs.now) (λ i. c.args.x) (length c.args.coeffs.now) (length c.args.coeffs.now) (omega arith)

pub loop-k-preserved : goal.loop-k-preserved
loop-k-preserved c =
    c.add-value.ensures.value
    ∙ ap (λ (u : ℕ). (u + slice_index c.args.coeffs.now (c.loop-k.k - 1)) % 65537) c.mul.ensures.value
    ∙ mod-add-mod (c.loop-k.value * c.args.x) 65537 (slice_index c.args.coeffs.now (c.loop-k.k - 1))
    ∙ horner-step 65537 (slice_index c.args.coeffs.now) (λ i. c.args.x) (length c.args.coeffs.now) c.loop-k.k c.loop-k.value (omega arith) (omega arith) c.loop-k.invariant

pub returns-clause-value : goal.returns-clause-value
returns-clause-value c = value-done c.args.coeffs.now c.args.x c.loop-k.k c.loop-k.value (omega arith) c.loop-k.invariant

pub returns-clause-below : goal.returns-clause-below
returns-clause-below c =
    let is : c.loop-k.value ≡ horner (slice_index c.args.coeffs.now) c.args.x (length c.args.coeffs.now - c.loop-k.k) c.loop-k.k % 65537 = c.loop-k.invariant in
    omega (arith, is)
