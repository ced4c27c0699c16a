use Rattle.std.proofs.Common.{◌+◌, ◌-◌, ◌*◌, ◌%◌, ◌<◌, ℕ, List, slice_index, subst, ap, sym, ◌∙◌, arith}
use Rattle.bin_poly.proofs.Horner.{horner-start, horner-step}
use Rattle.label_interp.specs.Points.{place_at, value_of, newton_value, newton_product}
use Rattle.label_interp.proofs.Forms.{coefficient-takes, product-start, product-step, newton_product-positive, down_to_zero}
use Rattle.label_interp.proofs.newton.newton_coefficient.Goals as goal

pub loop-k-init : goal.loop-k-init
loop-k-init c =
    let x : ℕ = place_at c.args.points.now c.args.i in
    let g : ℕ → ℕ = λ l. x + (65537 - place_at c.args.points.now l) in
    record {
      so_far = horner-start 65537 (slice_index c.args.coefficients.now) g c.args.i c.args.i (omega arith);
      product = product-start g c.args.i c.args.i (omega arith);
    }

pub loop-k-preserved : goal.loop-k-preserved
loop-k-preserved c =
    let x : ℕ = place_at c.args.points.now c.args.i in
    let k : ℕ = c.loop-k.k in
    let g : ℕ → ℕ = λ l. x + (65537 - place_at c.args.points.now l) in
    let f : ℕ → ℕ = slice_index c.args.coefficients.now in
    let before = c.loop-k.invariant in
    record {
      so_far =
          c.mul_add-so_far.ensures.value
          ∙ ap (λ (u : ℕ). (c.loop-k.so_far * u + f (k - 1)) % 65537) c.difference-factor.ensures
          ∙ horner-step 65537 f g c.args.i k c.loop-k.so_far (omega arith) (omega arith) before.so_far;
      product =
          c.mul_add-product.ensures.value
          ∙ ap (λ (u : ℕ). (c.loop-k.product * u + 0) % 65537) c.difference-factor.ensures
          ∙ product-step g c.args.i k c.loop-k.product (omega arith) (omega arith) before.product;
    }

pub inverse-requires-clause-nonzero : goal.inverse-requires-clause-nonzero
inverse-requires-clause-nonzero c =
    subst (λ (u : ℕ). 0 < u)
    (sym (down_to_zero (newton_product c.args.points.now (place_at c.args.points.now c.args.i)) c.args.i c.loop-k.k c.loop-k.product (omega arith) c.loop-k.invariant.product))
    (newton_product-positive c.args.points.now c.args.i c.requires.point c.requires.numbers_below c.requires.places_differ)

pub returns-clause-takes : goal.returns-clause-takes
returns-clause-takes c =
    let points : List (ℕ × ℕ) = c.args.points.now in
    let x : ℕ = place_at points c.args.i in
    let f : ℕ → ℕ = slice_index c.args.coefficients.now in
    let s-is = down_to_zero (newton_value points f x) c.args.i c.loop-k.k c.loop-k.so_far (omega arith) c.loop-k.invariant.so_far in
    let q-is = down_to_zero (newton_product points x) c.args.i c.loop-k.k c.loop-k.product (omega arith) c.loop-k.invariant.product in
    let s-small : c.loop-k.so_far < 65537 = omega (arith, s-is) in
    coefficient-takes (value_of points c.args.i) (newton_value points f x c.args.i 0) (newton_product points x c.args.i 0)
    c.loop-k.so_far c.loop-k.product c.inverse.result c.mul_add.result
    ((c.requires.numbers_below c.args.i (0, 0) c.requires.point).1) s-small s-is q-is c.inverse.ensures.inverse
    (c.mul_add.ensures.value ∙ ap (λ (u : ℕ). (u * c.inverse.result + 0) % 65537) c.difference.ensures)
