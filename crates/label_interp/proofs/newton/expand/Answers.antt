use Rattle.std.proofs.Common.{◌≡◌, ◌+◌, ◌-◌, ◌%◌, ℕ, length, slice_index, refl, subst, sym, ◌∙◌, arith}
use Rattle.bin_poly.specs.Horner.{horner}
use Rattle.bin_poly.proofs.Horner.{horner-start}
use Rattle.label_interp.specs.Points.{place_at, newton_value}
use Rattle.label_interp.proofs.Forms.{expand-step, expand-below, expand-done}
use Rattle.label_interp.proofs.newton.expand.Goals as goal

pub loop-i-init : goal.loop-i-init
loop-i-init c = record {
  values = λ x.
      sym (horner-start 65537 (slice_index c.args.out.now) (λ i. x) (length c.args.points.now) (length c.args.points.now) (omega arith))
      ∙ horner-start 65537 (slice_index c.args.out.now) (λ i. x + (65537 - place_at c.args.points.now i)) (length c.args.points.now) (length c.args.points.now) (omega arith);
  left = λ k lt. refl;
  below = c.requires.below;
}

pub loop-i-preserved : goal.loop-i-preserved
loop-i-preserved c =
    let i : ℕ = c.loop-i.i - 1 in
    let n : ℕ = length c.args.points.now in
    let shape : c.loop-i.i ≡ c.loop-i.i - 1 + 1 = omega arith in
    let before = c.loop-i.invariant in
    let opened = c.open_bracket.ensures in
    record {
      values = expand-step c.args.points.now c.args.out.now c.loop-i.out c.open_bracket.new.out n (c.loop-i.i - 1) (omega arith)
          opened.product opened.after (before.left (c.loop-i.i - 1) (omega arith))
          (λ x. subst (λ (j : ℕ). horner (slice_index c.loop-i.out) x (n - j) j % 65537 ≡ newton_value c.args.points.now (slice_index c.args.out.now) x (n - j) j % 65537) shape (before.values x));
      left = λ k lt. opened.before k (omega arith) ∙ before.left k (omega arith);
      below = expand-below c.args.points.now c.loop-i.out c.open_bracket.new.out n (c.loop-i.i - 1) opened.product opened.before opened.after before.below;
    }

pub returns-clause-values : goal.returns-clause-values
returns-clause-values c = λ x. expand-done c.args.points.now c.args.out.now c.loop-i.out x (length c.args.points.now) c.loop-i.i (omega arith) (c.loop-i.invariant.values x)
