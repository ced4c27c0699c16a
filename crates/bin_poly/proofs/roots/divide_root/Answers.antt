use Rattle.std.proofs.Common.{◌≡◌, ◌+◌, ◌-◌, ◌*◌, ◌%◌, ◌<◌, ◌≤◌, ℕ, List, length, slice_index, refl, subst, ap, sym, ◌∙◌, arith}
use Rattle.std.proofs.Math.Nat.{mod-add-mod}
use Rattle.bin_poly.specs.Horner.{horner}
use Rattle.bin_poly.proofs.Horner.{horner-start, horner-step}
use Rattle.bin_poly.proofs.Factors.{quotient, quotient-is, quotient-past, quotient-below}
use Rattle.psi_residue.proofs.Filling.{down_done, down_left}
use Rattle.bin_poly.proofs.Products.{division-whole, lists-decided, root-divided, all_below}
use Rattle.bin_poly.proofs.roots.divide_root.Goals as goal

pub loop-k-init : goal.loop-k-init
loop-k-init c = record {
  next = horner-start 65537 (slice_index c.args.poly.now) (λ i. c.args.root) (c.args.degree + 1) (c.args.degree + 1) (omega arith);
  done = λ i le. c.requires.above i (omega arith) ∙ sym (quotient-past c.args.root (slice_index c.args.poly.now) (c.args.degree + 1) i (omega arith));
  left = λ i lt. refl;
}

pub loop-k-preserved : goal.loop-k-preserved
loop-k-preserved c =
    let k : ℕ = c.loop-k.k in
    let a : ℕ = c.args.root in
    let n : ℕ = c.args.degree + 1 in
    let f : ℕ → ℕ = slice_index c.args.poly.now in
    let out : List ℕ = c.loop-k.poly in
    let before = c.loop-k.invariant in
    let within : k - 1 < length out = omega arith in
    let some : 0 < k = omega arith in
    let high : k ≤ n = omega arith in
    let old : slice_index out (k - 1) ≡ f (k - 1) = before.left (k - 1) (omega arith) in
    let shape : k ≡ k - 1 + 1 = omega arith in
    record {
      next =
          c.add-quotient.ensures.value
          ∙ ap (λ (u : ℕ). (u + slice_index out (k - 1)) % 65537) c.mul_root.ensures.value
          ∙ mod-add-mod (c.loop-k.quotient * a) 65537 (slice_index out (k - 1))
          ∙ ap (λ (u : ℕ). (c.loop-k.quotient * a + u) % 65537) old
          ∙ horner-step 65537 f (λ i. a) n k c.loop-k.quotient some high before.next;
      done = down_done (quotient a f n) out (k - 1) c.loop-k.quotient within
          (before.next ∙ ap (λ (j : ℕ). horner f a (n - j) j % 65537) shape ∙ sym (quotient-is a f n (k - 1)))
          (λ i le. before.done i (omega arith));
      left = down_left f out (k - 1) c.loop-k.quotient (λ i lt. before.left i (omega arith));
    }

pub returns-clause-quotient : goal.returns-clause-quotient
returns-clause-quotient c =
    division-whole c.args.root (omega arith) c.args.poly.now c.loop-k.poly (c.args.degree + 1) (λ i low. c.requires.above i (omega arith))
    c.requires.coefficients_below c.requires.is_root (λ i. c.loop-k.invariant.done i (omega arith))

pub returns-clause-only : goal.returns-clause-only
returns-clause-only c = λ other other-below same.
    lists-decided c.args.root other c.loop-k.poly other-below
    (all_below c.loop-k.poly (λ i. subst (λ (u : ℕ). u < 65537) (sym (c.loop-k.invariant.done i (omega arith))) (quotient-below c.args.root (slice_index c.args.poly.now) (c.args.degree + 1) i)))
    (λ i. same i ∙ sym (division-whole c.args.root (omega arith) c.args.poly.now c.loop-k.poly (c.args.degree + 1) (λ i low. c.requires.above i (omega arith))
    c.requires.coefficients_below c.requires.is_root (λ i. c.loop-k.invariant.done i (omega arith)) i))

pub returns-clause-roots : goal.returns-clause-roots
returns-clause-roots c = λ roots roots-below has.
    root-divided c.args.root (omega arith) roots c.args.poly.now c.loop-k.poly roots-below has c.requires.is_root
    (all_below c.loop-k.poly (λ i. subst (λ (u : ℕ). u < 65537) (sym (c.loop-k.invariant.done i (omega arith))) (quotient-below c.args.root (slice_index c.args.poly.now) (c.args.degree + 1) i)))
    (division-whole c.args.root (omega arith) c.args.poly.now c.loop-k.poly (c.args.degree + 1) (λ i low. c.requires.above i (omega arith))
    c.requires.coefficients_below c.requires.is_root (λ i. c.loop-k.invariant.done i (omega arith)))

pub returns-clause-above : goal.returns-clause-above
returns-clause-above c = λ i le.
    c.loop-k.invariant.done i (omega arith) ∙ quotient-past c.args.root (slice_index c.args.poly.now) (c.args.degree + 1) i (omega arith)

pub returns-clause-below : goal.returns-clause-below
returns-clause-below c =
    all_below c.loop-k.poly (λ i. subst (λ (u : ℕ). u < 65537) (sym (c.loop-k.invariant.done i (omega arith))) (quotient-below c.args.root (slice_index c.args.poly.now) (c.args.degree + 1) i))
