use Rattle.std.proofs.Common.{◌≡◌, ◌+◌, ◌<◌, ℕ, List, length, slice_index, subst, ap, sym, ◌∙◌, arith}
use Rattle.bin_poly.specs.Roots.{times_root_coefficient}
use Rattle.bin_poly.proofs.Factors.{product-written, product-whole, product-below}
use Rattle.psi_residue.proofs.Filling.{up_done, up_left}
use Rattle.bin_poly.proofs.Products.{root-multiplied, all_below, coefficient_below}
use Rattle.bin_poly.proofs.roots.times_root.Goals as goal

pub loop-k-preserved : goal.loop-k-preserved
loop-k-preserved c =
    let k : ℕ = c.loop-k.k in
    let a : ℕ = c.args.root in
    let f : ℕ → ℕ = slice_index c.args.poly.now in
    let out : List ℕ = c.loop-k.poly in
    let before = c.loop-k.invariant in
    let within : k < length out = omega arith in
    let here = before.left k (omega arith) in
    record {
      done = up_done (times_root_coefficient a f) out k c.sub.result within
          (product-written a c.mul_root.result (slice_index out k) c.loop-k.low k c.sub.result f (omega arith) here before.first before.low c.mul_root.ensures.value c.sub.ensures.value)
          before.done;
      left = up_left f out k c.sub.result before.left;
      below = subst (λ (u : ℕ). u < 65537) (sym here) (coefficient_below c.args.poly.now c.requires.coefficients_below k);
      first = λ e. absurd (omega (arith, e));
      low = λ i e. let same : k ≡ i = omega (arith, e) in here ∙ ap f same;
    }

pub returns-clause-product : goal.returns-clause-product
returns-clause-product c =
    product-whole c.args.root (slice_index c.args.poly.now) (slice_index c.loop-k.poly) (c.args.degree + 1) (λ i low. c.requires.above i (omega arith))
    (λ i lt. c.loop-k.invariant.done i (omega arith)) (λ i ge. c.loop-k.invariant.left i (omega arith))

pub returns-clause-roots : goal.returns-clause-roots
returns-clause-roots c = λ roots has.
    root-multiplied c.args.root roots c.args.poly.now c.loop-k.poly has
    (product-whole c.args.root (slice_index c.args.poly.now) (slice_index c.loop-k.poly) (c.args.degree + 1) (λ i low. c.requires.above i (omega arith))
    (λ i lt. c.loop-k.invariant.done i (omega arith)) (λ i ge. c.loop-k.invariant.left i (omega arith)))

pub returns-clause-below : goal.returns-clause-below
returns-clause-below c =
    all_below c.loop-k.poly (λ i. subst (λ (u : ℕ). u < 65537)
    (sym (product-whole c.args.root (slice_index c.args.poly.now) (slice_index c.loop-k.poly) (c.args.degree + 1) (λ i low. c.requires.above i (omega arith))
    (λ i lt. c.loop-k.invariant.done i (omega arith)) (λ i ge. c.loop-k.invariant.left i (omega arith)) i))
    (product-below c.args.root (slice_index c.args.poly.now) i))
