use Rattle.std.proofs.Common.{◌≡◌, [], length, slice_set, take, refl, ◌∙◌, arith}
use Rattle.std.proofs.lemmas.List.{length-take}
use Rattle.bin_poly.specs.Roots.{HasRoots}
use Rattle.bin_poly.proofs.Products.{starts-with_one, all_zero, all_below-product, roots_more, coefficient-past}
use Rattle.bin_poly.proofs.roots.from_roots.Goals as goal

pub loop-degree-init : goal.loop-degree-init
loop-degree-init c =
    let size : length c.fill.new.self ≡ length c.args.out.now = c.fill.ensures.len in
    let zeros = all_zero c.fill.new.self (length c.args.out.now) size (λ k lt. c.fill.ensures.clones k 0 lt refl) in
    let one : HasRoots (slice_set c.fill.new.self 0 1) [] = starts-with_one c.fill.new.self (omega arith) zeros in
    record { product = one; below = all_below-product (slice_set c.fill.new.self 0 1) [] one }

pub times_root-requires-clause-above : goal.times_root-requires-clause-above
times_root-requires-clause-above c = λ k lt.
    c.loop-degree.invariant.product k
    ∙ coefficient-past (take c.loop-degree.degree c.args.roots.now) k (omega (arith, length-take c.loop-degree.degree c.args.roots.now))

pub loop-degree-preserved : goal.loop-degree-preserved
loop-degree-preserved c = record {
  product = λ k.
      c.times_root.ensures.roots (take c.loop-degree.degree c.args.roots.now) c.loop-degree.invariant.product k
      ∙ roots_more c.args.roots.now c.loop-degree.degree k (omega arith);
  below = c.times_root.ensures.below;
}
