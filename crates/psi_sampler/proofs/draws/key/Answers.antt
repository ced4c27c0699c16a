use Rattle.std.proofs.Common.{rules, arith, ◌<◌, ◌≤◌, ◌∙◌, ap, ℕ, List, ℤ, pos, unsigned_abs, length, FitsSigned, w8}
use Rattle.std.proofs.lemmas.Int.{to_z-of_z}
use Rattle.std.proofs.lemmas.List.Elements.{AllWithin-more_set}
use Rattle.psi_sampler.specs.Sampling.{key_coefficient}
use Rattle.psi_sampler.proofs.Drawn.{key_drawn, filled_step, small_written}
use Rattle.psi_sampler.proofs.draws.key.Goals as goal

pub loop-place-preserved : goal.loop-place-preserved
loop-place-preserved c =
    let i : ℕ = c.loop-place.place-index in
    let out : List ℤ = c.loop-place.out in
    let drawn : ℤ = c.key_coefficient.result in
    let fits : FitsSigned w8 drawn = search rules in
    let within : i < length out = omega arith in
    let here = key_drawn _ c.args.seed.now i drawn c.loop-place.invariant.key c.loop-place.invariant.stream c.loop-place.invariant.at c.key_coefficient.ensures.value in
    record {
      key = ap (λ g. g.key) c.key_coefficient.ensures.moved ∙ c.loop-place.invariant.key;
      stream = ap (λ g. g.stream) c.key_coefficient.ensures.moved ∙ c.loop-place.invariant.stream;
      at = omega (arith, ap (λ g. g.word_pos) c.key_coefficient.ensures.moved, c.loop-place.invariant.at);
      value = filled_step (pos 0) (key_coefficient c.args.seed.now) out i _ within (to_z-of_z w8 drawn fits ∙ here) c.loop-place.invariant.value;
      small = AllWithin-more_set out i _ within (λ x. unsigned_abs x ≤ 1) c.loop-place.invariant.small (small_written _ drawn fits c.key_coefficient.ensures.small);
    }
