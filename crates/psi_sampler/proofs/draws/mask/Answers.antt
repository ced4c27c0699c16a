use Rattle.std.proofs.Common.{arith, ◌<◌, ◌∙◌, ap, ℕ, length}
use Rattle.std.proofs.lemmas.List.Elements.{AllWithin-more_set}
use Rattle.psi_residue.specs.Numbers.{first_modulus, second_modulus}
use Rattle.psi_sampler.specs.Sampling.{first_mask_residue, second_mask_residue}
use Rattle.psi_sampler.proofs.Drawn.{first_mask_drawn, second_mask_drawn, filled_step}
use Rattle.psi_sampler.proofs.draws.mask.Goals as goal

pub loop-i-preserved : goal.loop-i-preserved
loop-i-preserved c =
    let i : ℕ = c.loop-i.i in
    let first_within : i < length c.loop-i.out1 = omega arith in
    let second_within : i < length c.loop-i.out2 = omega arith in
    let before = c.loop-i.invariant in
    let drawn = c.mask_residues-first.ensures in
    record {
      key = ap (λ g. g.key) drawn.moved ∙ before.key;
      stream = ap (λ g. g.stream) drawn.moved ∙ before.stream;
      at = omega (arith, ap (λ g. g.word_pos) drawn.moved, before.at);
      first = filled_step 0 (first_mask_residue c.args.seed.now c.args.c) _ i _ first_within
          (first_mask_drawn _ c.args.seed.now c.args.c i _ before.key before.stream before.at drawn.first) before.first;
      second = filled_step 0 (second_mask_residue c.args.seed.now c.args.c) _ i _ second_within
          (second_mask_drawn _ c.args.seed.now c.args.c i _ before.key before.stream before.at drawn.second) before.second;
      first_below = AllWithin-more_set _ i _ first_within (λ x. x < first_modulus) before.first_below drawn.first_below;
      second_below = AllWithin-more_set _ i _ second_within (λ x. x < second_modulus) before.second_below drawn.second_below;
    }
