use Rattle.std.proofs.Common.{◌+◌, ◌-◌, ◌*◌, ◌%◌, ℕ, slice_index, ap, ◌∙◌, arith}
use Rattle.std.proofs.lemmas.List.{get_or-set_other}
use Rattle.psi_residue.proofs.Filling.{up_done_from, up_left}
use Rattle.label_interp.proofs.newton.open_bracket.Goals as goal

pub loop-k-preserved : goal.loop-k-preserved
loop-k-preserved c =
    let k : ℕ = c.loop-k.k in
    let d : ℕ = 65537 - c.args.place in
    let f : ℕ → ℕ = slice_index c.args.out.now in
    let before = c.loop-k.invariant in
    record {
      product = up_done_from (λ j. (d * f (j + 1) + f j) % 65537) c.loop-k.out c.args.i k c.mul_add.result (omega arith)
          (c.mul_add.ensures.value
          ∙ ap (λ (u : ℕ). (d * u + slice_index c.loop-k.out k) % 65537) (before.left (k + 1) (omega arith))
          ∙ ap (λ (u : ℕ). (d * f (k + 1) + u) % 65537) (before.left k (omega arith)))
          before.product;
      before = λ j lt. get_or-set_other c.loop-k.out k j c.mul_add.result 0 (λ same. absurd (omega (arith, same))) ∙ before.before j lt;
      left = up_left f c.loop-k.out k c.mul_add.result before.left;
    }
