use Rattle.std.proofs.Common.{refl, ◌∙◌, inl, inr, arith}
use Rattle.std.proofs.lemmas.Bool.{cases_lt}
use Rattle.std.proofs.lemmas.List.{get_or-set_other}
use Rattle.bin_poly.proofs.Horner.{past_end}
use Rattle.psi_residue.proofs.Filling.{up_done_from}
use Rattle.label_interp.proofs.newton.clear.Goals as goal

pub loop-k-preserved : goal.loop-k-preserved
loop-k-preserved c = record {
  before = λ i lt. get_or-set_other c.loop-k.out c.loop-k.k i 0 0 (λ same. absurd (omega (arith, same))) ∙ c.loop-k.invariant.before i lt;
  after = up_done_from (λ i. 0) c.loop-k.out c.args.from c.loop-k.k 0 (omega arith) refl c.loop-k.invariant.after;
}

pub returns-clause-after : goal.returns-clause-after
returns-clause-after c = λ k from.
    elim (cases_lt k c.loop-k.k) [
      | inl lt ↦ c.loop-k.invariant.after k from lt
      | inr ge ↦ past_end c.loop-k.out k (omega arith)
    ]
