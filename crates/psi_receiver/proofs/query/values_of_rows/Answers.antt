use Rattle.std.proofs.Common.{[], ◌∷◌, ◌++◌, sym, ◌∙◌, arith}
use Rattle.std.proofs.lemmas.List.FromFn.{map-range_with_len_more}
use Rattle.psi_receiver.specs.Queries.{row_values}
use Rattle.psi_receiver.proofs.query.values_of_rows.Goals as goal

pub loop-row-preserved : goal.loop-row-preserved
loop-row-preserved c =
    c.in_ok-push.ensures.items
    ∙ (λ i. c.loop-row.invariant i ++ c.in_ok-values_of_row.ensures i ∷ [])
    ∙ sym (map-range_with_len_more (row_values c.args.placed.now) 0 c.loop-row.row c.loop-row.row (omega arith))
