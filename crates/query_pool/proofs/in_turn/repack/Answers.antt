use Rattle.std.proofs.Common.{◌∙◌, sym, ap}
use Rattle.psi_residue.specs.Parameters.{Parameters}
use Rattle.psi_bundle.specs.Shows.{packed_bins}
use Rattle.sender_core.specs.Answers.{answer_of_repack}
use Rattle.query_pool.proofs.Telling.{gone, repack-from, repacked}
use Rattle.query_pool.proofs.in_turn.repack.Goals as goal

pub repack-turn-requires-clause-of_history : goal.repack-turn-requires-clause-of_history
repack-turn-requires-clause-of_history g c _ _ = λ z is.
    (c.in_ok-view.ensures.viewed z (sym c.fetch_row.ensures.went.2.keeps.base ∙ is)).shown

pub repack-turn-requires-clause-packed : goal.repack-turn-requires-clause-packed
repack-turn-requires-clause-packed g c _ _ = λ z is.
    let under = c.requires.under z (sym c.fetch_row.ensures.went.2.keeps.base ∙ is) in
    c.in_ok-packed.ensures ∙ (λ i. packed_bins (sym (ap (λ (p : Parameters). p.capacity) under) i) (c.bundles.ensures.row i))

pub returns-in-Ok-clause-told : goal.returns-in-Ok-clause-told
returns-in-Ok-clause-told g c =
    let u = c.args.seat.now.knows in
    let v = c.fetch_row.new.seat.knows in
    let w = c.repack-turn.new.seat.knows in
    let went = c.fetch_row.ensures.went in
    repacked u v w (gone u v went) c.fetch_row.ensures.stayed went.0 c.args.row c.in_ok-view.view (answer_of_repack c.in-Ok.placed.answer) c.in-Ok.placed.place c.from.result c.of_repack.result
    (c.in_ok-view.ensures.viewed went.0 went.1) c.in-Ok.ensures.entered c.from.ensures c.of_repack.ensures.place c.of_repack.ensures.answer c.of_repack.ensures.from

pub returns-in-Ok-clause-from : goal.returns-in-Ok-clause-from
returns-in-Ok-clause-from g c =
    let u = c.args.seat.now.knows in
    let v = c.fetch_row.new.seat.knows in
    let w = c.repack-turn.new.seat.knows in
    let went = c.fetch_row.ensures.went in
    repack-from u v w (gone u v went) c.fetch_row.ensures.stayed went.0 c.args.row c.in_ok-view.view (answer_of_repack c.in-Ok.placed.answer) c.in-Ok.placed.place c.from.result c.of_repack.result
    (c.in_ok-view.ensures.viewed went.0 went.1) c.in-Ok.ensures.entered c.from.ensures c.of_repack.ensures.place c.of_repack.ensures.from
