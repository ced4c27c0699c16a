use Rattle.std.proofs.Common.{arith, ◌≢◌, ℕ, get_or, refl, ap, sym, ◌∙◌}
use Rattle.std.proofs.lemmas.List.{get_or-set_other}
use Rattle.cuckoo_place.proofs.Lowered.{tried_same, least_more}
use Rattle.cuckoo_place.proofs.first.lower_last.Goals as goal

pub move_last-requires-clause-below : goal.move_last-requires-clause-below
move_last-requires-clause-below c = λ i p h. let b = c.requires.below i p h in omega (arith, b, c.loop-to.auto.holders)

pub loop-to-preserved : goal.loop-to-preserved
loop-to-preserved c =
    let to : ℕ = get_or c.list-to-items.result.now c.loop-to.to-index 0 in
    record {
      full = c.move_last.ensures.full;
      kept = λ q. tried_same c.args.sets.now c.loop-to.places c.move_last.new.places c.args.item (get_or c.list-to-items.result.now c.loop-to.to-index 0) q c.move_last.ensures.outcome ∙ c.loop-to.invariant.kept q;
      least = least_more c.args.sets.now c.loop-to.places c.move_last.new.places c.list-to-items.result.now c.args.item c.loop-to.to-index (get_or c.list-to-items.result.now c.loop-to.to-index 0) (omega (arith, c.requires.last, c.loop-to.auto.places)) refl c.move_last.ensures.outcome c.loop-to.invariant.least;
    }

pub returns-clause-kept : goal.returns-clause-kept
returns-clause-kept c = λ i lt.
    let n : i ≢ c.args.item = omega arith in
    sym (get_or-set_other c.loop-to.places c.args.item i 0 0 n) ∙ ap (λ xs. get_or xs i 0) (c.loop-to.invariant.kept 0) ∙ get_or-set_other c.args.places.now c.args.item i 0 0 n
