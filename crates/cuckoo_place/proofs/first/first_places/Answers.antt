use Rattle.std.proofs.Common.{arith, ◌≡◌, ◌+◌, [], ◌∷◌, ◌++◌, length, get_or, take, drop, ap, subst, sym, ◌∙◌}
use Rattle.std.specs.List.{Contains}
use Rattle.std.proofs.lemmas.List.{get_or_read, length_push, take_at}
use Rattle.std.proofs.lemmas.List.Elements.{Contains-get_or}
use Rattle.cuckoo_place.specs.Placements.{positions_at}
use Rattle.cuckoo_place.proofs.Choices.{choices_free}
use Rattle.cuckoo_place.proofs.Lowered.{full_more, none_below_more, first_found}
use Rattle.cuckoo_place.proofs.first.first_places.Goals as goal
use Rattle.cuckoo_place.proofs.first.first_places.Goals.{After-list}

-- the list is the item's set
same_list : (c : After-list) → c.list.result.now ≡ positions_at c.args.sets.now c.loop-item.item
same_list c = c.list.ensures.listed ∙ get_or_read c.args.sets.now c.loop-item.item c.index-sets-item.result (omega arith) c.index-sets-item.is []

pub place_of-place-requires-clause-below : goal.place_of-place-requires-clause-below
place_of-place-requires-clause-below c =
    let e = same_list (goal.at.place_of-place-requires-clause-below c).After-list in
    λ k d b.
    let h = c.requires.below c.loop-item.item (get_or c.list.result.now k d) (subst (λ xs. Contains xs (get_or c.list.result.now k d)) e (Contains-get_or c.list.result.now k d b)) in
    omega (arith, h, c.loop-item.auto.holders)

pub place_of-place-requires-clause-held : goal.place_of-place-requires-clause-held
place_of-place-requires-clause-held c =
    let e = same_list (goal.at.place_of-place-requires-clause-held c).After-list in
    let f = c.loop-item.invariant.full in
    let at = f.all c.loop-item.item (omega arith) in
    (at.0, (subst (λ xs. Contains xs at.0) (choices_free c.args.sets.now c.loop-item.places.items c.loop-item.item (omega (arith, c.loop-item.invariant.each)) ∙ sym e) (f.assigned.own c.loop-item.item at.0 at.1), at.1))

pub lower_last-requires-clause-below : goal.lower_last-requires-clause-below
lower_last-requires-clause-below c = λ i p h. let b = c.requires.below i p h in omega (arith, b, c.loop-item.auto.holders)

pub lower_last-requires-clause-full : goal.lower_last-requires-clause-full
lower_last-requires-clause-full c =
    let e = same_list (goal.at.lower_last-requires-clause-full c).After-list in
    let pushed : c.push.new.self.items ≡ c.loop-item.places.items ++ c.place_of-place.result ∷ [] = c.in_ok-push.ensures.items in
    rw (c.deref_mut.ensures.value, pushed)
    (full_more c.args.sets.now c.loop-item.places.items c.loop-item.holders c.loop-item.item c.place_of-place.result c.loop-item.invariant.full c.loop-item.invariant.each (omega arith)
    (subst (λ xs. Contains xs c.place_of-place.result) e c.place_of-place.ensures.own) c.place_of-place.ensures.held)

pub loop-item-preserved : goal.loop-item-preserved
loop-item-preserved c =
    let pushed : c.push.new.self.items ≡ c.loop-item.places.items ++ c.place_of-place.result ∷ [] = c.in_ok-push.ensures.items in
    let seen_as : c.deref_mut.result.now ≡ c.loop-item.places.items ++ c.place_of-place.result ∷ [] = c.deref_mut.ensures.value ∙ pushed in
    let longer : length c.lower_last.new.places ≡ c.loop-item.item + 1 = omega (arith, c.lower_last.auto.places, ap length seen_as, length_push c.loop-item.places.items c.place_of-place.result, c.loop-item.invariant.each) in
    let whole : take c.push.new.self.len (c.lower_last.new.places ++ drop (length c.lower_last.new.places) c.push.new.self.items) ≡ c.lower_last.new.places = take_at c.lower_last.new.places (drop (length c.lower_last.new.places) c.push.new.self.items) c.push.new.self.len (omega (arith, c.lower_last.auto.places, c.deref_mut.ensures.len)) in
    rw whole
    (record {
      each = longer;
      full = c.lower_last.ensures.full;
      least = none_below_more c.args.sets.now c.loop-item.places.items c.lower_last.new.places c.loop-item.item c.place_of-place.result c.loop-item.invariant.each longer (omega arith) (λ i lt. c.lower_last.ensures.kept i lt ∙ ap (λ xs. get_or xs i 0) seen_as) c.lower_last.ensures.least c.loop-item.invariant.least;
    })

pub returns : goal.returns
returns c = first_found c.args.sets.now c.loop-item.places.items c.loop-item.holders c.loop-item.invariant.full (omega (arith, c.loop-item.invariant.each, c.loop-item-test.false, c.loop-item.auto.item-end)) c.loop-item.invariant.least
