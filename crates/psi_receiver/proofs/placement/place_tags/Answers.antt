use Rattle.std.proofs.Common.{◌<◌, ◌*◌, List, ℕ, get_or, ap, subst, sym, ◌∙◌}
use Rattle.std.specs.List.{All}
use Rattle.std.proofs.lemmas.List.Elements.{All-map}
use Rattle.item_slots.proofs.PositionLaws.{positions-below}
use Rattle.item_slots.specs.Tags.{positions_of}
use Rattle.cuckoo_place.specs.Placements.{IsPlacement}
use Rattle.psi_receiver.specs.declared.placement.Placed.{Placed}
use Rattle.psi_receiver.specs.Placements.{placed_tags}
use Rattle.psi_receiver.proofs.Joined.{placed-below}
use Rattle.psi_receiver.proofs.placement.place_tags.Goals as goal

pub place-requires-clause-below : goal.place-requires-clause-below
place-requires-clause-below c =
    rw (c.deref.ensures.value ∙ c.in_ok-sets.ensures, c.from.ensures)
    (All-map (All (λ p. p < 819 * c.args.rows)) (positions_of c.args.rows) c.args.tags.now (λ k d lt. positions-below c.args.rows (get_or c.args.tags.now k d) c.requires.some))

pub returns-clause-within : goal.returns-clause-within
returns-clause-within c =
    let placement = subst (λ (sets : List (List ℕ)). IsPlacement sets c.in_ok-places.places.items) (c.deref.ensures.value ∙ c.in_ok-sets.ensures) c.in_ok-places.ensures.first.placement in
    subst (λ (xs : List Placed). All (λ x. x.position < 819 * c.args.rows) xs) (sym (c.in_ok-at_places.ensures ∙ ap (placed_tags c.args.tags.now) c.deref-2.ensures.value))
    (placed-below c.args.rows c.args.tags.now c.in_ok-places.places.items c.requires.some placement)
