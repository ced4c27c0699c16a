use Rattle.std.proofs.Common.{◌≡◌, ◌++◌, ◌∷◌, [], length, get_or, ap, sym, ◌∙◌, arith}
use Rattle.std.proofs.lemmas.List.{get_or_default}
use Rattle.psi_receiver.proofs.Steps.{placed_below, placed_below-none, placed_below-more, placed_below-all}
use Rattle.psi_receiver.proofs.placement.at_places.Goals as goal

pub loop-item-init : goal.loop-item-init
loop-item-init c = c.in_ok-placed.ensures.items ∙ sym (placed_below-none c.args.tags.now c.args.places.now)

pub loop-item-preserved : goal.loop-item-preserved
loop-item-preserved c =
    let tag : c.index-tags-item.result ≡ get_or c.args.tags.now c.loop-item.item [] =
    c.index-tags-item.is ∙ get_or_default c.args.tags.now c.loop-item.item c.index-tags-item.result [] c.loop-item-test.true in
    c.in_ok-push.ensures.items
    ∙ (λ i. c.loop-item.invariant i ++ record { item = c.loop-item.item; tag = tag i; position = get_or c.args.places.now c.loop-item.item 0 } ∷ [])
    ∙ sym (placed_below-more c.args.tags.now c.args.places.now c.loop-item.item)

pub returns : goal.returns
returns c =
    let all : c.loop-item.item ≡ length c.args.tags.now = omega arith in
    c.loop-item.invariant ∙ ap (placed_below c.args.tags.now c.args.places.now) all ∙ placed_below-all c.args.tags.now c.args.places.now
