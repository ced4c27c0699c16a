use Rattle.std.proofs.Common.{ℕ, List, [], ◌∷◌, ◌∙◌, ap}
use Rattle.item_slots.specs.Tags.{slot_value, slot_values}
use Rattle.item_slots.proofs.tag.slots.Goals as goal

pub returns : goal.returns
unfolding slot_value
returns c = (λ i. c.half_at.ensures i ∷ c.half_at-2.ensures i ∷ c.half_at-3.ensures i ∷ c.half_at-4.ensures i ∷ c.half_at-5.ensures i ∷ []) ∙ ap (λ (t : List ℕ). slot_values t) c.tag.view_is
