use Rattle.std.proofs.Common.{◌∙◌, ap, take}
use Rattle.item_slots.specs.Tags.{tag_of}
use Rattle.item_slots.proofs.tag.tag_of.Goals as goal

pub returns : goal.returns
unfolding tag_of
returns c = c.copy_from_slice.ensures.after ∙ ap (take 22) c.digest-digest.ensures
