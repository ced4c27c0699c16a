use Rattle.std.proofs.Common.{◌∙◌, ap, subst, sym}
use Rattle.item_slots.specs.Tags.{ArePositions, rising, with_number}
use Rattle.item_slots.proofs.PositionLaws.{are-positions}
use Rattle.item_slots.proofs.position_list.Positions.of.Goals as goal

pub returns : goal.returns
unfolding rising with_number
returns c = c.and-2.ensures.listed ∙ ap (with_number c.args.a) (c.and.ensures.listed ∙ ap (with_number c.args.b) c.one.ensures)

pub invariant_of-result : goal.invariant_of-result
unfolding rising with_number
invariant_of-result c =
    subst ArePositions (sym (c.and-2.ensures.listed ∙ ap (with_number c.args.a) (c.and.ensures.listed ∙ ap (with_number c.args.b) c.one.ensures)))
    (are-positions c.args.a c.args.b c.args.c c.requires.first c.requires.second c.requires.third)
