use Rattle.std.proofs.Common.{◌+◌, ◌∷◌, [], ◌++◌, Some, set, ap, refl, ◌∙◌, List, length, arith}
use Rattle.row_block.specs.Rows.{Block}
use Rattle.row_block.proofs.Stacks.{gives, Given}
use Rattle.row_block.proofs.shelf.Shelf.give.Goals as goal

given : (c : goal.After-self-1) → Given c.self.inside c.clear.new.self (record { places = set c.self.inside.places c.self.inside.count (Some c.clear.new.self); count = c.self.inside.count + 1 })
given c = gives c.self.inside c.clear.new.self c.self.invariant (omega (arith, c.is_full.ensures.room c.if-is_full.false, ap length c.self.view_is)) (ap (λ (z : Block). z.held) c.clear.ensures.cleared)

pub invariant_of-self : goal.invariant_of-self
invariant_of-self c = (given c).stacked

pub returns-clause-kept : goal.returns-clause-kept
returns-clause-kept c less = (refl, (given c).kept ∙ ap (λ (bs : List Block). bs ++ c.clear.new.self ∷ []) c.self.view_is ∙ ap (λ (b : Block). c.args.self.now ++ b ∷ []) c.clear.ensures.cleared)

pub returns-clause-facts : goal.returns-clause-facts
returns-clause-facts c = (given c).stacked.shelf
