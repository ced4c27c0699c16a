use Rattle.std.proofs.Common.{◌-◌, set, sym, ◌∙◌, arith}
use Rattle.row_block.proofs.Stacks.{takes, Taken}
use Rattle.row_block.proofs.shelf.Shelf.take.Goals as goal

taken : (c : goal.After-take) → Taken c.self.inside (record { places = set c.self.inside.places (c.self.inside.count - 1) c.take.new.self; count = c.self.inside.count - 1 }) c.take.result
taken c = takes c.self.inside c.self.invariant (c.self.inside.count - 1) (omega (arith, c.if-self-eq0.false)) c.take.new.self c.take.result c.index-self-self.result c.take.ensures.after c.take.ensures.value

pub invariant_of-self : goal.invariant_of-self
invariant_of-self c = (taken c).stacked

pub returns-clause-none : goal.returns-clause-none
returns-clause-none c = rw (taken c).is tt

pub returns-clause-taken : goal.returns-clause-taken
returns-clause-taken c = let t = taken c in rw t.is (sym c.self.view_is ∙ t.kept)

pub returns-clause-cleared : goal.returns-clause-cleared
returns-clause-cleared c = let t = taken c in rw t.is t.none

pub returns-clause-facts : goal.returns-clause-facts
returns-clause-facts c = (taken c).stacked.shelf
