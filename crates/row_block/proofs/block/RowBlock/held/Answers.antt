use Rattle.row_block.proofs.Layouts.{held_is, is_block}
use Rattle.row_block.proofs.block.RowBlock.held.Goals as goal

pub returns-clause-count : goal.returns-clause-count
returns-clause-count c = held_is c.self.inside _ c.self.view_is

pub returns-clause-facts : goal.returns-clause-facts
returns-clause-facts c = is_block c.self.inside _ c.self.view_is c.self.invariant
