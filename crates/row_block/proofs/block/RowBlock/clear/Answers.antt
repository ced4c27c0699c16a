use Rattle.row_block.proofs.Layouts.{clears}
use Rattle.row_block.proofs.block.RowBlock.clear.Goals as goal

pub returns : goal.returns
returns c = record { cleared = clears c.self.inside _ c.self.view_is }
