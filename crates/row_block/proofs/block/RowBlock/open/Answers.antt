use Rattle.row_block.proofs.Layouts.{opens}
use Rattle.row_block.proofs.block.RowBlock.open.Goals as goal

pub returns : goal.returns
returns c = record { empty = opens c.in_ok-words.words c.args.rows c.args.width }
