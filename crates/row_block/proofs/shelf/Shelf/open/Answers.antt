use Rattle.row_block.proofs.Stacks.{begins, nothing_kept}
use Rattle.row_block.proofs.shelf.Shelf.open.Goals as goal

pub invariant_of-result : goal.invariant_of-result
invariant_of-result c = begins

pub returns : goal.returns
returns c = record { empty = nothing_kept }
