use Rattle.std.proofs.Common.{◌∙◌, arith}
use Rattle.row_block.proofs.Layouts.{held_is, row_is, times_below}
use Rattle.row_block.proofs.block.RowBlock.row.Goals as goal

pub overflow_mul-k : goal.overflow_mul-k
overflow_mul-k c =
    let inside = c.self.inside in let held = held_is inside _ c.self.view_is in
    let below = times_below c.args.k inside.held inside.width (omega (arith, c.requires.held, held)) in let written = c.self.invariant.written in let fits = inside.words.fits in let little = inside.words.small.1 in
    record { fits = omega (arith, below, written, fits, little) }

pub row-requires : goal.row-requires
row-requires c =
    let inside = c.self.inside in let held = held_is inside _ c.self.view_is in
    let below = times_below c.args.k inside.held inside.width (omega (arith, c.requires.held, held)) in let written = c.self.invariant.written in omega (arith, below, written)

pub returns : goal.returns
returns c = record { row = c.row.ensures ∙ row_is c.self.inside _ c.args.k c.self.view_is c.requires.held }
