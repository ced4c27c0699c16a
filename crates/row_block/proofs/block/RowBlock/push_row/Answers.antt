use Rattle.std.proofs.Common.{ℕ, ◌<◌, ◌^◌, ap, arith}
use Rattle.std.proofs.lemmas.List.Elements.{All-from_get_or}
use Rattle.row_block.specs.Rows.{Block}
use Rattle.row_block.proofs.Layouts.{held_is, pushes, stays, times_below}
use Rattle.row_block.proofs.block.RowBlock.push_row.Goals as goal

pub push_row-requires : goal.push_row-requires
push_row-requires c =
    let inside = c.self.inside in let held = held_is inside _ c.self.view_is in
    let rows = ap (λ (z : Block). z.rows) c.self.view_is in let width = ap (λ (z : Block). z.width) c.self.view_is in
    let below = times_below inside.held inside.rows inside.width (omega (arith, c.requires.room, held, rows)) in let room = c.self.invariant.room in
    (c.self.invariant.written, omega (arith, below, room, c.requires.width, width))

pub invariant_of-self : goal.invariant_of-self
invariant_of-self c = stays c.self.inside _ c.self.view_is c.self.invariant c.push_row.new.self c.args.row.now c.push_row.ensures.1 c.requires.width c.push_row.ensures.0 c.requires.room (All-from_get_or (λ (x : ℕ). x < 2 ^ 64) c.args.row.now 0 (λ i _. (c.type_inv.row i).fits))

pub returns : goal.returns
returns c = record { pushed = pushes c.self.inside _ c.self.view_is c.self.invariant c.push_row.new.self c.args.row.now c.push_row.ensures.1 c.requires.width }
