use Rattle.std.proofs.Common.{◌∙◌, length, ap, arith}
use Rattle.bundle_cache.proofs.Pushing.{rows-wide, rows-before, rows-number, rows-more}
use Rattle.bundle_cache.proofs.rows.push_columns.Goals as goal

pub push_all-requires-clause-words : goal.push_all-requires-clause-words
push_all-requires-clause-words g c = rows-wide c.args.columns.now c.loop-done.done c.min-size.result c.deref.result.now (c.deref.ensures.value ∙ c.in_ok-rows.ensures)

pub push_all-requires-clause-room : goal.push_all-requires-clause-room
push_all-requires-clause-room g c =
    let made = rows-number c.args.columns.now c.loop-done.done c.min-size.result c.deref.result.now (c.deref.ensures.value ∙ c.in_ok-rows.ensures) in
    let before = ap (λ b. length b.held) c.loop-done.invariant.rows ∙ rows-before c.args.block.now.held c.args.columns.now c.loop-done.done in
    let room = ap (λ b. b.rows) c.loop-done.invariant.rows in
    omega (arith, made, before, room, c.requires.room, c.min-size.ensures, c.loop-done.invariant.within)

pub loop-done-preserved : goal.loop-done-preserved
loop-done-preserved g c = record {
  within = omega (arith, c.min-size.ensures, c.loop-done.invariant.within);
  rows =
      rows-more c.args.block.now c.loop-done.block c.push_all.new.block c.args.columns.now c.loop-done.done c.min-size.result c.deref.result.now
      c.loop-done.invariant.rows (c.deref.ensures.value ∙ c.in_ok-rows.ensures) c.push_all.ensures;
}
