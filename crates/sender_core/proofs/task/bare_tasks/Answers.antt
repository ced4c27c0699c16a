use Rattle.std.proofs.Common.{ap, length, arith}
use Rattle.sender_core.specs.Shown.{kept_of_rows}
use Rattle.sender_core.proofs.Counting.{length-row}
use Rattle.sender_core.proofs.RowLists.{length-read}
use Rattle.sender_core.proofs.task.bare_tasks.Goals as goal

pub push_row-requires : goal.push_row-requires
push_row-requires g c =
    let read = length-read c.args.rows.now c.loop-row.row c.index-rows-row.result c.loop-row-test.true c.index-rows-row.is in
    omega (arith, read, length-row (kept_of_rows c.args.rows.now) c.loop-row.row, c.requires.few_bundles, ap length c.deref.ensures.value)
