use Rattle.std.proofs.Common.{arith}
use Rattle.query_codec.proofs.ReplyBodies.{count_more}
use Rattle.query_codec.proofs.reply.bundles.Goals as goal

pub loop-row-preserved : goal.loop-row-preserved
loop-row-preserved c =
    let small = c.row_count.type_inv in
    record {
      done = count_more c.args.body.now c.loop-row.row c.loop-row.total c.row_count.result c.loop-row.invariant.done c.row_count.ensures;
      few = omega (arith, small, c.loop-row.invariant.few);
    }
