use Rattle.std.proofs.Common.{◌∙◌}
use Rattle.query_codec.proofs.ReplyBodies.{counts_more}
use Rattle.query_codec.proofs.reply.read_counts.Goals as goal

pub loop-row-preserved : goal.loop-row-preserved
loop-row-preserved c = c.in_ok-push.ensures.items ∙ counts_more c.args.body.now c.loop-row.counts.items c.loop-row.row c.row_count.result c.loop-row.invariant c.row_count.ensures
