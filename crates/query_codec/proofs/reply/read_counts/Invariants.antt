use Rattle.std.proofs.Common.{◌≡◌, map}
use Rattle.std.specs.List.{range_with_len}
use Rattle.query_codec.specs.Replies.{row_count}
use Rattle.query_codec.proofs.reply.read_counts.Given as goal

abbrev pub invariant-loop-row : goal.invariant-loop-row
invariant-loop-row l = l.counts.items ≡ map (row_count l.body) (range_with_len 0 l.row)
