use Rattle.std.proofs.Common.{◌≡◌, ◌≤◌, ◌*◌, map}
use Rattle.std.specs.List.{range_with_len, sum}
use Rattle.query_codec.specs.Replies.{row_count}
use Rattle.query_codec.proofs.reply.bundles.Given as goal

abbrev pub invariant-loop-row : goal.invariant-loop-row
invariant-loop-row l = record {
  done : l.total ≡ sum (map (row_count l.body) (range_with_len 0 l.row));
  few : l.total ≤ 65535 * l.row;
}
