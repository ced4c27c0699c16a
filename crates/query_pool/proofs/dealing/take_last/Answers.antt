use Rattle.std.proofs.Common.{rules}
use Rattle.query_pool.proofs.Shares.{taken-from}
use Rattle.query_pool.proofs.dealing.take_last.Goals as goal

pub returns : goal.returns
returns c = record {
  taken = taken-from c.args.replies.now.items c.args.lane c.from.result c.index_mut.result.now c.pop.new.self c.unwrap.result (search rules) c.requires.some (search rules) (search rules);
}
