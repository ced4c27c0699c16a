use Rattle.std.proofs.Common.{rules}
use Rattle.query_pool.proofs.Shares.{added-to}
use Rattle.query_pool.proofs.dealing.add.Goals as goal

pub returns-clause-added : goal.returns-clause-added
returns-clause-added c =
    added-to c.args.lanes.now.items c.args.lane c.from.result c.index_mut.result.now c.push.new.self c.args.numbered (search rules) c.requires.within (search rules) (search rules)
