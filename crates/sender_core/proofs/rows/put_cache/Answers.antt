use Rattle.std.proofs.Common.{refl}
use Rattle.sender_core.proofs.Installing.{cache-put}
use Rattle.sender_core.proofs.rows.put_cache.Goals as goal

pub returns : goal.returns
returns g c = cache-put c.args.row.now.items c.args.index c.index_mut-shown.result.now _ c.args.cache c.requires c.index_mut-shown.ensures.value refl
