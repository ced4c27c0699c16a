use Rattle.sender_core.proofs.Interleaving.{all-interleaved}
use Rattle.sender_core.proofs.laws.interleaved_with.Goals as goal

pub returns : goal.returns
returns g c = all-interleaved g.C.Cached.contents g.C.Cached.is_under
