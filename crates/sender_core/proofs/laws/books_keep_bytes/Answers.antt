use Rattle.sender_core.proofs.Consistency.{versions-keep}
use Rattle.sender_core.proofs.laws.books_keep_bytes.Goals as goal

pub returns : goal.returns
returns g c = versions-keep g.C.Cached.contents g.C.Cached.is_under
