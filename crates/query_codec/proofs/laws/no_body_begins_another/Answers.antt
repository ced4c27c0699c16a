use Rattle.query_codec.proofs.Apart.{queries-apart, replies-apart}
use Rattle.query_codec.proofs.laws.no_body_begins_another.Goals as goal

pub returns-clause-queries : goal.returns-clause-queries
returns-clause-queries c = queries-apart

pub returns-clause-replies : goal.returns-clause-replies
returns-clause-replies c = replies-apart
