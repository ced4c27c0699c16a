use Rattle.bundle_cache.proofs.tests.query.Goals as goal

pub set-requires-clause-below : goal.set-requires-clause-below
set-requires-clause-below c = c.rising.ensures c.loop-list.list
