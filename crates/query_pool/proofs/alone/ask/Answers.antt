use Rattle.std.proofs.Common.{ap}
use Rattle.noise_ledger.specs.Verdicts.{parameters_of}
use Rattle.bundle_cache.specs.Caches.{CacheOf}
use Rattle.sender_core.specs.Kept.{View}
use Rattle.query_pool.proofs.Ready.{rows-of_book}
use Rattle.query_pool.proofs.alone.ask.Goals as goal

pub evaluate-requires-clause-set : goal.evaluate-requires-clause-set
evaluate-requires-clause-set g c _ _ =
    rows-of_book (parameters_of c.args.params.now) c.args.book.now c.in-Ok.placed.answer.rows c.count-place.ensures.consistent c.requires.same (ap (λ (v : View CacheOf). v.rows) c.in-Ok.ensures.shown)
