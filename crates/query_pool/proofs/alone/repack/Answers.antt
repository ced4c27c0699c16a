use Rattle.std.proofs.Common.{ap}
use Rattle.sender_core.specs.Answers.{answer_of_repack}
use Rattle.bundle_cache.specs.Caches.{cached_bins, is_cached_under}
use Rattle.query_pool.proofs.Moving.{not-moved}
use Rattle.query_pool.proofs.alone.repack.Goals as goal

pub returns-in-Ok-clause-unmoved : goal.returns-in-Ok-clause-unmoved
returns-in-Ok-clause-unmoved c =
    let h = c.args.book.now in
    not-moved cached_bins is_cached_under h c.count-place.ensures.consistent _ _ (answer_of_repack c.in-Ok.placed.answer) c.of_repack.result (ap (λ v. v.from) c.in_ok-view.ensures.shown) c.in-Ok.ensures.stepped.answered c.of_repack.ensures.answer
