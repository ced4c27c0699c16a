use Rattle.std.proofs.Common.{ap, ◌∙◌}
use Rattle.noise_ledger.specs.Verdicts.{parameters_of}
use Rattle.bundle_cache.specs.Caches.{CacheOf}
use Rattle.sender_core.specs.Kept.{View}
use Rattle.query_pool.proofs.Ready.{rows-of_book}
use Rattle.psi_follower.proofs.answering.evaluated.Goals as goal

pub evaluate-requires-clause-set : goal.evaluate-requires-clause-set
evaluate-requires-clause-set g c _ _ =
    rows-of_book (parameters_of c.args.params.now) c.warm_all.new.book c.in_ok-shown.shown.rows c.in_ok-shown.ensures.consistent (c.warm_all.ensures.kept.parameters ∙ c.requires.same) (ap (λ (v : View CacheOf). v.rows) c.in_ok-shown.ensures.shown)
