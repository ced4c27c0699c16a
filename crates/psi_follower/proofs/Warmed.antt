-- A follower's book of which caches change.
use Rattle.std.specs.Prelude.{◌≡◌, ℕ, ◌≤◌, List, [], take, Option, Some, None}
use Rattle.std.proofs.Common.{refl, sym, ap, ◌∙◌, subst}
use Rattle.std.proofs.lemmas.Option.{get_or_from_slice_get}
use Rattle.psi_residue.specs.Parameters.{Parameters}
use Rattle.psi_bundle.specs.declared.history.Entry.{Entry}
use Rattle.psi_bundle.specs.Versions.{Stamped, Version, bins_at, row_at}
use Rattle.psi_bundle.specs.Histories.{replay, version_at}
use Rattle.bundle_cache.specs.Caches.{CacheOf, IsCacheable, cached_bins, is_cached_under}
use Rattle.bundle_cache.proofs.Cacheable.{sound-cacheable}
use Rattle.query_pool.proofs.Telling.{replay-parameters}
use Rattle.sender_core.specs.declared.install.Bare.{Bare}
use Rattle.sender_core.specs.declared.install.Bare.TheVariants as bare
use Rattle.sender_core.specs.declared.task.Task.{Task}
use Rattle.sender_core.specs.Tries.{job_of}
use Rattle.sender_core.specs.Given.{IsJobOf}
use Rattle.sender_core.specs.Installs.{installed, IsGivenOf}
use Rattle.sender_core.specs.Stamps.{bundle_at}
use Rattle.sender_core.specs.Kept.{Contents, Job, IsConsistent, start_of, version_of}
use Rattle.sender_core.proofs.Consistency.{versions-keep}
use Rattle.sender_core.proofs.Installing.{installed-either, version-with}
use Rattle.psi_follower.specs.Inner.Warming.{HasOtherCaches}

-- nothing changed
pub same-book : (h : Contents CacheOf) → HasOtherCaches h h
same-book h = record { parameters = refl; start = refl; journal = refl; version = refl }

-- one change after another
pub both-books : (a b c : Contents CacheOf) → HasOtherCaches a b → HasOtherCaches b c → HasOtherCaches a c
both-books a b c f g = record {
  parameters = g.parameters ∙ f.parameters;
  start = g.start ∙ f.start;
  journal = g.journal ∙ f.journal;
  version = g.version ∙ f.version;
}

-- a cache beside its bundle
pub installed-book : (h : Contents CacheOf) (t : Job) (c : CacheOf) → HasOtherCaches h (installed h t c)
installed-book h t c = installed-either cached_bins is_cached_under (HasOtherCaches h) h t c (same-book h) (λ here. record { parameters = refl; start = refl; journal = refl; version = sym (version-with cached_bins is_cached_under h t.row t.index c) })

-- a task of a book's history can be cached
pub job-cacheable : (p : Parameters) (h : Contents CacheOf) (t : Job) → IsConsistent cached_bins is_cached_under h → h.parameters ≡ p → IsJobOf (start_of h) h.journal t → IsCacheable p t.bins
job-cacheable p h t consistent same job =
    let v = version_at (start_of h) h.journal job.0 in
    let none : Stamped = record { stamp = 0; bins = [] } in
    let is : bins_at (row_at v.rows t.row) t.index ≡ t.bins = ap (λ (u : Stamped). u.bins) (get_or_from_slice_get (row_at v.rows t.row) t.index (record { stamp = t.stamp; bins = t.bins }) none job.2) in
    let sound : IsCacheable v.parameters (bins_at (row_at v.rows t.row) t.index) = sound-cacheable v t.row t.index (versions-keep cached_bins is_cached_under h consistent job.0).0 in
    subst (λ (q : Parameters). IsCacheable q t.bins) (replay-parameters (start_of h) (take job.0 h.journal) ∙ same) (subst (IsCacheable v.parameters) is sound)

-- the task that is given
pub given-job : (start : Version) (es : List Entry) (given : Bare CacheOf) (task : Task) → given ≡ bare.One task → IsGivenOf start es given → IsJobOf start es (job_of task)
given-job start es given task is h = subst (IsGivenOf start es) is h
