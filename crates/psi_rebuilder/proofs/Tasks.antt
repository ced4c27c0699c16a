-- What a fetch gives, told by the history that the seat has seen.
use Rattle.std.proofs.Common.{◌≡◌, ℕ, ◌+◌, List, [], ◌∷◌, ◌++◌, length, Option, Some, None, refl, sym, ap, ◌∙◌, subst}
use Rattle.std.specs.List.{All}
use Rattle.std.specs.Prelude.{IsSome}
use Rattle.std.proofs.lemmas.List.Elements.{All-cons, All-nil}
use Rattle.std.proofs.lemmas.Option.{get_or_from_slice_get}
use Rattle.psi_residue.specs.Parameters.{Parameters}
use Rattle.psi_bundle.specs.declared.history.Entry.{Entry}
use Rattle.psi_bundle.specs.Versions.{Stamped, Version, bins_at, row_at}
use Rattle.sender_core.specs.declared.install.Bare.{Bare}
use Rattle.sender_core.specs.declared.install.Bare.TheVariants as bare
use Rattle.sender_core.specs.declared.task.Task.{Task}
use Rattle.sender_core.specs.Tries.{job_of}
use Rattle.sender_core.specs.Given.{IsJobOf}
use Rattle.sender_core.specs.Kept.{Contents, Job, Kept, View, version_of}
use Rattle.sender_core.specs.Given.{bare_at, bare_row, bare_rows, unless_cached}
use Rattle.sender_core.specs.Stamps.{bundle_at}
use Rattle.bundle_cache.specs.Caches.{CacheOf, IsCacheable, cached_bins, is_cached_under}
use Rattle.bundle_cache.proofs.Cacheable.{sound-cacheable}
use Rattle.live_sender.specs.declared.origin.Origin.{Origin}
use Rattle.live_sender.specs.Histories.{IsBookOf, first_version}
use Rattle.live_sender.specs.Turns.{IsGivenAt, ShowsAt}
use Rattle.live_sender.specs.Tries.{IsStanding}
use Rattle.live_sender.proofs.Books.{leads, same-parameters}
use Rattle.psi_rebuilder.specs.Building.{ShowsAll}

-- ---- a task can be cached

pub task-cacheable : (z : Origin) (es : List Entry) (p : Parameters) (h : Contents CacheOf) (t : Job) → IsBookOf cached_bins is_cached_under z es h → z.parameters ≡ p → IsStanding (first_version z) es t
    → IsCacheable p t.bins
task-cacheable z es p h t book same stands =
    let rows = (version_of h).rows in
    let there : bundle_at rows t.row t.index ≡ Some (record { stamp = t.stamp; bins = t.bins }) =
    ap (λ (v : Version). bundle_at v.rows t.row t.index) (sym (leads cached_bins is_cached_under z es h book)) ∙ stands in
    let none : Stamped = record { stamp = 0; bins = [] } in
    let is : bins_at (row_at rows t.row) t.index ≡ t.bins = ap (λ (u : Stamped). u.bins) (get_or_from_slice_get (row_at rows t.row) t.index (record { stamp = t.stamp; bins = t.bins }) none there) in
    let sound : IsCacheable h.parameters (bins_at (row_at rows t.row) t.index) = sound-cacheable (version_of h) t.row t.index book.consistent.sound in
    subst (λ (q : Parameters). IsCacheable q t.bins) (same-parameters cached_bins is_cached_under z es h book ∙ same) (subst (IsCacheable h.parameters) is sound)

-- ---- where no bundle is without a cache, each has one

neither : {A : Type 0} (xs ys : List A) → xs ++ ys ≡ [] → (xs ≡ []) × (ys ≡ [])
neither [] ys e = (refl, e)
neither (x ∷ xs) ys e = absurd (cc)

cached-one : (c : Option CacheOf) (t : Job) → unless_cached c t ≡ [] → IsSome c
cached-one None t e = absurd (cc)
cached-one (Some c) t e = refl

cached-row : (r u : ℕ) (ks : List (Kept CacheOf)) → bare_row r u ks ≡ [] → All (λ k. IsSome k.cache) ks
cached-row r u [] e = All-nil (λ k. IsSome k.cache)
cached-row r u (k ∷ ks) e =
    let parts = neither (bare_at r u k) (bare_row r (u + 1) ks) e in
    All-cons (λ k. IsSome k.cache) k ks (cached-one k.cache (record { row = r; index = u; stamp = k.stamp; bins = k.bins }) parts.0) (cached-row r (u + 1) ks parts.1)

pub cached-rows : (r : ℕ) (rows : List (List (Kept CacheOf))) → bare_rows r rows ≡ [] → All (λ row. All (λ k. IsSome k.cache) row) rows
cached-rows r [] e = All-nil (λ row. All (λ k. IsSome k.cache) row)
cached-rows r (row ∷ rows) e =
    let parts = neither (bare_row r 0 row) (bare_rows (r + 1) rows) e in
    All-cons (λ row. All (λ k. IsSome k.cache) row) row rows (cached-row r 0 row parts.0) (cached-rows (r + 1) rows parts.1)

pub shows-all : (z : Origin) (es : List Entry) (place : ℕ) (s : View CacheOf) → ShowsAt cached_bins is_cached_under z es place s → bare_rows 0 s.rows ≡ [] → ShowsAll z es s
shows-all z es place s shown none = record {
  shown = subst (λ (n : ℕ). ShowsAt cached_bins is_cached_under z es n s) (sym shown.at) shown;
  cached = cached-rows 0 s.rows none;
}

-- ---- what a fetch gives

module _ (z : Origin) (es : List Entry) (given : Bare CacheOf) where
  abbrev IsGiven : Bare CacheOf → Type 0
  IsGiven b = IsGivenAt cached_bins is_cached_under z es b

  pub given-one : (task : Task) → given ≡ bare.One task → IsGiven given → IsStanding (first_version z) es (job_of task) × IsJobOf (first_version z) es (job_of task)
  given-one task is h = subst IsGiven is h

  pub given-all : (shown : View CacheOf) → given ≡ bare.All shown → IsGiven given → (shown.place ≡ length es) × ShowsAll z es shown
  given-all shown is h =
      let all : ShowsAt cached_bins is_cached_under z es (length es) shown × (bare_rows 0 shown.rows ≡ []) = subst IsGiven is h in
      (all.0.at, shows-all z es (length es) shown all.0 all.1)
