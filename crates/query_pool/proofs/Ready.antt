-- What a snapshot of a sound set shows can be evaluated.
use Rattle.std.specs.Prelude.{◌≡◌, ℕ, zero, suc, ◌+◌, ◌*◌, ◌≤◌, List, [], ◌∷◌, length}
use Rattle.std.specs.List.{sum}
use Rattle.std.proofs.Common.{refl, sym, ap, ◌∙◌, subst, arith}
use Rattle.std.proofs.lemmas.List.{length-map}
use Rattle.std.proofs.lemmas.List.Sums.{sum_by-cons}
use Rattle.psi_residue.specs.Parameters.{Parameters}
use Rattle.bundle_cache.specs.Caches.{CacheOf, IsCacheable, cached_bins, is_cached_under}
use Rattle.bundle_cache.proofs.Cacheable.{sound-cacheable}
use Rattle.psi_bundle.specs.Bodies.{bundle_counts}
use Rattle.psi_bundle.specs.Versions.{Row, bins_at, planes_of, row_at}
use Rattle.sender_core.specs.Kept.{Kept, IsConsistent, Contents, kept_at, kept_row, row_of, rows_of, stamped_of, version_of}
use Rattle.sender_core.specs.declared.snapshot.Sight.{Sight}
use Rattle.sender_core.specs.Sights.{seen_of, seen_row}
use Rattle.sender_core.proofs.RowLists.{row-alone}
use Rattle.query_pool.specs.Caching.{AreReady, AreRowsOfSet, HasOwnCache}

-- the bins of a bundle of a row
bins-kept : (ks : List (Kept CacheOf)) (u : ℕ) → bins_at (row_of ks) u ≡ (kept_at ks u).bins
bins-kept [] u = refl
bins-kept (k ∷ ks) zero = refl
bins-kept (k ∷ ks) (suc u) = bins-kept ks u

pub ready : (p : Parameters) (rows : List (List (Kept CacheOf))) → AreRowsOfSet p rows → (r : ℕ) → AreReady p (kept_row rows r)
ready p rows h r u lt = record {
  cacheable =
      subst (λ (q : Parameters). IsCacheable q (kept_at (kept_row rows r) u).bins) h.under
      (subst (IsCacheable h.set.parameters) (here h.shown) (sound-cacheable h.set r u h.sound));
  cache = h.caches r u;
}
  where
    here : {of_set : List Row} → of_set ≡ rows_of rows → bins_at (row_at of_set r) u ≡ (kept_at (kept_row rows r) u).bins
    here shown = ap (λ (rs : List Row). bins_at (row_at rs r) u) shown ∙ ap (λ (row : Row). bins_at row u) (row-alone rows r) ∙ bins-kept (kept_row rows r) u

-- there are as many rows as the parameters say
pub number-of_rows : (p : Parameters) (rows : List (List (Kept CacheOf))) → AreRowsOfSet p rows → length rows ≡ p.rows
number-of_rows p rows h = sym (length-map rows row_of) ∙ ap (λ (rs : List Row). length rs) (sym h.shown) ∙ h.sound.each_row ∙ ap (λ (q : Parameters). q.rows) h.under

-- and few planes
pub few-planes : (p : Parameters) (rows : List (List (Kept CacheOf))) → AreRowsOfSet p rows → planes_of p (rows_of rows) ≤ 64
few-planes p rows h = subst (λ (q : Parameters). planes_of q (rows_of rows) ≤ 64) h.under (subst (λ (rs : List Row). planes_of h.set.parameters rs ≤ 64) h.shown h.sound.limits.0)

-- so no row has more than 64 bundles
row-within : (rows : List (List (Kept CacheOf))) (r : ℕ) → length (kept_row rows r) ≤ sum (bundle_counts (rows_of rows))
row-within [] r = omega arith
row-within (row ∷ rows) zero =
    let count = sum_by-cons (λ (m : ℕ). m) (length (row_of row)) (bundle_counts (rows_of rows)) in
    omega (arith, length-map row stamped_of, count)
row-within (row ∷ rows) (suc r) =
    let count = sum_by-cons (λ (m : ℕ). m) (length (row_of row)) (bundle_counts (rows_of rows)) in
    omega (arith, row-within rows r, count)

pub few-bundles : (p : Parameters) (rows : List (List (Kept CacheOf))) → AreRowsOfSet p rows → (r : ℕ) → length (kept_row rows r) ≤ 64
few-bundles p rows h r = few (sum (bundle_counts (rows_of rows))) p.units (row-within rows r) (few-planes p rows h) where
  few : (n units : ℕ) → length (kept_row rows r) ≤ n → n * (1 + units) ≤ 64 → length (kept_row rows r) ≤ 64
  few n units within planes = omega (arith, within, planes)

-- the sights of a row
pub length-sights : (ss : List (Sight CacheOf)) (rows : List (List (Kept CacheOf))) (r : ℕ) → seen_row cached_bins ss ≡ kept_row rows r → length ss ≡ length (kept_row rows r)
length-sights ss rows r shown = sym (length-map ss (seen_of cached_bins)) ∙ ap (λ (ks : List (Kept CacheOf)). length ks) shown

pub length-row_at : (ss : List (Sight CacheOf)) (rows : List (List (Kept CacheOf))) (r : ℕ) → seen_row cached_bins ss ≡ kept_row rows r → length ss ≡ length (row_at (rows_of rows) r)
length-row_at ss rows r shown = length-sights ss rows r shown ∙ sym (length-map (kept_row rows r) stamped_of) ∙ ap (λ (row : Row). length row) (sym (row-alone rows r))

-- the rows of a book are those of its version
pub rows-of_book : (p : Parameters) (h : Contents CacheOf) (rows : List (List (Kept CacheOf))) → IsConsistent cached_bins is_cached_under h → h.parameters ≡ p → rows ≡ h.rows → AreRowsOfSet p rows
rows-of_book p h rows consistent same shown = record {
  set = version_of h;
  sound = consistent.sound;
  under = same;
  shown = ap (λ (rs : List (List (Kept CacheOf))). rows_of rs) (sym shown);
  caches = λ r u.
      subst (λ (rs : List (List (Kept CacheOf))). HasOwnCache p (kept_at (kept_row rs r) u)) (sym shown)
      (subst (λ (q : Parameters). HasOwnCache q (kept_at (kept_row h.rows r) u)) same (consistent.caches r u));
}
