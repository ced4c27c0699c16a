-- The sights of a row, one after another.
use Rattle.std.specs.Prelude.{◌≡◌, ℕ, ◌+◌, ◌<◌, List, ◌++◌, length, take, get_or}
use Rattle.std.proofs.Common.{sym, ap, ◌∙◌, subst, arith}
use Rattle.std.proofs.lemmas.List.{get_or-map, length-map}
use Rattle.psi_residue.specs.Parameters.{Parameters}
use Rattle.bundle_cache.specs.Caches.{CacheOf, cached_bins}
use Rattle.psi_bundle.specs.Bodies.{evaluated_bundle, evaluated_row}
use Rattle.psi_bundle.specs.Versions.{Stamped}
use Rattle.sender_core.specs.declared.snapshot.Sight.{Sight}
use Rattle.sender_core.specs.Kept.{Kept, no_bundle, row_of, stamped_of}
use Rattle.sender_core.specs.Sights.{seen_of, seen_row}
use Rattle.query_pool.specs.Caching.{AreReady, IsReady}
use Rattle.query_pool.proofs.Evaluated.{row-more}

-- what is seen of the sight at a place
seen-at : (ss : List (Sight CacheOf)) (i : ℕ) (s : Sight CacheOf) (k : Kept CacheOf) → i < length ss → s ≡ get_or ss i s → get_or (seen_row cached_bins ss) i k ≡ seen_of cached_bins s
seen-at ss i s k lt is = get_or-map (seen_of cached_bins) ss i s k lt ∙ ap (seen_of cached_bins) (sym is)

pub sight-ready : (p : Parameters) (ss : List (Sight CacheOf)) (i : ℕ) (s : Sight CacheOf) → i < length ss → s ≡ get_or ss i s → AreReady p (seen_row cached_bins ss) → IsReady p (seen_of cached_bins s)
sight-ready p ss i s lt is ready = subst (IsReady p) (seen-at ss i s no_bundle lt is) (ready i (omega (arith, lt, length-map ss (seen_of cached_bins))))

-- the ciphertexts of one bundle more
pub sight-more : (p : Parameters) (query : List (List (List ℕ))) (r : ℕ) (ss : List (Sight CacheOf)) (i : ℕ) (s : Sight CacheOf) (cts : List (List (List ℕ))) → i < length ss → s ≡ get_or ss i s
    → (cts ++ evaluated_row p query r (take i (row_of (seen_row cached_bins ss)))) ++ evaluated_bundle p query r (seen_of cached_bins s).bins
    ≡ cts ++ evaluated_row p query r (take (i + 1) (row_of (seen_row cached_bins ss)))
sight-more p query r ss i s cts lt is =
    let ks = seen_row cached_bins ss in
    let k = seen_of cached_bins s in
    let many : length ks ≡ length ss = length-map ss (seen_of cached_bins) in
    let here : get_or (row_of ks) i (stamped_of k) ≡ stamped_of k = get_or-map stamped_of ks i k (stamped_of k) (omega (arith, lt, many)) ∙ ap stamped_of (seen-at ss i s k lt is) in
    ap (λ (u : Stamped). (cts ++ evaluated_row p query r (take i (row_of ks))) ++ evaluated_bundle p query r u.bins) (sym here)
    ∙ row-more p query r i (row_of ks) (stamped_of k) cts (omega (arith, lt, many, length-map ks stamped_of))
