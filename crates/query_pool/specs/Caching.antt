-- Bundles with caches, as an evaluation finds them.
use Rattle.std.specs.Prelude.{◌≡◌, ℕ, ◌<◌, List, length, IsSome}
use Rattle.psi_residue.specs.Parameters.{Parameters}
use Rattle.noise_ledger.specs.Verdicts.{ArePassed, parameters_of}
use Rattle.psi_bundle.specs.Versions.{Version, IsSound}
use Rattle.bundle_cache.specs.Caches.{CacheOf, IsCacheable, cached_bins, is_cached_under}
use Rattle.bundle_cache.specs.Queries.{ScratchOf}
use Rattle.query_pool.specs.declared.evaluation.Query.{Query}
use Rattle.sender_core.specs.Kept.{Kept, CacheSuits, kept_at, kept_row, rows_of}

-- the cache beside a bundle, if there is one, is for the bundle under these parameters
abbrev pub HasOwnCache : Parameters → Kept CacheOf → Type 0
HasOwnCache p k = CacheSuits cached_bins is_cached_under p k

-- The rows of bundles of a sound set with these parameters, where each cache is for the bundle that it stands at.
pub record AreRowsOfSet (p : Parameters) (rows : List (List (Kept CacheOf))) : Type 0 where
  pub set : Version
  pub sound : IsSound set
  pub under : set.parameters ≡ p
  pub shown : set.rows ≡ rows_of rows
  pub caches : (r u : ℕ) → HasOwnCache p (kept_at (kept_row rows r) u)

-- A bundle that can be evaluated: a cache can be made for it, and the one that stands there is for it.
pub record IsReady (p : Parameters) (k : Kept CacheOf) : Type 0 where
  pub cacheable : IsCacheable p k.bins
  pub cache : HasOwnCache p k

-- a row of such bundles
abbrev pub AreReady : Parameters → List (Kept CacheOf) → Type 0
AreReady p row = (u : ℕ) → u < length row → IsReady p (kept_at row u)

-- what a lane evaluates with: of these parameters, and with its block
pub record IsScratch (p : Parameters) (scratch : ScratchOf) : Type 0 where
  pub under : scratch.parameters ≡ p
  pub block : IsSome scratch.block

-- a query whose powers are of its parameters, which are passed ones
pub record IsLoaded (q : Query) : Type 0 where
  pub passed : ArePassed (parameters_of q.params)
  pub under : q.powers.parameters ≡ parameters_of q.params
