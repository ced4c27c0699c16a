-- What a builder leaves, told by what its seat knows.
use Rattle.std.specs.Prelude.{◌≡◌, ◌⊎◌, ℕ, ◌+◌, ◌-◌, ◌<◌, ◌≤◌, List, [], ◌∷◌, ◌++◌, length, map, max, Option, Some, None, IsSome}
use Rattle.std.specs.List.{All, AllPairs, fold}
use Rattle.psi_turnstile.specs.Counting.{IsPrefix}
use Rattle.psi_bundle.specs.declared.history.Entry.{Entry}
use Rattle.sender_core.specs.declared.receipt.Now.{Now}
use Rattle.sender_core.specs.declared.task.Task.{Task}
use Rattle.sender_core.specs.declared.install.Bare.TheVariants as bare
use Rattle.sender_core.specs.Kept.{View, Job}
use Rattle.sender_core.specs.Tries.{Tried, job_of}
use Rattle.bundle_cache.specs.Caches.{CacheOf, cached_bins, is_cached_under}
use Rattle.live_sender.specs.declared.origin.Origin.{Origin}
use Rattle.live_sender.specs.Histories.{first_version}
use Rattle.live_sender.specs.Turns.{Known, TakesTurn, ShowsAt, IsBareAt}
use Rattle.live_sender.specs.Tries.{IsNamed}
use Rattle.psi_rebuilder.specs.declared.built.Built.{Built}

-- the seat took no turn, or it went from v to w by turns
abbrev pub HasTurned : Known → Known → Type 0
HasTurned v w = (w ≡ v) ⊎ TakesTurn v w

-- as many receipts as the budget, and no showing of all bundles; or fewer, and all bundles
abbrev pub EndsBy : ℕ → Built → Type 0
EndsBy budget built = ((length built.receipts.items ≡ budget) × (built.all ≡ None)) ⊎ ((length built.receipts.items < budget) × IsSome built.all)

-- the place of a snapshot, if there is one
abbrev pub place_of : Option (View CacheOf) → List ℕ
place_of None = []
place_of (Some shown) = shown.place ∷ []

-- how many entries there were at each try, in their order, and last where all bundles were shown
abbrev pub moments : Built → List ℕ
moments built = map (λ r. r.at) built.receipts.items ++ place_of built.all

-- They never fall, and lie from `low` to `high`
pub record RiseWithin (low high : ℕ) (ms : List ℕ) : Type 0 where
  pub rise : AllPairs (λ m n. m ≤ n) ms
  pub within : All (λ m. (low ≤ m) × (m ≤ high)) ms

-- a receipt that tells nothing in place of its bundle names a bundle, by row, index and stamp, of the replay of its first `at` entries
abbrev pub NamesUnlessStale : Origin → List Entry → Tried → Type 0
NamesUnlessStale z es receipt = receipt.instead ≡ None → IsNamed (first_version z) es receipt

-- the receipt is of a try with this bundle
abbrev pub IsOfJob : Job → Tried → Type 0
IsOfJob t receipt = (receipt.row ≡ t.row) × (receipt.index ≡ t.index) × (receipt.stamp ≡ t.stamp)

-- A receipt's bundle was fetched after a beginning of the history, which the try did not come before: in some book with that history it was,
-- of the bundles without a cache, the one with the number `skip` modulo their number
pub record IsFetched (z : Origin) (skip : ℕ) (es : List Entry) (receipt : Tried) : Type 0 where
  pub seen : List Entry
  pub begins : IsPrefix seen es
  pub before : length seen ≤ receipt.at
  pub task : Task
  pub bare : IsBareAt cached_bins is_cached_under z seen skip (bare.One task)
  pub told : IsOfJob (job_of task) receipt

-- All bundles of the replay of the snapshot's place, each with a cache, which is for it
pub record ShowsAll (z : Origin) (es : List Entry) (s : View CacheOf) : Type 0 where
  pub shown : ShowsAt cached_bins is_cached_under z es s.place s
  pub cached : All (λ row. All (λ k. IsSome k.cache) row) s.rows

-- how many blocks a shelf has behind a try: an installed cache keeps its block, a stale one leaves it there
abbrev pub left_by : Option Now → ℕ → ℕ
left_by None blocks = blocks
left_by (Some now) blocks = blocks + 1

-- how many it has behind a try with a cache that was built in one of its blocks, where it had one
abbrev pub shelved : ℕ → Tried → ℕ
shelved blocks receipt = left_by receipt.instead (blocks - 1)

-- How many blocks it has where memory ran out in a try: as many; or at least the one that a cache which could not be built was to have;
-- or one less, which was that of a cache that could not be put in
abbrev pub IsLeftByFault : (blocks left : ℕ) → Type 0
IsLeftByFault blocks left = (left ≡ blocks) ⊎ ((left ≡ max blocks 1) ⊎ (left ≡ blocks - 1))

-- the same behind some tries, of which there were no more than the budget
abbrev pub IsLeftByTries : (budget blocks left : ℕ) → Type 0
IsLeftByTries budget blocks left = (receipts : List Tried) × (length receipts ≤ budget) × IsLeftByFault (fold shelved blocks receipts) left
