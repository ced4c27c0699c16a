-- What one unit of a builder's budget gives: for the private parts alone.
use Rattle.std.specs.Prelude.{◌≡◌, ℕ, length, Some}
use Rattle.psi_residue.specs.Parameters.{Parameters}
use Rattle.sender_core.specs.Kept.{Job}
use Rattle.sender_core.specs.Tries.{Tried}
use Rattle.bundle_cache.specs.Caches.{CacheOf, IsBundleBlock}
use Rattle.live_sender.specs.declared.origin.Origin.{Origin}
use Rattle.live_sender.specs.Turns.{Known}
use Rattle.psi_rebuilder.specs.declared.building.Outcome.{Outcome}
use Rattle.psi_rebuilder.specs.declared.building.Outcome.TheVariants as outcome
use Rattle.psi_rebuilder.specs.Building.{IsFetched, NamesUnlessStale, ShowsAll, shelved}

-- the cache is for the job's bundle under these parameters, and its block has the size of a bundle
pub record IsCacheOf (p : Parameters) (t : Job) (c : CacheOf) : Type 0 where
  pub bins : c.bins ≡ t.bins
  pub parameters : c.parameters ≡ p
  pub block : IsBundleBlock p c.block

-- A try is over: its receipt tells all entries that the seat has seen
pub record IsReceipt (v w : Known) (receipt : Tried) : Type 0 where
  pub moment : receipt.at ≡ length w.seen
  pub named : (z : Origin) → v.base ≡ Some z → NamesUnlessStale z w.seen receipt

-- the receipt of a try; or all bundles, each with a cache, after all entries that the seat has seen
abbrev pub IsOutcome : (skip : ℕ) → Known → Known → Outcome → Type 0
IsOutcome skip v w (outcome.Tried receipt) = IsReceipt v w receipt × ((z : Origin) → v.base ≡ Some z → IsFetched z skip w.seen receipt)
IsOutcome skip v w (outcome.Done shown) = (shown.place ≡ length w.seen) × ((z : Origin) → v.base ≡ Some z → ShowsAll z w.seen shown)

-- how many blocks the shelf has then
abbrev pub shelved_after : ℕ → Outcome → ℕ
shelved_after blocks (outcome.Tried receipt) = shelved blocks receipt
shelved_after blocks (outcome.Done shown) = blocks
