-- A cache that comes back, told by the history that the seat has seen.
use Rattle.std.specs.Prelude.{◌≡◌, ◌≢◌, ◌≤◌, List, length, Option, Some, None, ⊤}
use Rattle.psi_bundle.specs.declared.member.Member.{Member}
use Rattle.psi_bundle.specs.declared.history.Entry.{Entry}
use Rattle.psi_bundle.specs.Versions.{Version, row_at}
use Rattle.psi_bundle.specs.Histories.{replay, version_at}
use Rattle.sender_core.specs.declared.receipt.Now.{Now}
use Rattle.sender_core.specs.declared.receipt.Now.TheVariants as now
use Rattle.sender_core.specs.declared.install.Install.{Install}
use Rattle.sender_core.specs.declared.install.Install.TheVariants as install
use Rattle.sender_core.specs.Kept.{Job}
use Rattle.sender_core.specs.Stamps.{bundle_at}
use Rattle.sender_core.specs.Tries.{Tried}

-- the job's bundle stands at its row and index after these entries, with its stamp
abbrev pub IsStanding : Version → List Entry → Job → Type 0
IsStanding start es t = bundle_at (replay start es).rows t.row t.index ≡ Some (record { stamp = t.stamp; bins = t.bins })

-- what the job's row has after these entries in place of the job's bundle: fewer bundles, or one with another stamp
abbrev pub HasInstead : Version → List Entry → Job → Now → Type 0
HasInstead start es t (now.Gone len) = (len ≡ length (row_at (replay start es).rows t.row)) × (len ≤ t.index)
HasInstead start es t (now.Stamp stamp) = (stamp ≢ t.stamp) × ((bins : List (List Member)) × (bundle_at (replay start es).rows t.row t.index ≡ Some (record { stamp = stamp; bins = bins })))

-- the receipt of a try with this job after these entries
abbrev pub receipt_at : List Entry → Job → Option Now → Tried
receipt_at es t instead = record { row = t.row; index = t.index; stamp = t.stamp; at = length es; instead = instead }

-- Installed exactly where the job's bundle stands; and Stale, with the cache, exactly where something else does
abbrev pub IsTriedAt : {C : Type 0} → Version → List Entry → Job → C → Install C → Type 0
IsTriedAt start es t c (install.Installed receipt) = (receipt ≡ receipt_at es t None) × IsStanding start es t
IsTriedAt start es t c (install.Stale receipt cache) = (cache ≡ c) × ((instead : Now) × (receipt ≡ receipt_at es t (Some instead)) × HasInstead start es t instead)

-- a receipt names a bundle, by row, index and stamp, of the replay of its first `at` entries
abbrev pub IsNamed : Version → List Entry → Tried → Type 0
IsNamed start es receipt = (receipt.at ≤ length es) × ((bins : List (List Member)) × (bundle_at (version_at start es receipt.at).rows receipt.row receipt.index ≡ Some (record { stamp = receipt.stamp; bins = bins })))

-- the receipt of a cache that was put in does
abbrev pub NamesIfInstalled : {C : Type 0} → Version → List Entry → Install C → Type 0
NamesIfInstalled start es (install.Installed receipt) = IsNamed start es receipt
NamesIfInstalled start es (install.Stale receipt cache) = ⊤
