-- What a follower takes of a leader's history (state machine replication: Schneider, Implementing fault-tolerant services, 1990).
use Rattle.std.specs.Prelude.{◌≡◌, ◌≢◌, ◌⊎◌, ℕ, ◌+◌, ◌-◌, ◌<◌, ◌≤◌, List, ◌++◌, length, take, drop, slice_index_or, slice_get, Some, Result, Ok, Err, ⊤}
use Rattle.psi_residue.specs.Parameters.{Parameters}
use Rattle.psi_bundle.specs.declared.history.Call.{Call}
use Rattle.psi_bundle.specs.declared.history.Call.TheVariants as call
use Rattle.psi_bundle.specs.declared.history.Entry.{Entry}
use Rattle.psi_bundle.specs.Versions.{Version}
use Rattle.psi_bundle.specs.Steps.{step}
use Rattle.psi_bundle.specs.Histories.{replay, IsLegal, IsFitting}
use Rattle.psi_follower.specs.declared.follower.FeedFault.{FeedFault}
use Rattle.psi_follower.specs.declared.follower.FeedFault.TheVariants as fault

-- a follower: the parameters of its set, and the entries that it has
pub record FollowerOf : Type 0 where
  pub parameters : Parameters
  pub entries : List Entry

-- a Repack is of a row that the set has
abbrev pub HasRow : Parameters → Call → Type 0
HasRow p (call.Repack row from) = row < p.rows
HasRow p (call.Put tag label) = ⊤
HasRow p (call.Drop tag) = ⊤
HasRow p call.Ask = ⊤

-- an entry that a set of these parameters can have: a label of the set's length, and a row that it has
abbrev pub IsOfSet : Parameters → Entry → Type 0
IsOfSet p e = IsFitting p e.call × HasRow p e.call

-- Entries from place `first` on are taken: those at places that were kept stand there already, the others follow, and all are legal.
pub record HasTaken (start : Version) (old : List Entry) (first : ℕ) (entries new : List Entry) : Type 0 where
  pub reaches : first ≤ length old
  pub again : take (length old - first) entries ≡ take (length entries) (drop first old)
  pub gained : new ≡ old ++ drop (length old - first) entries
  pub legal : IsLegal start new

-- An entry that cannot stand at a place: another one is kept there, or it is the next one and its answer is not the step's.
abbrev pub IsRefused : Version → List Entry → ℕ → Entry → Type 0
IsRefused start kept place e =
    ((place < length kept) × (slice_index_or kept place e ≢ e)) ⊎ ((place ≡ length kept) × (e.answer ≢ (step (replay start kept) e.call).answer))

-- the entries are taken up to the first one that is refused, which was to stand at this place
pub record IsTakenTo (start : Version) (old : List Entry) (first : ℕ) (entries : List Entry) (place : ℕ) (new : List Entry) : Type 0 where
  pub number : ℕ
  pub refused : Entry
  pub at : slice_get entries number ≡ Some refused
  pub taken : HasTaken start old first (take number entries) new
  pub differs : IsRefused start new place refused
  pub stands : place ≡ first + number

-- Entries fed from place `first` on. All are taken, and the answer is how many entries there are then; or they begin behind what is kept, and nothing changes; or they are taken up to the first one that differs; or memory ran out behind some of them.
abbrev pub IsFed : Version → (old : List Entry) (first : ℕ) (entries : List Entry) → Result ℕ FeedFault → (new : List Entry) → Type 0
IsFed start old first entries (Ok have) new = HasTaken start old first entries new × (have ≡ length new)
IsFed start old first entries (Err (fault.Gap have)) new = (length old < first) × (have ≡ length old) × (new ≡ old)
IsFed start old first entries (Err (fault.Differs place)) new = IsTakenTo start old first entries place new
IsFed start old first entries (Err fault.NoMemory) new = (number : ℕ) × HasTaken start old first (take number entries) new
