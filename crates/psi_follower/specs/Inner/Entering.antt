-- What the private parts of a feed do.
use Rattle.std.specs.Prelude.{◌≡◌, ◌⊎◌, ℕ, ◌≤◌, ◌<◌, List, [], ◌∷◌, ◌++◌, length, take, slice_index_or, Result, Ok, Err, ⊤}
use Rattle.psi_bundle.specs.declared.member.Member.{Member}
use Rattle.psi_bundle.specs.declared.history.Call.{Call}
use Rattle.psi_bundle.specs.declared.history.Call.TheVariants as call
use Rattle.psi_bundle.specs.declared.history.Entry.{Entry}
use Rattle.psi_bundle.specs.Versions.{Version, greatest_stamp}
use Rattle.psi_bundle.specs.Shows.{packed_bins}
use Rattle.psi_bundle.specs.Steps.{step}
use Rattle.psi_bundle.specs.Histories.{replay}
use Rattle.bundle_cache.specs.Caches.{CacheOf}
use Rattle.sender_core.specs.Kept.{Contents, kept_row, row_of}
use Rattle.psi_follower.specs.declared.follower.FeedFault.{FeedFault}
use Rattle.psi_follower.specs.declared.follower.FeedFault.TheVariants as fault
use Rattle.psi_follower.specs.Taking.{HasTaken, IsRefused, IsTakenTo}

-- entries taken, or up to the first one that differs, or some of them
abbrev pub AreTaken : Version → (old : List Entry) (first : ℕ) → List Entry → Result (Unit {0}) FeedFault → (new : List Entry) → Type 0
AreTaken start old first entries (Ok done) new = HasTaken start old first entries new
AreTaken start old first entries (Err (fault.Gap have)) new = ⊥
AreTaken start old first entries (Err (fault.Differs place)) new = IsTakenTo start old first entries place new
AreTaken start old first entries (Err fault.NoMemory) new = (number : ℕ) × HasTaken start old first (take number entries) new

-- the entry stands at the place already
abbrev pub StandsAt : (old : List Entry) (place : ℕ) → Entry → (new : List Entry) → Type 0
StandsAt old place e new = (place < length old) × (slice_index_or old place e ≡ e) × (new ≡ old)

-- the entry is the next one, with the step's answer
abbrev pub IsNext : Version → (old : List Entry) (place : ℕ) → Entry → (new : List Entry) → Type 0
IsNext start old place e new = (place ≡ length old) × (e.answer ≡ (step (replay start old) e.call).answer) × (new ≡ old ++ e ∷ [])

-- one entry taken, or refused
abbrev pub IsEntered : Version → (old : List Entry) (place : ℕ) → Entry → Result (Unit {0}) FeedFault → (new : List Entry) → Type 0
IsEntered start old place e (Ok done) new = StandsAt old place e new ⊎ IsNext start old place e new
IsEntered start old place e (Err (fault.Gap have)) new = ⊥
IsEntered start old place e (Err (fault.Differs at)) new = (at ≡ place) × IsRefused start old place e × (new ≡ old)
IsEntered start old place e (Err fault.NoMemory) new = new ≡ old

-- what a call's row is packed into: for a Repack of a row without a stamp above `from` the first fit of its members
abbrev pub IsPacking : Contents CacheOf → Call → List (List (List Member)) → Type 0
IsPacking h (call.Repack row from) packed = greatest_stamp (row_of (kept_row h.rows row)) ≤ from → packed ≡ packed_bins h.parameters.capacity (row_of (kept_row h.rows row))
IsPacking h (call.Put tag label) packed = ⊤
IsPacking h (call.Drop tag) packed = ⊤
IsPacking h call.Ask packed = ⊤
