-- One request of a lane: what its turns do to the lane's seat, and what its reply tells.
use Rattle.std.specs.Prelude.{◌≡◌, ◌⊎◌, ℕ, ◌≤◌, true, List, [], ◌∷◌, ◌++◌, length, Some, IsSome}
use Rattle.psi_turnstile.specs.Counting.{IsPrefix}
use Rattle.psi_turnstile.specs.Knowing.{Keeps}
use Rattle.psi_bundle.specs.declared.history.Answer.{Answer}
use Rattle.psi_bundle.specs.declared.history.Call.{Call}
use Rattle.psi_bundle.specs.declared.history.Entry.{Entry}
use Rattle.psi_bundle.specs.Histories.{version_at, most_entries}
use Rattle.query_codec.specs.Replies.{reply_body}
use Rattle.psi_frames.specs.declared.reply.Reply.{Reply}
use Rattle.psi_frames.specs.declared.reply.Reply.TheVariants as reply
use Rattle.psi_frames.specs.declared.request.Request.{Request}
use Rattle.psi_frames.specs.Requests.{code_of, is_repack, journal_full}
use Rattle.psi_frames.specs.Served.{Exchange, HasPlaceOrIsFull, IsEvaluated, IsRecorded, all_places, answer_of, body_of, from_of, place_of}
use Rattle.live_sender.specs.declared.origin.Origin.{Origin}
use Rattle.live_sender.specs.Histories.{first_version, IsHistory}
use Rattle.live_sender.specs.Turns.{Known, GoesOn}
use Rattle.query_pool.specs.Lanes.{IsFromBehind, IsFullWithin, IsPlacedWithin}

-- the seat goes on from v to w, along a history of the base that it has
abbrev pub HasGoneOn : Known → Known → Type 0
HasGoneOn v w = (z : Origin) × (v.base ≡ Some z) × GoesOn z v w

-- The call is the last entry that the seat has seen, with its place as the last own one; the reply tells place and answer.
pub record IsToldEntry (v w : Known) (c : Call) (told : Reply) : Type 0 where
  pub met : List Entry
  pub answer : Answer
  pub begins : IsPrefix v.seen met
  pub seen : w.seen ≡ met ++ record { call = c; answer = answer } ∷ []
  pub own : w.own ≡ v.own ++ length met ∷ []
  pub at : place_of told ≡ Some (length met)
  pub tells : answer_of told ≡ Some answer

-- The journal has its last entry, the seat made none, and the reply says that it is full.
pub record IsToldFull (v w : Known) (told : Reply) : Type 0 where
  pub stayed : w.own ≡ v.own
  pub full : most_entries ≤ length w.seen
  pub tells : told ≡ reply.Refused journal_full

-- what the reply to a call tells
abbrev pub Tells : Known → Known → Call → Reply → Type 0
Tells v w c told = IsToldEntry v w c told ⊎ IsToldFull v w told

-- the `from` of a reply is behind what the seat had seen, and not behind the reply's own place
abbrev pub IsToldFrom : Known → Reply → Type 0
IsToldFrom v told = (from x : ℕ) → from_of told ≡ Some from → place_of told ≡ Some x → (length v.seen ≤ from) × (from ≤ x)

-- a reply to a query tells the body of the set as it stood at its place
abbrev pub IsBodyAt : Origin → List Entry → (query : List (List (List ℕ))) → Reply → Type 0
IsBodyAt z es query told =
    (p : ℕ) (body : List ℕ) → place_of told ≡ Some p → body_of told ≡ Some body → body ≡ reply_body z.parameters (version_at (first_version z) es p).rows query

-- a request of a lane with its reply
abbrev pub lane_exchange : Request → Reply → Exchange
lane_exchange r told = record { round = 0; request = r; reply = told }

-- One exchange takes the seat from v to w.
pub record IsOne (z : Origin) (v w : Known) (e : Exchange) : Type 0 where
  pub gone : GoesOn z v w
  pub own : w.own ≡ v.own ++ all_places (e ∷ [])
  pub coded : (code : ℕ) → code_of e.request ≡ Some code → e.reply ≡ reply.Refused code
  pub other : HasPlaceOrIsFull e
  pub repack : is_repack e.request ≡ true → IsSome (place_of e.reply) → IsSome (from_of e.reply)
  pub recorded : IsRecorded w.seen e
  pub evaluated : IsEvaluated z.parameters (first_version z) w.seen e
  pub placed : IsPlacedWithin v w e
  pub full : IsFullWithin w e
  pub since : IsFromBehind v e
