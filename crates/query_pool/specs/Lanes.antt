-- What one lane of a round does through its own seat: it answers its requests one after another, while other lanes make entries of their own.
use Rattle.std.specs.Prelude.{◌≡◌, ℕ, ◌<◌, ◌≤◌, true, List, [], ◌∷◌, ◌++◌, length, map, Some, IsSome}
use Rattle.std.specs.List.{All, AllPairs}
use Rattle.psi_turnstile.specs.Counting.{IsPrefix}
use Rattle.psi_turnstile.specs.Knowing.{Keeps}
use Rattle.psi_bundle.specs.Histories.{most_entries}
use Rattle.psi_frames.specs.declared.reply.Reply.{Reply}
use Rattle.psi_frames.specs.declared.reply.Reply.TheVariants as reply
use Rattle.psi_frames.specs.declared.request.Request.{Request}
use Rattle.psi_frames.specs.Requests.{is_repack, journal_full}
use Rattle.psi_frames.specs.Served.{Exchange, AreRefusedByCode, HasPlaceOrIsFull, IsEvaluated, IsRecorded, PlacesRise, SeesOwn, StaysFull, addressed, all_places, exchanges, from_of, place_of}
use Rattle.live_sender.specs.declared.origin.Origin.{Origin}
use Rattle.live_sender.specs.Histories.{first_version, IsHistory}
use Rattle.live_sender.specs.Turns.{Known}
use Rattle.query_pool.specs.declared.lane.Numbered.{Numbered}

-- the requests of some numbered ones
abbrev pub asked : List Numbered → List Request
asked ns = map (λ n. n.request) ns

-- the requests of a lane with their replies, one by one; the round's number does not matter and is 0
abbrev pub lane_exchanges : List Request → List Reply → List Exchange
lane_exchanges requests replies = exchanges (requests ∷ []) (addressed requests replies)

-- the place of a reply is behind what the seat had seen, and within what it has seen
abbrev pub IsPlacedWithin : (v w : Known) → Exchange → Type 0
IsPlacedWithin v w e = (x : ℕ) → place_of e.reply ≡ Some x → (length v.seen ≤ x) × (x < length w.seen)

-- the `from` of a reply is behind what the seat had seen, and not behind the reply's own place
abbrev pub IsFromBehind : Known → Exchange → Type 0
IsFromBehind v e = (from x : ℕ) → from_of e.reply ≡ Some from → place_of e.reply ≡ Some x → (length v.seen ≤ from) × (from ≤ x)

-- a reply that the journal is full comes where it has its last entry
abbrev pub IsFullWithin : Known → Exchange → Type 0
IsFullWithin w e = e.reply ≡ reply.Refused journal_full → most_entries ≤ length w.seen

-- A lane goes from v to w with these exchanges, each told by the history that its seat has seen at the end.
pub record IsLane (z : Origin) (v w : Known) (es : List Exchange) : Type 0 where
  -- the seat
  pub follows : IsPrefix v.seen w.seen
  pub keeps : Keeps v w
  pub history : IsHistory z w.seen
  pub own : w.own ≡ v.own ++ all_places es
  -- each exchange
  pub coded : AreRefusedByCode es
  pub others : All HasPlaceOrIsFull es
  pub repacks : All (λ e. is_repack e.request ≡ true → IsSome (place_of e.reply) → IsSome (from_of e.reply)) es
  pub recorded : All (IsRecorded w.seen) es
  pub evaluated : All (IsEvaluated z.parameters (first_version z) w.seen) es
  pub placed : All (IsPlacedWithin v w) es
  pub full : All (IsFullWithin w) es
  pub froms : All (IsFromBehind v) es
  -- each one and a later one
  pub rising : AllPairs PlacesRise es
  pub stay : AllPairs StaysFull es
  pub sees_own : AllPairs SeesOwn es
