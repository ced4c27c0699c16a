-- Lanes beside each other: which requests each has, and what they leave together.
use Rattle.std.specs.Prelude.{◌≡◌, ℕ, ◌+◌, ◌%◌, ◌<◌, ◌≤◌, true, nat_eq, List, [], ◌∷◌, length, filter, cond, Some, IsSome, slice_index_or}
use Rattle.std.specs.List.{All, AllPairs}
use Rattle.psi_bundle.specs.declared.history.Entry.{Entry}
use Rattle.psi_turnstile.specs.Counting.{IsPrefix, below, times}
use Rattle.psi_bundle.specs.Histories.{most_entries}
use Rattle.psi_frames.specs.declared.reply.Reply.{Reply}
use Rattle.psi_frames.specs.declared.reply.Reply.TheVariants as reply
use Rattle.psi_frames.specs.declared.request.Request.{Request}
use Rattle.psi_frames.specs.Requests.{is_repack, journal_full, session_of}
use Rattle.psi_frames.specs.Served.{Exchange, AreRefusedByCode, HasPlaceOrIsFull, IsEvaluated, IsRecorded, PlacesRise, SeesOwn, StaysFull, all_places, from_of, place_of}
use Rattle.live_sender.specs.declared.origin.Origin.{Origin}
use Rattle.live_sender.specs.Histories.{first_version, IsHistory}
use Rattle.query_pool.specs.Lanes.{lane_exchanges}

-- the lane of a request: its session's
abbrev pub lane_of : (workers : ℕ) → Request → ℕ
lane_of workers r = session_of r % workers

-- the requests of a lane, and its exchanges among all
abbrev pub lane_requests : (workers : ℕ) → List Request → (lane : ℕ) → List Request
lane_requests workers rs l = filter (λ r. nat_eq (lane_of workers r) l) rs

abbrev pub lane_part : (workers : ℕ) → List Exchange → (lane : ℕ) → List Exchange
lane_part workers es l = filter (λ e. nat_eq (lane_of workers e.request) l) es

-- the elements that have this number beside them
abbrev pub picked : {X : Type 0} → ℕ → List ℕ → List X → List X
picked l [] xs = []
picked l (k ∷ ks) [] = []
picked l (k ∷ ks) (x ∷ xs) = cond (nat_eq k l) (x ∷ picked l ks xs) (picked l ks xs)

-- list number l of some lists, and none past their end
abbrev pub list_at : {X : Type 0} → List (List X) → ℕ → List X
list_at xss l = slice_index_or xss l []

-- Exchanges of one lane, told by the whole history, of which the given entries are the beginning.
pub record IsPart (z : Origin) (given history : List Entry) (es : List Exchange) : Type 0 where
  pub coded : AreRefusedByCode es
  pub others : All HasPlaceOrIsFull es
  pub repacks : All (λ e. is_repack e.request ≡ true → IsSome (place_of e.reply) → IsSome (from_of e.reply)) es
  pub recorded : All (IsRecorded history) es
  pub evaluated : All (IsEvaluated z.parameters (first_version z) history) es
  pub full : All (λ e. e.reply ≡ reply.Refused journal_full → most_entries ≤ length history) es
  pub froms : All (λ e. (from x : ℕ) → from_of e.reply ≡ Some from → place_of e.reply ≡ Some x → (length given ≤ from) × (from ≤ x)) es
  pub rising : AllPairs PlacesRise es
  pub stay : AllPairs StaysFull es
  pub sees_own : AllPairs SeesOwn es

-- Exchanges that lanes made beside each other: each lane has made its own, and every new entry of the history is that of one exchange.
pub record AreJoined (z : Origin) (given history : List Entry) (workers : ℕ) (es : List Exchange) : Type 0 where
  pub history_is : IsHistory z history
  pub begins : IsPrefix given history
  pub places : (x : ℕ) → times x (all_places es) + below x (length given) ≡ below x (length history)
  pub lanes : (l : ℕ) → l < workers → IsPart z given history (lane_part workers es l)

-- The exchanges of each lane are those of its requests and its replies.
abbrev pub ArePartsOf : (workers : ℕ) → List Exchange → List (List Request) → List (List Reply) → Type 0
ArePartsOf workers es requests replies = (l : ℕ) → lane_part workers es l ≡ lane_exchanges (list_at requests l) (list_at replies l)
