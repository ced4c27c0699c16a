-- What serving one set leaves of its source and its sink, by its status.
use Rattle.std.specs.Prelude.{◌≡◌, ℕ, Bool, true, false, List, [], Option, None, Some}
use Rattle.std.specs.List.{All}
use Rattle.psi_residue.specs.Parameters.{Parameters}
use Rattle.psi_bundle.specs.declared.history.Entry.{Entry}
use Rattle.psi_bundle.specs.Versions.{Version}
use Rattle.psi_outside.specs.Ends.{Ends}
use Rattle.psi_frames.specs.declared.frame.Frame.{Frame}
use Rattle.psi_frames.specs.declared.reply.Reply.TheVariants as reply
use Rattle.psi_frames.specs.Rounds.{AreRounds, is_full, request_rounds}
use Rattle.psi_frames.specs.Served.{Exchange, IsOneLane, IsServed, Sent, exchanges}
use Rattle.query_pool.specs.declared.round.Served.{Served}
use Rattle.query_pool.specs.Serving.{HasServedBy, Rule}
use Rattle.sender_core.specs.Kept.{Contents, start_of}

-- a reply that does not tell a Repack as moved
abbrev pub IsUnmoved : Exchange → Type 0
IsUnmoved e = (place from stamp : ℕ) → e.reply ≡ reply.Moved place from stamp → ⊥

-- The replies serve the rounds from a start, along this history. Alone: they are those of one lane, and none is Moved.
pub record AreServedAlong (p : Parameters) (start : Version) (alone : Bool) (history : List Entry) (rounds : List (List Frame)) (sents : List Sent) : Type 0 where
  pub served : IsServed p start [] history (request_rounds p rounds) sents
  pub one_lane : alone ≡ true → IsOneLane (exchanges (request_rounds p rounds) sents)
  pub unmoved : alone ≡ true → All IsUnmoved (exchanges (request_rounds p rounds) sents)

-- they do so along some history
abbrev pub ServeRounds : Parameters → (start : Version) → (alone : Bool) → List (List Frame) → List Sent → Type 0
ServeRounds p start alone rounds sents = (history : List Entry) × AreServedAlong p start alone history rounds sents

-- the replies serve the rounds that these frames fall into
pub record AreRepliesTo (p : Parameters) (start : Version) (alone : Bool) (frames : List Frame) (sents : List Sent) : Type 0 where
  pub rounds : List (List Frame)
  pub are_rounds : AreRounds rounds frames
  pub serve : ServeRounds p start alone rounds sents

-- how a set is served: whether its replies are those of one lane, and from which start; a set that was given up has none
pub record SetKind : Type 0 where
  pub alone : Bool
  pub start : Option Version

abbrev pub kind_of : {C : Type 0} → Bool → Option (Contents C) → SetKind
kind_of alone None = record { alone = alone; start = None }
kind_of alone (Some book) = record { alone = alone; start = Some (start_of book) }

-- the replies serve the rounds of such a set
abbrev pub ServeSet : (alone : Bool) → Option Version → List (List Frame) → List Sent → Type 0
ServeSet alone None rounds sents = ⊥
ServeSet alone (Some start) rounds sents = ServeRounds start.parameters start alone rounds sents

-- no frames are no full round
pub none_full : is_full [] ≡ false
unfolding is_full
none_full = λ i. false

-- the rule of one set: a round ends where it is full
abbrev pub one_set : SetKind → Rule
one_set kind = record {
  ends = λ before waiting. is_full waiting;
  none_ends = λ before. none_full;
  serves = λ rounds sents. ServeSet kind.alone kind.start rounds sents;
}

-- a book, if it was not given up, has served these rounds by these replies from its start
abbrev pub HasServedFrom : {C : Type 0} → (alone : Bool) → Option (Contents C) → List (List Frame) → List Sent → Type 0
HasServedFrom alone None rounds sents = ⊥
HasServedFrom alone (Some book) rounds sents = AreServedAlong book.parameters (start_of book) alone book.journal rounds sents

-- What serving a set from a start leaves, by its status.
abbrev pub HasServed : (start : Version) → (alone : Bool) → (old new : Ends) → Served → Type 0
HasServed start alone old new served = HasServedBy (one_set (record { alone = alone; start = Some start })) old new served
