-- What answers rounds of frames: what it has answered, and what waits.
use Rattle.std.specs.Prelude.{◌≡◌, ◌≤◌, List, [], ◌∷◌, ◌++◌, ℕ, length}
use Rattle.std.specs.List.{All}
use Rattle.psi_frames.specs.declared.frame.Frame.{Frame}
use Rattle.psi_frames.specs.Frames.{IsFrame, request_table}
use Rattle.psi_frames.specs.Served.{Sent, text_of}
use Rattle.query_pool.specs.Serving.{IsRoundOf, Rule}

-- what a server has answered: rounds, by replies, and frames wait
abbrev pub State : Type 1
State = List (List Frame) → List Sent → List Frame → Type 0

-- a server that begins: it has answered nothing, and nothing waits
pub record IsBeginning (rule : Rule) (has : State) : Type 0 where
  pub state : has [] [] []
  pub serves : rule.serves [] []

-- the frames that wait are a round
pub record IsRoundReady (rule : Rule) (has : State) : Type 0 where
  pub rounds : List (List Frame)
  pub sents : List Sent
  pub waiting : List Frame
  pub state : has rounds sents waiting
  pub each : All (IsFrame request_table) waiting
  pub is_round : IsRoundOf rule rounds waiting

-- The round that the frames which waited make up is answered by these replies, no more than it has frames.
pub record AnswersRound (rule : Rule) (has has' : State) (made_up : List Frame → List Frame) (next : List Sent) : Type 0 where
  pub few : (rounds : List (List Frame)) (sents : List Sent) (waiting : List Frame) → has rounds sents waiting
      → length next ≤ length (made_up waiting)
  pub goes_on : (rounds : List (List Frame)) (sents : List Sent) (waiting : List Frame) → has rounds sents waiting
      → has' (rounds ++ made_up waiting ∷ []) (sents ++ next) []
  pub serves : (rounds : List (List Frame)) (sents : List Sent) (waiting : List Frame) → has rounds sents waiting
      → rule.serves (rounds ++ made_up waiting ∷ []) (sents ++ next)

-- the text is that of so many replies, which answer the round that waits
pub record AnswersFrames (rule : Rule) (has has' : State) (text : List ℕ) (number : ℕ) : Type 0 where
  pub next : List Sent
  pub text_is : text ≡ text_of next
  pub number_is : number ≡ length next
  pub answers : AnswersRound rule has has' (λ waiting. waiting) next
