-- A follower that is fed segments of one history, and asked between them.
use Rattle.std.specs.Prelude.{◌≡◌, ℕ, ◌≤◌, List, [], ◌∷◌, length, take, drop, Result, Ok, Err, ⊤}
use Rattle.std.specs.List.{All, AllPairs}
use Rattle.psi_residue.specs.Parameters.{Parameters}
use Rattle.psi_bundle.specs.declared.history.Entry.{Entry}
use Rattle.psi_bundle.specs.Versions.{empty_version}
use Rattle.psi_bundle.specs.Histories.{IsLegal}
use Rattle.sender_core.specs.declared.answers.Placed.{Placed}
use Rattle.psi_follower.specs.declared.follower.FeedFault.{FeedFault}
use Rattle.psi_follower.specs.declared.follower.FeedFault.TheVariants as feed_fault
use Rattle.psi_follower.specs.declared.follower.AnswerFault.{AnswerFault}
use Rattle.psi_follower.specs.Taking.{IsFed}
use Rattle.psi_follower.specs.Answering.{IsAnswered, body_after}

-- an event and its outcome: entries fed from a place on, or a query asked with a floor
pub data Turn : Type 0 where
  fed : (first : ℕ) (entries : List Entry) → Result ℕ FeedFault → Turn
  asked : (floor : ℕ) (query : List (List (List ℕ))) → Result (Placed (List ℕ)) AnswerFault → Turn

-- one turn of a follower, from the entries that it has to those that it has then
abbrev pub Turns : Parameters → (old : List Entry) → Turn → (new : List Entry) → Type 0
Turns p old (fed first entries told) new = IsFed (empty_version p) old first entries told new
Turns p old (asked floor query told) new = (new ≡ old) × IsAnswered p old floor query told

-- turns one after another
abbrev pub Run : Parameters → List Entry → List Turn → Type 0
Run p old [] = ⊤
Run p old (t ∷ ts) = (new : List Entry) × Turns p old t new × Run p new ts

-- what is fed is a segment of the history from that place on
abbrev pub IsOf : List Entry → Turn → Type 0
IsOf history (fed first entries told) = (number : ℕ) × (entries ≡ take number (drop first history))
IsOf history (asked floor query told) = ⊤

-- nothing that is fed is told to differ
abbrev pub IsNotDiffering : Result ℕ FeedFault → Type 0
IsNotDiffering (Ok have) = ⊤
IsNotDiffering (Err (feed_fault.Gap have)) = ⊤
IsNotDiffering (Err (feed_fault.Differs place)) = ⊥
IsNotDiffering (Err feed_fault.NoMemory) = ⊤

-- an answer is from a prefix of the history that is at least as long as the floor; its place is the prefix's length
abbrev pub IsOfPrefix : Parameters → List Entry → (floor : ℕ) (query : List (List (List ℕ))) → Result (Placed (List ℕ)) AnswerFault → Type 0
IsOfPrefix p history floor query (Ok told) = (floor ≤ told.place) × (told.place ≤ length history) × (told.answer ≡ body_after p (take told.place history) query)
IsOfPrefix p history floor query (Err fault) = ⊤

-- what a turn tells is right
abbrev pub IsRight : Parameters → List Entry → Turn → Type 0
IsRight p history (fed first entries told) = IsNotDiffering told
IsRight p history (asked floor query told) = IsOfPrefix p history floor query told

-- an answer is from a prefix that has at least so many entries
abbrev pub HasAtLeast : ℕ → Turn → Type 0
HasAtLeast n (fed first entries told) = ⊤
HasAtLeast n (asked floor query (Ok told)) = n ≤ told.place
HasAtLeast n (asked floor query (Err fault)) = ⊤

-- a later answer is from no shorter prefix
abbrev pub IsNoOlder : Turn → Turn → Type 0
IsNoOlder (fed first entries told) later = ⊤
IsNoOlder (asked floor query (Ok told)) later = HasAtLeast told.place later
IsNoOlder (asked floor query (Err fault)) later = ⊤

-- The law: from no entries, with segments of one legal history, each turn is right, and answers are from prefixes that do not shrink.
abbrev pub Replicas : Type 0
Replicas =
    (p : Parameters) (history : List Entry) (turns : List Turn) → IsLegal (empty_version p) history → All (IsOf history) turns → Run p [] turns
    → All (IsRight p history) turns × AllPairs IsNoOlder turns
