-- One round: what may be asked of a book, and what its answer leaves.
use Rattle.std.specs.Prelude.{◌≡◌, ◌≤◌, Bool, true, List, [], ◌∷◌, length, Option, Some}
use Rattle.std.specs.List.{All}
use Rattle.psi_residue.specs.Parameters.{Parameters}
use Rattle.psi_bundle.specs.Histories.{replay}
use Rattle.psi_frames.specs.declared.reply.Reply.{Reply}
use Rattle.psi_frames.specs.declared.request.Request.{Request}
use Rattle.psi_frames.specs.Frames.{answer_fits}
use Rattle.psi_frames.specs.Requests.{IsFit, asks_of_round, count_asks}
use Rattle.psi_frames.specs.Served.{IsOneLane, IsServed, addressed, exchanges}
use Rattle.sender_core.specs.Kept.{Contents, start_of, version_of}
use Rattle.psi_serve.specs.Books.{IsBookUnder}

module _ {C : Type 0} where
  -- the requests of a round that a book with these parameters can answer
  pub record IsAsked (p : Parameters) (book : Contents C) (requests : List Request) : Type 0 where
    pub under : IsBookUnder p book
    pub few : length requests ≤ 4096
    pub asks : count_asks requests ≤ asks_of_round
    pub fit : All (IsFit p) requests

  -- One reply for each request; they serve the round from the book's start behind its journal, and the new book goes on from there. Alone:
  -- the replies are those of one lane.
  pub record HasAnsweredRound (p : Parameters) (alone : Bool) (old new : Contents C) (requests : List Request) (replies : List Reply) : Type 0 where
    pub served : IsServed p (start_of old) old.journal new.journal (requests ∷ []) (addressed requests replies)
    pub one_lane : alone ≡ true → IsOneLane (exchanges (requests ∷ []) (addressed requests replies))
    pub one_each : length replies ≡ length requests
    pub fits : All answer_fits replies
    pub parameters : new.parameters ≡ old.parameters
    pub start : new.start ≡ old.start
    pub leads : replay (start_of old) new.journal ≡ version_of new

  -- the round was answered by the book that was there, and the new book is there
  pub record HasToldRound (p : Parameters) (alone : Bool) (before after : Option (Contents C)) (requests : List Request) (replies : List Reply) : Type 0 where
    pub old : Contents C
    pub new : Contents C
    pub was : before ≡ Some old
    pub is : after ≡ Some new
    pub has : HasAnsweredRound p alone old new requests replies
