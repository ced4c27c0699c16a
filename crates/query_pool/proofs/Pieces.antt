-- A run that takes a piece of its input.
use Rattle.std.specs.Prelude.{◌≡◌, ℕ, ◌+◌, ◌<◌, ◌≤◌, min, nat_le, Bool, true, false, List, ◌++◌, length, take}
use Rattle.std.proofs.Common.{refl, sym, ap, ◌∙◌, subst, arith, inl, inr, append_assoc, length-append}
use Rattle.std.proofs.lemmas.Bool.Decides.{nat_tests}
use Rattle.std.proofs.lemmas.List.{length-take, take_all}
use Rattle.psi_frames.specs.declared.frame.Frame.{Frame}
use Rattle.psi_frames.specs.Frames.{most_bytes}
use Rattle.psi_frames.specs.Feeds.{Feeding, HasFed}
use Rattle.query_pool.specs.declared.stop.Stop.{Stop}
use Rattle.query_pool.specs.declared.stop.Stop.TheVariants.{BadInput, ReadFault, WriteFault, NoMemory}
use Rattle.psi_outside.specs.Ends.{SinkTold}
use Rattle.query_pool.specs.Serving.{Rule}
use Rattle.query_pool.specs.Servers.{State}
use Rattle.query_pool.specs.Inner.Runs.{IsBadPiece, IsHalted, LastStops, Mark, PieceStops, Progress, Stands, StopsAt}
use Rattle.query_pool.proofs.Going.{halts}

-- a front of a piece is no longer than the room
length-front : (room : ℕ) (piece : List ℕ) → length (take room piece) ≤ room
length-front room piece = omega (arith, length-take room piece)

-- more bytes were fed
pub stands-heard : (rule : Rule) (has : State) (mark : Mark) (bytes more : List ℕ) (feed feed' : Feeding) (run : Progress) (now : SinkTold) → Stands rule has mark bytes feed run now
    → ((all : List ℕ) (taken : List Frame) → HasFed feed all taken → HasFed feed' (all ++ more) taken) → feed'.replies ≡ feed.replies → length (bytes ++ more) ≤ most_bytes
    → Stands rule has mark (bytes ++ more) feed' run now
stands-heard rule has mark bytes more feed feed' run now stands fed table limit = record {
  limit = limit;
  rounds = stands.rounds;
  sents = stands.sents;
  waiting = stands.waiting;
  fed = fed bytes _ stands.fed;
  requests = table ∙ stands.requests;
  ended = stands.ended;
  open_round = stands.open_round;
  state = stands.state;
  goes_on = stands.goes_on;
  answered = stands.answered;
}

pub room-limit : (bytes piece : List ℕ) (room : ℕ) → length bytes + room ≡ most_bytes → length (bytes ++ take room piece) ≤ most_bytes
room-limit bytes piece room e = omega (arith, e, length-append bytes (take room piece), length-front room piece)

-- the whole piece was seen
pub stands-whole : (rule : Rule) (has : State) (mark : Mark) (bytes piece : List ℕ) (room : ℕ) (feed : Feeding) (run : Progress) (now : SinkTold) → length piece ≤ room
    → Stands rule has mark (bytes ++ take room piece) feed run now → Stands rule has mark (bytes ++ piece) feed run now
stands-whole rule has mark bytes piece room feed run now le stands = subst (λ (t : List ℕ). Stands rule has mark (bytes ++ t) feed run now) (take_all room piece le) stands

-- what halted behind some bytes has halted behind more
pub halts-more : (rule : Rule) (mark : Mark) (bytes more : List ℕ) (run : Progress) (now : SinkTold) → length (bytes ++ more) ≤ most_bytes → IsHalted rule mark bytes run now → IsHalted rule mark (bytes ++ more) run now
halts-more rule mark bytes more run now limit halted = record {
  limit = limit;
  rounds = halted.rounds;
  begins = record {
    rest = halted.begins.rest ++ more;
    whole = ap (λ (t : List ℕ). t ++ more) halted.begins.whole ∙ append_assoc _ halted.begins.rest more;
    each = halted.begins.each;
  };
  ended = halted.ended;
  goes_on = halted.goes_on;
  sents = halted.sents;
  answered = halted.answered;
}

-- want of memory for the piece
pub stops-hear : (rule : Rule) (has : State) (mark : Mark) (bytes piece : List ℕ) (room : ℕ) (feed : Feeding) (run : Progress) (now : SinkTold) → Stands rule has mark bytes feed run now → length bytes + room ≡ most_bytes
    → IsHalted rule mark (bytes ++ take room piece) run now
stops-hear rule has mark bytes piece room feed run now stands e =
    halts-more rule mark bytes (take room piece) run now (room-limit bytes piece room e)
    (halts rule has mark bytes feed run now stands run now (record { untouched = refl; counts = refl }))

-- a stop within the piece, and one in the last round
pub stops-drain : (rule : Rule) (mark : Mark) (bytes piece : List ℕ) (room : ℕ) (feed : Feeding) (run : Progress) (now : SinkTold) (stop : Stop) → StopsAt rule mark (bytes ++ take room piece) run now stop
    → PieceStops rule mark bytes piece room feed run now stop
stops-drain rule mark bytes piece room feed run now BadInput stops = absurd stops
stops-drain rule mark bytes piece room feed run now ReadFault stops = absurd stops
stops-drain rule mark bytes piece room feed run now WriteFault stops = (stops.0, inl stops.1)
stops-drain rule mark bytes piece room feed run now NoMemory stops = stops

pub stops-piece : (rule : Rule) (mark : Mark) (bytes piece : List ℕ) (room : ℕ) (feed : Feeding) (run : Progress) (now : SinkTold) (stop : Stop) → IsBadPiece feed room piece
    → LastStops rule mark (bytes ++ take room piece) feed run now stop → PieceStops rule mark bytes piece room feed run now stop
stops-piece rule mark bytes piece room feed run now BadInput bad stops = absurd stops
stops-piece rule mark bytes piece room feed run now ReadFault bad stops = absurd stops
stops-piece rule mark bytes piece room feed run now WriteFault bad stops = (stops.0, inr (stops.1, bad))
stops-piece rule mark bytes piece room feed run now NoMemory bad stops = stops

-- a feed with the same fault
pub bad-same : (feed feed' : Feeding) (room : ℕ) (piece : List ℕ) → feed'.fault ≡ feed.fault → IsBadPiece feed room piece → IsBadPiece feed' room piece
bad-same feed feed' room piece same (inl met) = inl (met.0, same ∙ met.1, met.2)
bad-same feed feed' room piece same (inr more) = inr more

-- the front of a piece, as far as both go
pub front-min : (n room : ℕ) (piece : List ℕ) → n ≡ min (length piece) room → take n piece ≡ take room piece
front-min n room piece e = by_test (nat_le room (length piece)) refl where
  by_test : (b : Bool) → nat_le room (length piece) ≡ b → take n piece ≡ take room piece
  by_test true test = let le : room ≤ length piece = grind (arith, nat_tests, test) in ap (λ (k : ℕ). take k piece) (omega (arith, e, le))
  by_test false test =
      let less : length piece < room = grind (arith, nat_tests, test) in
      take_all n piece (omega (arith, e, less)) ∙ sym (take_all room piece (omega (arith, less)))
