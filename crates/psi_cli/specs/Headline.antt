-- The headline: what `serve` and `replay` have done when they end with 0.
use Rattle.std.specs.Prelude.{◌≡◌, ℕ, ◌≤◌, Bool, List, [], length, None, IfSome}
use Rattle.std.specs.List.{All}
use Rattle.std.specs.Io.KnownBytes.{Appends}
use Rattle.psi_residue.specs.Parameters.{Parameters}
use Rattle.psi_bundle.specs.Versions.{empty_version}
use Rattle.psi_frames.specs.declared.frame.Frame.{Frame}
use Rattle.psi_frames.specs.Frames.{AreWholeFrames, most_bytes, request_table}
use Rattle.psi_frames.specs.Rounds.{request_rounds}
use Rattle.psi_frames.specs.Served.{IsOneLaneTextOf, Sent, exchanges, text_of}
use Rattle.psi_outside.specs.Ends.{SinkTold, SourceTold}
use Rattle.psi_serve.specs.Serving.{AreRepliesTo, IsUnmoved}
use Rattle.psi_cli.specs.QueryAnswers.{AnswersOpen}
use Rattle.psi_cli.specs.Reading.{IsEnded}
use Rattle.psi_cli.specs.Worlds.{IsFlushedSo, NoReadFailed, World}

-- The input is whole frames to its end, and the text is one reply for each request, in input order; their places number one history in
-- which each call stands once, in its session's order, answered as the one-thread sender answers; and each answer to a receiver's query
-- opens to exactly what is found in the set at its place. Alone: the replies are those of one lane.
pub record IsAnswered (p : Parameters) (alone : Bool) (bytes text : List ℕ) : Type 0 where
  pub few_bytes : length bytes ≤ most_bytes
  pub frames : List Frame
  pub whole : AreWholeFrames request_table bytes frames None
  pub sents : List Sent
  pub replies : AreRepliesTo p (empty_version p) alone frames sents
  pub opens : AnswersOpen p (empty_version p) replies.serve.0 (exchanges (request_rounds p replies.rounds) sents)
  pub text_is : text ≡ text_of sents

-- the input is answered, where it is told, and the text of its replies stands behind what the sink held, where that is told
abbrev pub AnswersInput : Parameters → (alone : Bool) → SourceTold → (old new : SinkTold) → Type 0
AnswersInput p alone source old new =
    IfSome source.left (λ bytes.
    (text : List ℕ) × IsAnswered p alone bytes text × Appends old.written new.written text)

-- The input was answered and read to its end; all that was written is flushed; and no read, write or flush failed.
pub record Headline (p : Parameters) (alone : Bool) (old new : World) : Type 0 where
  pub answered : AnswersInput p alone old.given.source old.sink new.sink
  pub ended : IsEnded old.given.source new.given.source
  pub flushed : IsFlushedSo old.sink new.sink
  pub no_read_failed : NoReadFailed old.given new.given
  pub no_write_failed : new.sink.faults ≡ old.sink.faults

-- ---- one lane

-- the input is whole frames to its end, and the text is the one that serves their rounds, from the empty set, as one lane does; no reply
-- is Moved
pub record IsOneLaneAnswer (p : Parameters) (bytes text : List ℕ) : Type 0 where
  pub frames : List Frame
  pub whole : AreWholeFrames request_table bytes frames None
  pub one_lane : IsOneLaneTextOf p (empty_version p) [] frames text
  pub unmoved : All IsUnmoved (exchanges (request_rounds p one_lane.rounds) one_lane.one_lane.sents)

-- the same, by one lane
abbrev pub AnswersOnOneLane : Parameters → SourceTold → (old new : SinkTold) → Type 0
AnswersOnOneLane p source old new =
    IfSome source.left (λ bytes.
    (text : List ℕ) × IsOneLaneAnswer p bytes text × Appends old.written new.written text)
