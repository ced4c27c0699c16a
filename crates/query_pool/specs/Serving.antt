-- What serving an input leaves of its source and its sink, by its status, whatever answers its rounds.
use Rattle.std.specs.Prelude.{◌≡◌, ◌⊎◌, ℕ, ◌+◌, ◌<◌, ◌≤◌, Bool, IsTrue, IsFalse, List, [], ◌++◌, length, take, Option, Some, None, IfSome, IsSome, slice_index_or}
use Rattle.std.specs.List.{All, flat_map, filter_map}
use Rattle.std.specs.Io.KnownBytes.{Appends, Consumes}
use Rattle.psi_outside.specs.Causes.{Rose, count_on}
use Rattle.psi_outside.specs.Ends.{Ends, SinkTold}
use Rattle.psi_outside.specs.Streams.{IsAllFlushed}
use Rattle.psi_frames.specs.declared.frame.Frame.{Frame}
use Rattle.psi_frames.specs.Frames.{Fault, IsFrame, AreWholeFrames, frames_bytes, most_bytes, request_table}
use Rattle.psi_frames.specs.Served.{Sent, place_of, text_of}
use Rattle.query_pool.specs.declared.round.Served.{Served}

-- How rounds are served: which waiting frames end a round behind the rounds before, which no frames never do, and which replies serve
-- which rounds.
pub record Rule : Type 1 where
  pub ends : (before : List (List Frame)) → (waiting : List Frame) → Bool
  pub none_ends : (before : List (List Frame)) → IsFalse (ends before [])
  pub serves : (rounds : List (List Frame)) → List Sent → Type 0

-- frames of which no front ends a round
abbrev pub IsOpen : Rule → (before : List (List Frame)) → (waiting : List Frame) → Type 0
IsOpen rule before waiting = (k : ℕ) → k ≤ length waiting → IsFalse (rule.ends before (take k waiting))

-- a round: some frames, of which no shorter front ends it
pub record IsRoundOf (rule : Rule) (before : List (List Frame)) (round : List Frame) : Type 0 where
  pub some : 0 < length round
  pub first_end : (k : ℕ) → k < length round → IsFalse (rule.ends before (take k round))

-- a round that is ended by its last frame
pub record IsEndedRound (rule : Rule) (before : List (List Frame)) (round : List Frame) : Type 0 where
  pub is_round : IsRoundOf rule before round
  pub ended : IsTrue (rule.ends before round)

-- rounds that are all ended
abbrev pub AreEndedRounds : Rule → List (List Frame) → Type 0
AreEndedRounds rule rounds = (k : ℕ) → k < length rounds → IsEndedRound rule (take k rounds) (slice_index_or rounds k [])

-- the frames of some rounds
abbrev pub frames_of : List (List Frame) → List Frame
frames_of rounds = flat_map (λ round. round) rounds

-- frames fall into these rounds: each but the last is ended
pub record FallInto (rule : Rule) (rounds : List (List Frame)) (frames : List Frame) : Type 0 where
  pub all : frames ≡ frames_of rounds
  pub each : (k : ℕ) → k < length rounds → IsRoundOf rule (take k rounds) (slice_index_or rounds k [])
  pub ended : (k : ℕ) → k + 1 < length rounds → IsTrue (rule.ends (take k rounds) (slice_index_or rounds k []))

-- the replies serve the rounds that these frames fall into
pub record AreServedBy (rule : Rule) (frames : List Frame) (sents : List Sent) : Type 0 where
  pub rounds : List (List Frame)
  pub fall_into : FallInto rule rounds frames
  pub serves : rule.serves rounds sents

-- how many of the replies have a place: each is an entry of the history
abbrev pub entries_of : List Sent → ℕ
entries_of sents = length (filter_map (λ s. place_of s.reply) sents)

-- the run counts these replies, and those of them that have a place
pub record Counts (served : Served) (sents : List Sent) : Type 0 where
  pub entries : served.entries ≡ entries_of sents
  pub replies : served.replies ≡ length sents

-- all that the sink holds is flushed; or nothing was written, and as much is flushed as before
abbrev pub IsFlushedBehind : (old new : SinkTold) → (text : List ℕ) → Type 0
IsFlushedBehind old new text = IsAllFlushed new.written new.flushed ⊎ ((text ≡ []) × (new.flushed ≡ old.flushed))

-- up to the end of the text all is flushed, and no more
abbrev pub IsFlushedUpTo : (old new : SinkTold) → (text : List ℕ) → Type 0
IsFlushedUpTo old new text =
    IfSome old.written (λ bytes. IfSome new.flushed (λ count. count ≡ length bytes + length text))

-- the same; or the text is empty, and as much is flushed as before
abbrev pub IsFlushedTo : (old new : SinkTold) → (text : List ℕ) → Type 0
IsFlushedTo old new text = IsFlushedUpTo old new text ⊎ ((text ≡ []) × (new.flushed ≡ old.flushed))

-- The replies to these frames were written behind what the sink held, and flushed. The run counts them, and no write failed.
pub record HasReplied (rule : Rule) (frames : List Frame) (old new : Ends) (served : Served) : Type 0 where
  pub sents : List Sent
  pub replies : AreServedBy rule frames sents
  pub written : Appends old.sink.written new.sink.written (text_of sents)
  pub flushed : IsFlushedBehind old.sink new.sink (text_of sents)
  pub counts : Counts served sents
  pub no_write_failed : new.sink.faults ≡ old.sink.faults

-- these bytes are what the source had left, where it tells that
abbrev pub IsInput : Ends → List ℕ → Type 0
IsInput old input = IfSome old.source.left (λ bytes. bytes ≡ input)

-- the source has nothing left, where it tells that
abbrev pub InputEnds : (old new : Ends) → Type 0
InputEnds old new = IfSome old.source.left (λ _. new.source.left ≡ Some [])

-- no read failed
abbrev pub NoReadFailed : (old new : Ends) → Type 0
NoReadFailed old new = new.source.faults ≡ old.source.faults

-- one read failed
abbrev pub OneReadFailed : (old new : Ends) → Type 0
OneReadFailed old new = new.source.faults ≡ count_on old.source.faults

-- the bytes end behind a whole frame or within one
abbrev pub IsNoBadFrame : Option Fault → Type 0
IsNoBadFrame fault = (fault ≡ None) ⊎ (fault ≡ Some Fault.Short)

-- a frame has a bad length or kind
abbrev pub IsBadFrame : Option Fault → Type 0
IsBadFrame fault = (bad : Fault) × (fault ≡ Some bad) × (bad ≡ Fault.Short → ⊥)

-- 0: the input is whole frames to its end, and these are answered
pub record LeavesDone (rule : Rule) (old new : Ends) (served : Served) : Type 0 where
  pub input : List ℕ
  pub told : IsInput old input
  pub size : length input ≤ most_bytes
  pub frames : List Frame
  pub whole : AreWholeFrames request_table input frames None
  pub replied : HasReplied rule frames old new served
  pub ended : InputEnds old new
  pub no_read_failed : NoReadFailed old new

-- 4: the input has a bad frame, or ends within a frame, or is too long; the whole frames before are answered
pub record LeavesBadInput (rule : Rule) (old new : Ends) (served : Served) : Type 0 where
  pub input : List ℕ
  pub told : IsInput old input
  pub frames : List Frame
  pub fault : Option Fault
  pub whole : AreWholeFrames request_table input frames fault
  pub bad : IsSome fault ⊎ (most_bytes < length input)
  pub replied : HasReplied rule frames old new served
  pub no_read_failed : NoReadFailed old new

-- 5: one read failed; the whole frames of the bytes that were taken are answered, and none of these is bad
pub record LeavesReadFault (rule : Rule) (old new : Ends) (served : Served) : Type 0 where
  pub taken : List ℕ
  pub consumed : Consumes old.source.left new.source.left taken
  pub size : length taken ≤ most_bytes
  pub frames : List Frame
  pub fault : Option Fault
  pub whole : AreWholeFrames request_table taken frames fault
  pub no_bad_frame : IsNoBadFrame fault
  pub replied : HasReplied rule frames old new served
  pub failed : OneReadFailed old new

-- bytes begin with these frames, among those that are looked at
pub record BeginWith (bytes : List ℕ) (frames : List Frame) : Type 0 where
  pub rest : List ℕ
  pub whole : take most_bytes bytes ≡ frames_bytes frames ++ rest
  pub each : All (IsFrame request_table) frames

-- All whole frames of these bytes are answered but for some that end no round, and none is bad.
pub record IsCaughtUp (rule : Rule) (bytes : List ℕ) (answered : List (List Frame)) : Type 0 where
  pub size : length bytes ≤ most_bytes
  pub waiting : List Frame
  pub open_round : IsOpen rule answered waiting
  pub fault : Option Fault
  pub whole : AreWholeFrames request_table bytes (frames_of answered ++ waiting) fault
  pub no_bad_frame : IsNoBadFrame fault

-- Each of these rounds was answered as soon as it was read: before the last read all were that were ended by then. That read gave a piece
-- of 65,536 bytes at most, or it failed.
pub record KeepsUp (rule : Rule) (old new : Ends) (taken : List ℕ) (rounds : List (List Frame)) : Type 0 where
  pub before : List ℕ
  pub piece : List ℕ
  pub taken_is : taken ≡ before ++ piece
  pub one_read : length piece ≤ 65536
  pub answered : List (List Frame)
  pub since : List (List Frame)
  pub rounds_are : rounds ≡ answered ++ since
  pub caught_up : IsCaughtUp rule before answered
  pub last_read : NoReadFailed old new ⊎ ((piece ≡ []) × OneReadFailed old new)

-- the input ends, or has a bad frame, or too many bytes, and no read failed
abbrev pub IsInputOver : (old new : Ends) → (taken : List ℕ) → Option Fault → Type 0
IsInputOver old new taken fault =
    NoReadFailed old new × (InputEnds old new ⊎ (IsBadFrame fault ⊎ (most_bytes < length taken)))

-- these are the last whole frames that come: the input is over, or a read failed
pub record AreLastFrames (old new : Ends) (taken : List ℕ) (frames : List Frame) : Type 0 where
  pub fault : Option Fault
  pub whole : AreWholeFrames request_table taken frames fault
  pub why : IsInputOver old new taken fault ⊎ OneReadFailed old new

-- why a round is answered: its last frame ends it, and no read failed; or it has the last frames
abbrev pub IsAnsweredInTime : Rule → (old new : Ends) → (taken : List ℕ) → (earlier : List (List Frame)) → (round : List Frame) → Type 0
IsAnsweredInTime rule old new taken earlier round =
    (IsTrue (rule.ends earlier round) × NoReadFailed old new)
    ⊎ AreLastFrames old new taken (frames_of earlier ++ round)

-- 6: a write or a flush failed in some round, and nothing more was read; the replies of earlier rounds stand whole and are flushed, then a
-- front of that round's, not flushed. The run counts the replies of the earlier rounds.
pub record LeavesWriteFault (rule : Rule) (old new : Ends) (served : Served) : Type 0 where
  pub taken : List ℕ
  pub consumed : Consumes old.source.left new.source.left taken
  pub earlier : List (List Frame)
  pub round : List Frame
  pub begin_with : BeginWith taken (frames_of earlier ++ round)
  pub ended : AreEndedRounds rule earlier
  pub is_round : IsRoundOf rule earlier round
  pub in_time : IsAnsweredInTime rule old new taken earlier round
  pub keeps_up : KeepsUp rule old new taken earlier
  pub done : List Sent
  pub done_replies : AreServedBy rule (frames_of earlier) done
  pub last : List Sent
  pub replies : AreServedBy rule (frames_of earlier ++ round) (done ++ last)
  pub front : (n : ℕ) × Appends old.sink.written new.sink.written (text_of done ++ take n (text_of last))
  pub flushed : IsFlushedTo old.sink new.sink (text_of done)
  pub counts : Counts served done
  pub failed : Rose old.sink.faults new.sink.faults

-- 7: memory ran out in some round, and nothing more was read; the replies of the earlier rounds, which are ended, stand whole, and nothing
-- of that round
pub record LeavesNoMemory (rule : Rule) (old new : Ends) (served : Served) : Type 0 where
  pub taken : List ℕ
  pub consumed : Consumes old.source.left new.source.left taken
  pub rounds : List (List Frame)
  pub begin_with : BeginWith taken (frames_of rounds)
  pub ended : AreEndedRounds rule rounds
  pub keeps_up : KeepsUp rule old new taken rounds
  pub replied : HasReplied rule (frames_of rounds) old new served

-- the statuses of serving
abbrev pub IsServingStatus : ℕ → Type 0
IsServingStatus n = (n ≡ 0) ⊎ ((n ≡ 4) ⊎ ((n ≡ 5) ⊎ ((n ≡ 6) ⊎ (n ≡ 7))))

-- What serving leaves, by its status.
pub record HasServedBy (rule : Rule) (old new : Ends) (served : Served) : Type 0 where
  pub statuses : IsServingStatus served.status
  pub done : served.status ≡ 0 → LeavesDone rule old new served
  pub bad_input : served.status ≡ 4 → LeavesBadInput rule old new served
  pub read_fault : served.status ≡ 5 → LeavesReadFault rule old new served
  pub write_fault : served.status ≡ 6 → LeavesWriteFault rule old new served
  pub no_memory : served.status ≡ 7 → LeavesNoMemory rule old new served
