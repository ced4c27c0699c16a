-- A run of rounds half way: what was answered, and what waits.
use Rattle.std.specs.Prelude.{◌≡◌, ◌⊎◌, ℕ, ◌+◌, ◌^◌, ◌<◌, ◌≤◌, Bool, true, false, IsTrue, IsFalse, List, [], ◌∷◌, ◌++◌, length, take, Option, None, Some, Result, Ok, Err, ⊤}
use Rattle.std.specs.List.{All}
use Rattle.std.specs.Io.KnownBytes.{Appends, Consumes}
use Rattle.psi_outside.specs.Causes.{count_on}
use Rattle.psi_outside.specs.Ends.{Ends, SinkTold}
use Rattle.psi_outside.specs.Streams.{IsAllFlushed}
use Rattle.psi_frames.specs.declared.frame.Frame.{Frame}
use Rattle.psi_frames.specs.Frames.{IsFrame, frames_bytes, most_bytes, request_table}
use Rattle.psi_frames.specs.Served.{Sent, text_of}
use Rattle.psi_frames.specs.Feeds.{Feeding, HasFed, IsCut}
use Rattle.query_pool.specs.declared.round.Served.{Served}
use Rattle.query_pool.specs.declared.run.Run.{Run}
use Rattle.query_pool.specs.declared.stop.Stop.{Stop}
use Rattle.query_pool.specs.declared.stop.Stop.TheVariants.{BadInput, ReadFault, WriteFault, NoMemory}
use Rattle.query_pool.specs.Servers.{AnswersRound, IsRoundReady, State}
use Rattle.query_pool.specs.Serving.{AreEndedRounds, FallInto, IsBadFrame, IsFlushedBehind, IsOpen, IsRoundOf, LeavesBadInput, LeavesDone, LeavesNoMemory, LeavesReadFault, LeavesWriteFault, Rule, entries_of, frames_of}

-- what a run has counted: the entries and the replies of the rounds that were written
pub record Progress : Type 0 where
  pub entries : ℕ
  pub replies : ℕ

abbrev pub progress_of : {A : Type 0} → Run A → Progress
progress_of run = record { entries = run.entries; replies = run.replies }

-- the frames that wait, as they are, and with one more
abbrev pub as_they_are : List Frame → List Frame
as_they_are waiting = waiting

abbrev pub with_frame : Frame → List Frame → List Frame
with_frame f waiting = waiting ++ f ∷ []

-- The round that the frames which waited make up is answered, written and flushed, and counted; no frame waits.
pub record HasGoneOn (rule : Rule) (has has' : State) (made_up : List Frame → List Frame) (old new : Progress) (before now : SinkTold) : Type 0 where
  pub next : List Sent
  pub answers : AnswersRound rule has has' made_up next
  pub written : Appends before.written now.written (text_of next)
  pub flushed : IsAllFlushed now.written now.flushed
  pub no_write_failed : now.faults ≡ before.faults
  pub entries : (rounds : List (List Frame)) (sents : List Sent) (waiting : List Frame) → has' rounds sents waiting → new.entries ≡ entries_of sents
  pub replies : new.replies ≡ old.replies + length next

-- a write or a flush failed behind a front of the round's replies, and nothing more is flushed
pub record HasBroken (rule : Rule) (has : State) (made_up : List Frame → List Frame) (old new : Progress) (before now : SinkTold) : Type 0 where
  pub next : List Sent
  pub serves : (rounds : List (List Frame)) (sents : List Sent) (waiting : List Frame) → has rounds sents waiting
      → rule.serves (rounds ++ made_up waiting ∷ []) (sents ++ next)
  pub front : (n : ℕ) × Appends before.written now.written (take n (text_of next))
  pub flushed : now.flushed ≡ before.flushed
  pub failed : now.faults ≡ count_on before.faults
  pub counts : new ≡ old

-- memory ran out, and nothing of the round was written
pub record HasGivenUp (old new : Progress) (before now : SinkTold) : Type 0 where
  pub untouched : now ≡ before
  pub counts : new ≡ old

-- why a round was not answered
abbrev pub RoundStops : Rule → State → (made_up : List Frame → List Frame) → (old new : Progress) → (before now : SinkTold) → Stop → Type 0
RoundStops rule has made_up old new before now BadInput = ⊥
RoundStops rule has made_up old new before now ReadFault = ⊥
RoundStops rule has made_up old new before now WriteFault = HasBroken rule has made_up old new before now
RoundStops rule has made_up old new before now NoMemory = HasGivenUp old new before now

-- the frames that wait are a round, and its replies can be counted
pub record IsRoundCounted (rule : Rule) (has : State) (replies : ℕ) : Type 0 where
  pub ready : IsRoundReady rule has
  pub room : replies + length ready.waiting < 2 ^ 63

-- a frame may come behind those that wait, which end no round
pub record IsRoundOpen (rule : Rule) (has : State) (replies : ℕ) (f : Frame) : Type 0 where
  pub rounds : List (List Frame)
  pub sents : List Sent
  pub waiting : List Frame
  pub state : has rounds sents waiting
  pub each : All (IsFrame request_table) (waiting ++ f ∷ [])
  pub open_round : IsOpen rule rounds waiting
  pub room : replies + length waiting < 2 ^ 62

-- a frame behind those that wait ends the round, or does not
abbrev pub EndsRound : Rule → State → Frame → Bool → Type 0
EndsRound rule has f ends = (rounds : List (List Frame)) (sents : List Sent) (waiting : List Frame) → has rounds sents waiting → rule.ends rounds (waiting ++ f ∷ []) ≡ ends

-- the frame waits, and does not end the round
pub record HasWaited (rule : Rule) (has has' : State) (old new : Progress) (f : Frame) (before now : SinkTold) : Type 0 where
  pub counts : new ≡ old
  pub waits : (rounds : List (List Frame)) (sents : List Sent) (waiting : List Frame) → has rounds sents waiting → has' rounds sents (waiting ++ f ∷ [])
  pub not_ended : EndsRound rule has f false
  pub untouched : now ≡ before

-- the frame waits, or has ended the round, which was served
abbrev pub Takes : Rule → (has has' : State) → (old new : Progress) → Frame → (before now : SinkTold) → Type 0
Takes rule has has' old new f before now =
    HasWaited rule has has' old new f before now
    ⊎ (EndsRound rule has f true × HasGoneOn rule has has' (with_frame f) old new before now)

-- why a frame was not taken
abbrev pub TakeStops : Rule → State → (old new : Progress) → Frame → (before now : SinkTold) → Stop → Type 0
TakeStops rule has old new f before now BadInput = ⊥
TakeStops rule has old new f before now ReadFault = ⊥
TakeStops rule has old new f before now WriteFault = EndsRound rule has f true × HasBroken rule has (with_frame f) old new before now
TakeStops rule has old new f before now NoMemory = HasGivenUp old new before now

-- The replies to these rounds were written and flushed, and the run has counted them.
pub record HasAnswered (rule : Rule) (run : Progress) (rounds : List (List Frame)) (sents : List Sent) (old now : SinkTold) : Type 0 where
  pub serves : rule.serves rounds sents
  pub few : length sents ≤ length (frames_of rounds)
  pub written : Appends old.written now.written (text_of sents)
  pub flushed : IsFlushedBehind old now (text_of sents)
  pub no_write_failed : now.faults ≡ old.faults
  pub entries : run.entries ≡ entries_of sents
  pub replies : run.replies ≡ length sents

-- where a run is seen from: what its sink told then, and the rounds that were answered by then
pub record Mark : Type 0 where
  pub sink : SinkTold
  pub answered : List (List Frame)

-- the rounds go on from those
abbrev pub GoOnFrom : Mark → (rounds : List (List Frame)) → Type 0
GoOnFrom mark rounds = (since : List (List Frame)) × (rounds ≡ mark.answered ++ since)

-- A run stands behind these bytes of its input: the ended rounds of their frames are answered, others wait, and some stand ready in the feed.
pub record Stands (rule : Rule) (has : State) (mark : Mark) (bytes : List ℕ) (feed : Feeding) (run : Progress) (now : SinkTold) : Type 0 where
  pub limit : length bytes ≤ most_bytes
  pub rounds : List (List Frame)
  pub sents : List Sent
  pub waiting : List Frame
  pub fed : HasFed feed bytes (frames_of rounds ++ waiting)
  pub requests : feed.replies ≡ false
  pub ended : AreEndedRounds rule rounds
  pub open_round : IsOpen rule rounds waiting
  pub state : has rounds sents waiting
  pub goes_on : GoOnFrom mark rounds
  pub answered : HasAnswered rule run rounds sents mark.sink now

-- it does so behind some bytes
pub record IsStanding (rule : Rule) (has : State) (feed : Feeding) (run : Progress) (now : SinkTold) : Type 0 where
  pub mark : Mark
  pub bytes : List ℕ
  pub stands : Stands rule has mark bytes feed run now

-- All whole frames of the bytes are answered.
pub record HasAnsweredAll (rule : Rule) (mark : Mark) (bytes : List ℕ) (feed : Feeding) (run : Progress) (now : SinkTold) : Type 0 where
  pub limit : length bytes ≤ most_bytes
  pub frames : List Frame
  pub cut : IsCut request_table bytes frames feed.rest feed.fault
  pub rounds : List (List Frame)
  pub fall_into : FallInto rule rounds frames
  pub sents : List Sent
  pub answered : HasAnswered rule run rounds sents mark.sink now

-- the bytes begin with these frames
pub record BeginWithFrames (bytes : List ℕ) (frames : List Frame) : Type 0 where
  pub rest : List ℕ
  pub whole : bytes ≡ frames_bytes frames ++ rest
  pub each : All (IsFrame request_table) frames

-- Memory ran out: the rounds before, all ended, are answered.
pub record IsHalted (rule : Rule) (mark : Mark) (bytes : List ℕ) (run : Progress) (now : SinkTold) : Type 0 where
  pub limit : length bytes ≤ most_bytes
  pub rounds : List (List Frame)
  pub begins : BeginWithFrames bytes (frames_of rounds)
  pub ended : AreEndedRounds rule rounds
  pub goes_on : GoOnFrom mark rounds
  pub sents : List Sent
  pub answered : HasAnswered rule run rounds sents mark.sink now

-- A write failed in a round: the rounds before, all ended, are answered, and a front of that round's replies was written.
pub record IsCutOff (rule : Rule) (mark : Mark) (bytes : List ℕ) (run : Progress) (now : SinkTold) : Type 0 where
  pub limit : length bytes ≤ most_bytes
  pub rounds : List (List Frame)
  pub round : List Frame
  pub begins : BeginWithFrames bytes (frames_of rounds ++ round)
  pub ended : AreEndedRounds rule rounds
  pub is_round : IsRoundOf rule rounds round
  pub goes_on : GoOnFrom mark rounds
  pub sents : List Sent
  pub middle : SinkTold
  pub answered : HasAnswered rule run rounds sents mark.sink middle
  pub next : List Sent
  pub serves : rule.serves (rounds ++ round ∷ []) (sents ++ next)
  pub front : (n : ℕ) × Appends middle.written now.written (take n (text_of next))
  pub flushed : now.flushed ≡ middle.flushed
  pub failed : now.faults ≡ count_on middle.faults

-- why a run stops within its bytes: where a write failed, the round was ended
abbrev pub StopsAt : Rule → Mark → (bytes : List ℕ) → Progress → (now : SinkTold) → Stop → Type 0
StopsAt rule mark bytes run now BadInput = ⊥
StopsAt rule mark bytes run now ReadFault = ⊥
StopsAt rule mark bytes run now WriteFault = (cut : IsCutOff rule mark bytes run now) × IsTrue (rule.ends cut.rounds cut.round)
StopsAt rule mark bytes run now NoMemory = IsHalted rule mark bytes run now

-- the round in which the write failed has the last whole frames of the bytes
abbrev pub HasLastFrames : (bytes : List ℕ) → Feeding → (rounds : List (List Frame)) → (round : List Frame) → Type 0
HasLastFrames bytes feed rounds round = IsCut request_table bytes (frames_of rounds ++ round) feed.rest feed.fault

-- why a run stops in its last round
abbrev pub LastStops : Rule → Mark → (bytes : List ℕ) → Feeding → Progress → (now : SinkTold) → Stop → Type 0
LastStops rule mark bytes feed run now BadInput = ⊥
LastStops rule mark bytes feed run now ReadFault = ⊥
LastStops rule mark bytes feed run now WriteFault = (cut : IsCutOff rule mark bytes run now) × HasLastFrames bytes feed cut.rounds cut.round
LastStops rule mark bytes feed run now NoMemory = IsHalted rule mark bytes run now

-- it stands behind some bytes, and so many bytes more are looked at
pub record IsStandingAt (rule : Rule) (has : State) (room : ℕ) (feed : Feeding) (run : Progress) (now : SinkTold) : Type 0 where
  pub mark : Mark
  pub bytes : List ℕ
  pub stands : Stands rule has mark bytes feed run now
  pub room_is : length bytes + room ≡ most_bytes

-- the feed met a fault, or the piece has more bytes than are looked at
abbrev pub IsBadPiece : Feeding → (room : ℕ) → (piece : List ℕ) → Type 0
IsBadPiece feed room piece = IsBadFrame feed.fault ⊎ (room < length piece)

-- a round that its last frame ended, or that has the last whole frames before a bad one
abbrev pub IsPieceRound : Rule → (bytes piece : List ℕ) → (room : ℕ) → Feeding → (rounds : List (List Frame)) → (round : List Frame) → Type 0
IsPieceRound rule bytes piece room feed rounds round =
    IsTrue (rule.ends rounds round)
    ⊎ (HasLastFrames (bytes ++ take room piece) feed rounds round × IsBadPiece feed room piece)

-- why a run stops behind a piece more
abbrev pub PieceStops : Rule → Mark → (bytes piece : List ℕ) → (room : ℕ) → Feeding → Progress → (now : SinkTold) → Stop → Type 0
PieceStops rule mark bytes piece room feed run now BadInput =
    HasAnsweredAll rule mark (bytes ++ take room piece) feed run now × IsBadPiece feed room piece
PieceStops rule mark bytes piece room feed run now ReadFault = ⊥
PieceStops rule mark bytes piece room feed run now WriteFault =
    (cut : IsCutOff rule mark (bytes ++ take room piece) run now) × IsPieceRound rule bytes piece room feed cut.rounds cut.round
PieceStops rule mark bytes piece room feed run now NoMemory = IsHalted rule mark (bytes ++ take room piece) run now

-- a run that begins: nothing was counted
pub record IsNew (run : Progress) : Type 0 where
  pub entries : run.entries ≡ 0
  pub replies : run.replies ≡ 0

-- a run seen from its beginning
abbrev pub first_mark : Ends → Mark
first_mark begun = record { sink = begun.sink; answered = [] }

-- The run has read some bytes of its input: it stands behind them, no frame stands ready, no fault was met, and no read failed.
pub record IsHearing (rule : Rule) (has : State) (begun now : Ends) (feed : Feeding) (run : Progress) (room : ℕ) : Type 0 where
  pub bytes : List ℕ
  pub stands : Stands rule has (first_mark begun) bytes feed run now.sink
  pub room_is : length bytes + room ≡ most_bytes
  pub none_ready : feed.ready ≡ []
  pub faultless : feed.fault ≡ None
  pub consumed : Consumes begun.source.left now.source.left bytes
  pub no_read_failed : now.source.faults ≡ begun.source.faults

-- what a run leaves, by how it ended
abbrev pub LeavesBy : Rule → (old new : Ends) → Served → Result ⊤ Stop → Type 0
LeavesBy rule old new served (Ok done) = LeavesDone rule old new served
LeavesBy rule old new served (Err BadInput) = LeavesBadInput rule old new served
LeavesBy rule old new served (Err ReadFault) = LeavesReadFault rule old new served
LeavesBy rule old new served (Err WriteFault) = LeavesWriteFault rule old new served
LeavesBy rule old new served (Err NoMemory) = LeavesNoMemory rule old new served

-- what it leaves, of any record with its counts
abbrev pub Leaves : Rule → (old new : Ends) → Progress → Result ⊤ Stop → Type 0
Leaves rule old new run end = (served : Served) → served.entries ≡ run.entries → served.replies ≡ run.replies → LeavesBy rule old new served end

-- the number of the status
abbrev pub status_of : Result ⊤ Stop → ℕ
status_of (Ok done) = 0
status_of (Err BadInput) = 4
status_of (Err ReadFault) = 5
status_of (Err WriteFault) = 6
status_of (Err NoMemory) = 7
