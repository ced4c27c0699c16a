-- What a run leaves of its source and its sink.
use Rattle.std.specs.Prelude.{◌≡◌, ◌⊎◌, ℕ, ◌+◌, ◌-◌, ◌<◌, ◌≤◌, Bool, false, IsTrue, List, [], ◌∷◌, ◌++◌, length, take, drop, Option, None, Some, IfSome, IsSome, Result, Ok, Err, OnOk, IfErr, ◌↔◌, ⊤}
use Rattle.std.specs.Io.KnownBytes.{Appends, Consumes}
use Rattle.std.proofs.Common.{refl, sym, ap, ◌∙◌, subst, arith, inl, inr, append_assoc, append-nil, length-append}
use Rattle.std.proofs.KnownBytes.{Appends-trans, Consumes-trans}
use Rattle.std.proofs.lemmas.List.{length-take, nil_from_length, take-append-drop, take_all}
use Rattle.std.proofs.lemmas.List.Elements.{All-nil}
use Rattle.std.proofs.Math.Seq.{take-append-add}
use Rattle.psi_outside.specs.Causes.{Rose, count_on}
use Rattle.psi_outside.specs.Ends.{Ends, SinkTold}
use Rattle.psi_outside.specs.Streams.{IsAllFlushed}
use Rattle.psi_frames.specs.declared.frame.Frame.{Frame}
use Rattle.psi_frames.specs.Frames.{AreWholeFrames, Fault, IsFrame, Short, frames_bytes, front_fault, most_bytes, request_table}
use Rattle.psi_frames.specs.Served.{Sent, text_of}
use Rattle.psi_frames.specs.Feeds.{EndsIn, Feeding, HasFed, IsCut, end_fault, table_of}
use Rattle.psi_frames.proofs.Fronts.{fault-stays}
use Rattle.query_pool.specs.declared.round.Served.{Served}
use Rattle.query_pool.specs.declared.stop.Stop.{Stop}
use Rattle.query_pool.specs.declared.stop.Stop.TheVariants.{BadInput, ReadFault, WriteFault, NoMemory}
use Rattle.query_pool.specs.Servers.{IsBeginning, State}
use Rattle.query_pool.specs.Serving.{AreEndedRounds, BeginWith, FallInto, HasReplied, HasServedBy, InputEnds, IsAnsweredInTime, IsBadFrame, IsCaughtUp, IsFlushedBehind, IsFlushedTo, IsInput, IsInputOver, IsNoBadFrame, IsOpen, KeepsUp, LeavesBadInput, LeavesDone, LeavesNoMemory, LeavesReadFault, LeavesWriteFault, NoReadFailed, OneReadFailed, Rule, frames_of}
use Rattle.query_pool.specs.Inner.Runs.{BeginWithFrames, GoOnFrom, HasAnswered, HasAnsweredAll, IsBadPiece, IsCutOff, IsHalted, IsHearing, IsNew, LastStops, Leaves, Mark, PieceStops, Progress, Stands, status_of}
use Rattle.query_pool.proofs.Going.{all-cut, ended-fall, frames-fewer, last-falls, open-none}

-- nothing stands at the front of no bytes
front-nil : front_fault request_table [] ≡ None
unfolding front_fault
front-nil = refl

-- what stands behind whole frames is what is told where the bytes end
tail-told : (tail rest : List ℕ) (fault : Option Fault) → EndsIn request_table tail rest fault → front_fault request_table tail ≡ end_fault fault rest
tail-told tail rest (Some f) e = e.0
tail-told tail [] None e = ap (front_fault request_table) e.0 ∙ front-nil
tail-told tail (b ∷ rest) None (same, inl none) = absurd (cc)
tail-told tail (b ∷ rest) None (same, inr short) = ap (front_fault request_table) same ∙ short

tail-ended : (tail rest : List ℕ) (fault : Option Fault) → EndsIn request_table tail rest fault → end_fault fault rest ≡ None → tail ≡ []
tail-ended tail rest (Some f) e none = absurd (cc)
tail-ended tail [] None e none = e.0
tail-ended tail (b ∷ rest) None e none = absurd (cc)

-- the bytes are a front of longer ones, as far as they are looked at
look-more : (bytes more : List ℕ) → length bytes ≤ most_bytes → take most_bytes (bytes ++ more) ≡ bytes ++ take (most_bytes - length bytes) more
look-more bytes more le =
    let all : most_bytes ≡ length bytes + (most_bytes - length bytes) = omega (arith, le) in
    ap (λ (n : ℕ). take n (bytes ++ more)) all ∙ take-append-add bytes more (most_bytes - length bytes)

-- bytes that end where they were cut
pub cut-whole : (bytes : List ℕ) (frames : List Frame) (rest : List ℕ) (fault : Option Fault) → length bytes ≤ most_bytes → IsCut request_table bytes frames rest fault
    → AreWholeFrames request_table bytes frames (end_fault fault rest)
cut-whole bytes frames rest fault le cut = record {
  rest = cut.tail;
  whole = take_all most_bytes bytes le ∙ cut.whole;
  each = cut.each;
  first = tail-told cut.tail rest fault cut.ended;
  ended = tail-ended cut.tail rest fault cut.ended;
}

-- bytes that go on behind a fault
cut-faulty : (bytes more : List ℕ) (frames : List Frame) (rest : List ℕ) (fault : Option Fault) (f : Fault) → length bytes ≤ most_bytes → fault ≡ Some f → (f ≡ Short → ⊥) → IsCut request_table bytes frames rest fault
    → AreWholeFrames request_table (bytes ++ more) frames (Some f)
cut-faulty bytes more frames rest fault f le met other cut =
    let behind = take (most_bytes - length bytes) more in
    let told : front_fault request_table cut.tail ≡ Some f = (subst (λ (o : Option Fault). EndsIn request_table cut.tail rest o) met cut.ended).0 in
    record {
      rest = cut.tail ++ behind;
      whole = look-more bytes more le ∙ ap (λ (t : List ℕ). t ++ behind) cut.whole ∙ append_assoc (frames_bytes frames) cut.tail behind;
      each = cut.each;
      first = fault-stays request_table cut.tail behind f told other;
      ended = λ none. absurd (cc);
    }

-- bytes that go on behind as many as are looked at
cut-long : (bytes more : List ℕ) (frames : List Frame) (rest : List ℕ) (fault : Option Fault) → length bytes ≡ most_bytes → IsCut request_table bytes frames rest fault
    → AreWholeFrames request_table (bytes ++ more) frames (end_fault fault rest)
cut-long bytes more frames rest fault size cut = record {
  rest = cut.tail;
  whole = let none : most_bytes - length bytes ≡ 0 = omega (arith, size) in look-more bytes more (omega (arith, size)) ∙ ap (λ (n : ℕ). bytes ++ take n more) none ∙ append-nil bytes ∙ cut.whole;
  each = cut.each;
  first = tail-told cut.tail rest fault cut.ended;
  ended = tail-ended cut.tail rest fault cut.ended;
}

-- the replies to all frames
replied : (rule : Rule) (run : Progress) (rounds : List (List Frame)) (frames : List Frame) (sents : List Sent) (old new : Ends) (served : Served) → FallInto rule rounds frames → served.entries ≡ run.entries
    → served.replies ≡ run.replies → HasAnswered rule run rounds sents old.sink new.sink → HasReplied rule frames old new served
replied rule run rounds frames sents old new served fall entries replies had = record {
  sents = sents;
  replies = record { rounds = rounds; fall_into = fall; serves = had.serves };
  written = had.written;
  flushed = had.flushed;
  counts = record { entries = entries ∙ had.entries; replies = replies ∙ had.replies };
  no_write_failed = had.no_write_failed;
}

-- the bytes begin with the frames
begin-with : (bytes more : List ℕ) (frames : List Frame) → length bytes ≤ most_bytes → BeginWithFrames bytes frames → BeginWith (bytes ++ more) frames
begin-with bytes more frames le begins =
    let behind = take (most_bytes - length bytes) more in
    record {
      rest = begins.rest ++ behind;
      whole = look-more bytes more le ∙ ap (λ (t : List ℕ). t ++ behind) begins.whole ∙ append_assoc (frames_bytes frames) begins.rest behind;
      each = begins.each;
    }

-- a run seen from where these rounds were answered; its sink told the same then as at the beginning
abbrev pub mark_of : Ends → List (List Frame) → Mark
mark_of old answered = record { sink = old.sink; answered = answered }

-- the last read, before which these rounds were answered
pub record IsLastRead (rule : Rule) (old new : Ends) (taken : List ℕ) (answered : List (List Frame)) : Type 0 where
  pub before : List ℕ
  pub piece : List ℕ
  pub taken_is : taken ≡ before ++ piece
  pub one_read : length piece ≤ 65536
  pub caught_up : IsCaughtUp rule before answered
  pub last_read : NoReadFailed old new ⊎ ((piece ≡ []) × OneReadFailed old new)

keeps-up : (rule : Rule) (old new : Ends) (taken : List ℕ) (answered rounds : List (List Frame)) → IsLastRead rule old new taken answered → GoOnFrom (mark_of old answered) rounds → KeepsUp rule old new taken rounds
keeps-up rule old new taken answered rounds read goes = record {
  before = read.before;
  piece = read.piece;
  taken_is = read.taken_is;
  one_read = read.one_read;
  answered = answered;
  since = goes.0;
  rounds_are = goes.1;
  caught_up = read.caught_up;
  last_read = read.last_read;
}

-- 7
pub halted : (rule : Rule) (old new : Ends) (answered : List (List Frame)) (bytes more : List ℕ) (run : Progress) (served : Served) → served.entries ≡ run.entries → served.replies ≡ run.replies
    → Consumes old.source.left new.source.left (bytes ++ more) → IsLastRead rule old new (bytes ++ more) answered → IsHalted rule (mark_of old answered) bytes run new.sink → LeavesNoMemory rule old new served
halted rule old new answered bytes more run served entries replies consumed read halt = record {
  taken = bytes ++ more;
  consumed = consumed;
  rounds = halt.rounds;
  begin_with = begin-with bytes more (frames_of halt.rounds) halt.limit halt.begins;
  ended = halt.ended;
  keeps_up = keeps-up rule old new (bytes ++ more) answered halt.rounds read halt.goes_on;
  replied = replied rule run halt.rounds (frames_of halt.rounds) halt.sents old new served (ended-fall rule halt.rounds halt.ended) entries replies halt.answered;
}

-- what a sink had flushed before the call that failed
flushed-up : (a b : Option (List ℕ)) (m n : Option ℕ) (text : List ℕ) → Appends a b text → IsAllFlushed b m → n ≡ m → IfSome a (λ bytes. IfSome n (λ count. count ≡ length bytes + length text))
flushed-up None b m n text h all e = tt
flushed-up (Some x) None m n text h all e = absurd h
flushed-up (Some x) (Some y) m n text h all e = subst (λ (o : Option ℕ). IfSome o (λ count. count ≡ length x + length text)) (sym e) (each m all)
  where
    each : (o : Option ℕ) → IsAllFlushed (Some y) o → IfSome o (λ count. count ≡ length x + length text)
    each None all = tt
    each (Some count) all = all ∙ ap length h ∙ length-append x text

flushed-to : (old new middle : SinkTold) (text : List ℕ) → Appends old.written middle.written text → IsFlushedBehind old middle text → new.flushed ≡ middle.flushed → IsFlushedTo old new text
flushed-to old new middle text h (inl all) e = inl (flushed-up old.written middle.written middle.flushed new.flushed text h all e)
flushed-to old new middle text h (inr none) e = inr (none.0, e ∙ none.1)

-- 6
pub cut_off : (rule : Rule) (old new : Ends) (answered : List (List Frame)) (bytes more : List ℕ) (run : Progress) (served : Served) → served.entries ≡ run.entries → served.replies ≡ run.replies
    → Consumes old.source.left new.source.left (bytes ++ more) → IsLastRead rule old new (bytes ++ more) answered → (cut : IsCutOff rule (mark_of old answered) bytes run new.sink)
    → IsAnsweredInTime rule old new (bytes ++ more) cut.rounds cut.round → LeavesWriteFault rule old new served
cut_off rule old new answered bytes more run served entries replies consumed read cut in_time = record {
  taken = bytes ++ more;
  consumed = consumed;
  earlier = cut.rounds;
  round = cut.round;
  begin_with = begin-with bytes more (frames_of cut.rounds ++ cut.round) cut.limit cut.begins;
  ended = cut.ended;
  is_round = cut.is_round;
  in_time = in_time;
  keeps_up = keeps-up rule old new (bytes ++ more) answered cut.rounds read cut.goes_on;
  done = cut.sents;
  done_replies = record { rounds = cut.rounds; fall_into = ended-fall rule cut.rounds cut.ended; serves = cut.answered.serves };
  last = cut.next;
  replies = record { rounds = cut.rounds ++ cut.round ∷ []; fall_into = last-falls rule cut.rounds cut.round cut.ended cut.is_round; serves = cut.serves };
  front = (cut.front.0, Appends-trans old.sink.written cut.middle.written new.sink.written (text_of cut.sents) (take cut.front.0 (text_of cut.next)) cut.answered.written cut.front.1);
  flushed = flushed-to old.sink new.sink cut.middle (text_of cut.sents) cut.answered.written cut.answered.flushed cut.flushed;
  counts = record { entries = entries ∙ cut.answered.entries; replies = replies ∙ cut.answered.replies };
  failed = omega (arith, cut.failed, cut.answered.no_write_failed, ap count_on cut.answered.no_write_failed);
}

-- 0 and 4 where the input ends
pub at-end : (rule : Rule) (old new : Ends) (answered : List (List Frame)) (feed : Feeding) (bytes : List ℕ) (run : Progress) (served : Served) → served.entries ≡ run.entries → served.replies ≡ run.replies
    → HasAnsweredAll rule (mark_of old answered) bytes feed run new.sink → IsInput old bytes → InputEnds old new → new.source.faults ≡ old.source.faults
    → end_fault feed.fault feed.rest ≡ None → LeavesDone rule old new served
at-end rule old new answered feed bytes run served entries replies all told ended read none = record {
  input = bytes;
  told = told;
  size = all.limit;
  frames = all.frames;
  whole = subst (AreWholeFrames request_table bytes all.frames) none (cut-whole bytes all.frames feed.rest feed.fault all.limit all.cut);
  replied = replied rule run all.rounds all.frames all.sents old new served all.fall_into entries replies all.answered;
  ended = ended;
  no_read_failed = read;
}

pub at-bad_end : (rule : Rule) (old new : Ends) (answered : List (List Frame)) (feed : Feeding) (bytes : List ℕ) (run : Progress) (served : Served) → served.entries ≡ run.entries → served.replies ≡ run.replies
    → HasAnsweredAll rule (mark_of old answered) bytes feed run new.sink → IsInput old bytes → NoReadFailed old new → IsSome (end_fault feed.fault feed.rest) → LeavesBadInput rule old new served
at-bad_end rule old new answered feed bytes run served entries replies all told read bad = record {
  input = bytes;
  told = told;
  frames = all.frames;
  fault = end_fault feed.fault feed.rest;
  whole = cut-whole bytes all.frames feed.rest feed.fault all.limit all.cut;
  bad = inl bad;
  replied = replied rule run all.rounds all.frames all.sents old new served all.fall_into entries replies all.answered;
  no_read_failed = read;
}

-- without a fault the bytes end behind a whole frame or within one
no-bad : (fault : Option Fault) (rest : List ℕ) → fault ≡ None → IsNoBadFrame (end_fault fault rest)
no-bad (Some f) rest e = absurd (cc)
no-bad None [] e = inl refl
no-bad None (b ∷ bs) e = inr refl

-- a run that stands has answered all but an open round
pub caught-up : (rule : Rule) (has : State) (mark : Mark) (bytes : List ℕ) (feed : Feeding) (run : Progress) (now : SinkTold) → (stands : Stands rule has mark bytes feed run now) → feed.ready ≡ [] → feed.fault ≡ None
    → IsCaughtUp rule bytes stands.rounds
caught-up rule has mark bytes feed run now stands empty none = record {
  size = stands.limit;
  waiting = stands.waiting;
  open_round = stands.open_round;
  fault = end_fault feed.fault feed.rest;
  whole = cut-whole bytes (frames_of stands.rounds ++ stands.waiting) feed.rest feed.fault stands.limit (all-cut rule has mark bytes feed run now stands empty);
  no_bad_frame = no-bad feed.fault feed.rest none;
}

-- it stands so too, seen from there
pub stands-here : (rule : Rule) (has : State) (mark : Mark) (bytes : List ℕ) (feed : Feeding) (run : Progress) (now : SinkTold) → (stands : Stands rule has mark bytes feed run now)
    → Stands rule has (record { sink = mark.sink; answered = stands.rounds }) bytes feed run now
stands-here rule has mark bytes feed run now stands = record {
  limit = stands.limit;
  rounds = stands.rounds;
  sents = stands.sents;
  waiting = stands.waiting;
  fed = stands.fed;
  requests = stands.requests;
  ended = stands.ended;
  open_round = stands.open_round;
  state = stands.state;
  goes_on = ([], sym (append-nil stands.rounds));
  answered = stands.answered;
}

-- 5
pub at-read_fault : (rule : Rule) (old new : Ends) (answered : List (List Frame)) (feed : Feeding) (bytes : List ℕ) (run : Progress) (served : Served) → served.entries ≡ run.entries → served.replies ≡ run.replies
    → HasAnsweredAll rule (mark_of old answered) bytes feed run new.sink → feed.fault ≡ None → Consumes old.source.left new.source.left bytes → OneReadFailed old new → LeavesReadFault rule old new served
at-read_fault rule old new answered feed bytes run served entries replies all faultless consumed rose = record {
  taken = bytes;
  consumed = consumed;
  size = all.limit;
  frames = all.frames;
  fault = end_fault feed.fault feed.rest;
  whole = cut-whole bytes all.frames feed.rest feed.fault all.limit all.cut;
  no_bad_frame = no-bad feed.fault feed.rest faultless;
  replied = replied rule run all.rounds all.frames all.sents old new served all.fall_into entries replies all.answered;
  failed = rose;
}

-- the bytes that are left, where they are told
abbrev known : Option (List ℕ) → List ℕ
known None = []
known (Some bytes) = bytes

told-more : (old new : Option (List ℕ)) (taken : List ℕ) → Consumes old new taken → IfSome old (λ bytes. bytes ≡ taken ++ known new)
told-more None new taken h = tt
told-more (Some bytes) None taken h = absurd h
told-more (Some bytes) (Some left) taken h = h

-- what is seen of a piece, and what is not
seen-more : (bytes piece rest : List ℕ) (room : ℕ) → (bytes ++ piece) ++ rest ≡ (bytes ++ take room piece) ++ (drop room piece ++ rest)
seen-more bytes piece rest room =
    ap (λ (t : List ℕ). (bytes ++ t) ++ rest) (sym (take-append-drop room piece))
    ∙ ap (λ (t : List ℕ). t ++ rest) (sym (append_assoc bytes (take room piece) (drop room piece)))
    ∙ append_assoc (bytes ++ take room piece) (drop room piece) rest

length-seen : (bytes piece : List ℕ) (room : ℕ) → length bytes + room ≡ most_bytes → room < length piece → length (bytes ++ take room piece) ≡ most_bytes
length-seen bytes piece room e lt = omega (arith, e, lt, length-append bytes (take room piece), length-take room piece)

-- the frames of a bad piece, whatever comes behind it
bad-whole : (bytes piece rest : List ℕ) (room : ℕ) (feed : Feeding) (frames : List Frame) → length bytes + room ≡ most_bytes → length (bytes ++ take room piece) ≤ most_bytes
    → IsCut request_table (bytes ++ take room piece) frames feed.rest feed.fault → IsBadPiece feed room piece
    → (fault : Option Fault) × AreWholeFrames request_table ((bytes ++ piece) ++ rest) frames fault × (IsBadFrame fault ⊎ (most_bytes < length ((bytes ++ piece) ++ rest)))
bad-whole bytes piece rest room feed frames e limit cut (inl met) = (
  Some met.0,
  subst (λ (t : List ℕ). AreWholeFrames request_table t frames (Some met.0)) (sym (seen-more bytes piece rest room))
      (cut-faulty (bytes ++ take room piece) (drop room piece ++ rest) frames feed.rest feed.fault met.0 limit met.1 met.2 cut),
  inl (met.0, refl, met.2),
)
bad-whole bytes piece rest room feed frames e limit cut (inr more) = (
  end_fault feed.fault feed.rest,
  subst (λ (t : List ℕ). AreWholeFrames request_table t frames (end_fault feed.fault feed.rest)) (sym (seen-more bytes piece rest room))
      (cut-long (bytes ++ take room piece) (drop room piece ++ rest) frames feed.rest feed.fault (length-seen bytes piece room e more) cut),
  inr (omega (arith, e, more, length-append bytes piece, length-append (bytes ++ piece) rest)),
)

-- a bad frame is some fault
some-bad : (fault : Option Fault) (n : ℕ) → IsBadFrame fault ⊎ (most_bytes < n) → IsSome fault ⊎ (most_bytes < n)
some-bad None n (inl bad) = absurd (let none = bad.1 in cc)
some-bad (Some f) n (inl bad) = inl refl
some-bad fault n (inr long) = inr long

-- a stop behind a piece
module _ (rule : Rule) (old new : Ends) (answered : List (List Frame)) (feed : Feeding) (bytes piece : List ℕ) (room : ℕ) (run : Progress)
    (room_is : length bytes + room ≡ most_bytes) (consumed : Consumes old.source.left new.source.left (bytes ++ piece)) (read : NoReadFailed old new) (one : length piece ≤ 65536)
    (up : IsCaughtUp rule bytes answered) where
  seen : Consumes old.source.left new.source.left ((bytes ++ take room piece) ++ drop room piece)
  seen = subst (Consumes old.source.left new.source.left) (sym (append-nil (bytes ++ piece)) ∙ seen-more bytes piece [] room ∙ ap (λ (t : List ℕ). (bytes ++ take room piece) ++ t) (append-nil (drop room piece))) consumed

  all-seen : (bytes ++ piece) ++ [] ≡ (bytes ++ take room piece) ++ drop room piece
  all-seen = seen-more bytes piece [] room ∙ ap (λ (t : List ℕ). (bytes ++ take room piece) ++ t) (append-nil (drop room piece))

  read-piece : IsLastRead rule old new ((bytes ++ take room piece) ++ drop room piece) answered
  read-piece = record { before = bytes; piece = piece; taken_is = sym all-seen ∙ append-nil (bytes ++ piece); one_read = one; caught_up = up; last_read = inl read }

  pub leaves-piece : (stop : Stop) → PieceStops rule (mark_of old answered) bytes piece room feed run new.sink stop → Leaves rule old new run (Err stop)
  leaves-piece ReadFault stops = absurd stops
  leaves-piece BadInput (all, bad) = λ served entries replies.
      let whole = bad-whole bytes piece (known new.source.left) room feed all.frames room_is all.limit all.cut bad in
      record {
        input = (bytes ++ piece) ++ known new.source.left;
        told = told-more old.source.left new.source.left (bytes ++ piece) consumed;
        frames = all.frames;
        fault = whole.0;
        whole = whole.1;
        bad = some-bad whole.0 (length ((bytes ++ piece) ++ known new.source.left)) whole.2;
        replied = replied rule run all.rounds all.frames all.sents old new served all.fall_into entries replies all.answered;
        no_read_failed = read;
      }
  leaves-piece WriteFault (cut, inl full) = λ served entries replies. cut_off rule old new answered (bytes ++ take room piece) (drop room piece) run served entries replies seen read-piece cut (inl (full, read))
  leaves-piece WriteFault (cut, inr (last, bad)) = λ served entries replies.
      let whole = bad-whole bytes piece [] room feed _ room_is cut.limit last bad in
      cut_off rule old new answered (bytes ++ take room piece) (drop room piece) run served entries replies seen read-piece cut
      (inr (record {
        fault = whole.0;
        whole = subst (λ (t : List ℕ). AreWholeFrames request_table t (frames_of cut.rounds ++ cut.round) whole.0) all-seen whole.1;
        why = inl (read, inr (subst (λ (t : List ℕ). IsBadFrame whole.0 ⊎ (most_bytes < length t)) all-seen whole.2));
      }))
  leaves-piece NoMemory stops = λ served entries replies. halted rule old new answered (bytes ++ take room piece) (drop room piece) run served entries replies seen read-piece stops

-- a stop in the last round
module _ (rule : Rule) (old new : Ends) (answered : List (List Frame)) (feed : Feeding) (bytes : List ℕ) (run : Progress)
    (consumed : Consumes old.source.left new.source.left bytes) (up : IsCaughtUp rule bytes answered) (why : (NoReadFailed old new × InputEnds old new) ⊎ OneReadFailed old new) where
  all-taken : Consumes old.source.left new.source.left (bytes ++ [])
  all-taken = subst (Consumes old.source.left new.source.left) (sym (append-nil bytes)) consumed

  no-piece : (piece : List ℕ) → piece ≡ [] → (NoReadFailed old new × InputEnds old new) ⊎ OneReadFailed old new → NoReadFailed old new ⊎ ((piece ≡ []) × OneReadFailed old new)
  no-piece piece none (inl ended) = inl ended.0
  no-piece piece none (inr failed) = inr (none, failed)

  is-over : (fault : Option Fault) → (NoReadFailed old new × InputEnds old new) ⊎ OneReadFailed old new → IsInputOver old new (bytes ++ []) fault ⊎ OneReadFailed old new
  is-over fault (inl ended) = inl (ended.0, inl ended.1)
  is-over fault (inr failed) = inr failed

  read-last : IsLastRead rule old new (bytes ++ []) answered
  read-last = record { before = bytes; piece = []; taken_is = refl; one_read = omega arith; caught_up = up; last_read = no-piece [] refl why }

  pub leaves-last : (stop : Stop) → LastStops rule (mark_of old answered) bytes feed run new.sink stop → Leaves rule old new run (Err stop)
  leaves-last ReadFault stops = absurd stops
  leaves-last BadInput stops = absurd stops
  leaves-last WriteFault (cut, last) = λ served entries replies.
      let fault = end_fault feed.fault feed.rest in
      cut_off rule old new answered bytes [] run served entries replies all-taken read-last cut
      (inr (record {
        fault = fault;
        whole = subst (λ (t : List ℕ). AreWholeFrames request_table t (frames_of cut.rounds ++ cut.round) fault) (sym (append-nil bytes)) (cut-whole bytes _ feed.rest feed.fault cut.limit last);
        why = is-over fault why;
      }))
  leaves-last NoMemory stops = λ served entries replies. halted rule old new answered bytes [] run served entries replies all-taken read-last stops

-- the end of the input, by whether it may end there
pub leaves-end : (rule : Rule) (old new : Ends) (answered : List (List Frame)) (feed : Feeding) (bytes : List ℕ) (run : Progress) (r : Result ⊤ Stop) → HasAnsweredAll rule (mark_of old answered) bytes feed run new.sink
    → IsInput old bytes → InputEnds old new → NoReadFailed old new → OnOk r (end_fault feed.fault feed.rest ≡ None)
    → IfErr r (λ stop. (stop ≡ BadInput) × IsSome (end_fault feed.fault feed.rest)) → Leaves rule old new run r
leaves-end rule old new answered feed bytes run (Ok done) all told ended read ok err = λ served entries replies. at-end rule old new answered feed bytes run served entries replies all told ended read ok
leaves-end rule old new answered feed bytes run (Err stop) all told ended read ok err =
    subst (λ (s : Stop). Leaves rule old new run (Err s)) (sym err.0)
    (λ served entries replies. at-bad_end rule old new answered feed bytes run served entries replies all told read err.1)

-- what the last read tells, where it gave nothing
module _ (old mid new : Option (List ℕ)) (bytes : List ℕ) (n : ℕ) (buf : List ℕ) (none : n ≡ 0) (before : Consumes old mid bytes) (now : Consumes mid new (take n buf)) where
  pub end-consumed : Consumes old new bytes
  end-consumed =
      subst (Consumes old new) (append-nil bytes)
      (Consumes-trans old mid new bytes [] before (subst (Consumes mid new) (ap (λ (k : ℕ). take k buf) none) now))

  by_end : (old mid : Option (List ℕ)) → Consumes old mid bytes → IfSome mid (λ left. left ≡ []) → IfSome old (λ all. all ≡ bytes)
  by_end None mid h e = tt
  by_end (Some all) None h e = absurd h
  by_end (Some all) (Some left) h e = h ∙ ap (λ (t : List ℕ). bytes ++ t) e ∙ append-nil bytes

  ended : IfSome mid (λ left. (n ≡ 0) ↔ (left ≡ [])) → IfSome mid (λ left. left ≡ [])
  ended exact = by_mid mid exact where
    by_mid : (m : Option (List ℕ)) → IfSome m (λ left. (n ≡ 0) ↔ (left ≡ [])) → IfSome m (λ left. left ≡ [])
    by_mid None e = tt
    by_mid (Some left) e = e.0 none

  pub end-told : IfSome mid (λ left. (n ≡ 0) ↔ (left ≡ [])) → IfSome old (λ all. all ≡ bytes)
  end-told exact = by_end old mid before (ended exact)

  pub end-left : IfSome mid (λ left. (n ≡ 0) ↔ (left ≡ [])) → IfSome old (λ _. new ≡ Some [])
  end-left exact = by_left old new end-consumed (end-told exact) where
    by_left : (old new : Option (List ℕ)) → Consumes old new bytes → IfSome old (λ all. all ≡ bytes) → IfSome old (λ _. new ≡ Some [])
    by_left None new h e = tt
    by_left (Some all) None h e = absurd h
    by_left (Some all) (Some left) h e = ap Some (append_same bytes left (sym e ∙ h)) where
      append_same : (xs ys : List ℕ) → xs ≡ xs ++ ys → ys ≡ []
      append_same xs ys same = nil_from_length ys (omega (arith, ap length same, length-append xs ys))

-- one read gives as much as its buffer holds
pub one-piece : (n : ℕ) (buf : List ℕ) → n ≤ 65536 → length (take n buf) ≤ 65536
one-piece n buf le = omega (arith, le, length-take n buf)

pub one-failed : (a b c : ℕ) → b ≡ a → c ≡ count_on b → c ≡ count_on a
one-failed a b c same on = on ∙ ap count_on same

-- A run that begins.
consumes-nil : (left : Option (List ℕ)) → Consumes left left []
consumes-nil None = tt
consumes-nil (Some bytes) = refl

appends-nil : (written : Option (List ℕ)) → Appends written written []
appends-nil None = tt
appends-nil (Some bytes) = sym (append-nil bytes)

new-answered : (rule : Rule) (has : State) (run : Progress) (now : SinkTold) → IsNew run → IsBeginning rule has → HasAnswered rule run [] [] now now
new-answered rule has run now new begins = record {
  serves = begins.serves;
  few = omega arith;
  written = appends-nil now.written;
  flushed = inr (refl, refl);
  no_write_failed = refl;
  entries = new.entries;
  replies = new.replies;
}

none-ended : (rule : Rule) → AreEndedRounds rule []
none-ended rule k lt = absurd (omega (arith, lt))

-- the last read before any
none-read : (rule : Rule) (now : Ends) → IsLastRead rule now now [] []
none-read rule now = record {
  before = [];
  piece = [];
  taken_is = refl;
  one_read = omega arith;
  caught_up = record {
    size = omega arith;
    waiting = [];
    open_round = open-none rule [];
    fault = None;
    whole = record { rest = []; whole = refl; each = All-nil (IsFrame request_table); first = front-nil; ended = λ _. refl };
    no_bad_frame = inl refl;
  };
  last_read = inl refl;
}

-- want of memory before the first read
pub leaves-new : (rule : Rule) (has : State) (now : Ends) (run : Progress) → IsNew run → IsBeginning rule has → Leaves rule now now run (Err NoMemory)
leaves-new rule has now run new begins = λ served entries replies.
    halted rule now now [] [] [] run served entries replies (consumes-nil now.source.left) (none-read rule now) (record {
      limit = omega arith;
      rounds = [];
      begins = record { rest = []; whole = refl; each = All-nil (IsFrame request_table) };
      ended = none-ended rule;
      goes_on = ([], refl);
      sents = [];
      answered = new-answered rule has run now.sink new begins;
    })

-- a feed to which nothing was fed
none_ready : (feed : Feeding) → HasFed feed [] [] → feed.ready ≡ []
none_ready feed fed =
    let size = ap length fed.whole ∙ length-append (frames_bytes feed.ready) fed.tail in
    nil_from_length feed.ready (omega (arith, size, frames-fewer feed.ready))

faultless : (feed : Feeding) → HasFed feed [] [] → feed.replies ≡ false → feed.fault ≡ None
faultless feed fed requests = by_fault feed.fault (subst (λ (b : Bool). EndsIn (table_of b) fed.tail feed.rest feed.fault) requests fed.ended) where
  none : fed.tail ≡ []
  none = let size = ap length fed.whole ∙ length-append (frames_bytes feed.ready) fed.tail in nil_from_length fed.tail (omega (arith, size))

  by_fault : (fault : Option Fault) → EndsIn request_table fed.tail feed.rest fault → fault ≡ None
  by_fault None e = refl
  by_fault (Some f) e = absurd (let met = sym front-nil ∙ sym (ap (front_fault request_table) none) ∙ e.0 in cc)

pub new-hears : (rule : Rule) (has : State) (now : Ends) (feed : Feeding) (run : Progress) → IsNew run → IsBeginning rule has → HasFed feed [] [] → feed.replies ≡ false
    → IsHearing rule has now now feed run most_bytes
new-hears rule has now feed run new begins fed requests = record {
  bytes = [];
  stands = record {
    limit = omega arith;
    rounds = [];
    sents = [];
    waiting = [];
    fed = fed;
    requests = requests;
    ended = none-ended rule;
    open_round = open-none rule [];
    state = begins.state;
    goes_on = ([], refl);
    answered = new-answered rule has run now.sink new begins;
  };
  room_is = omega arith;
  none_ready = none_ready feed fed;
  faultless = faultless feed fed requests;
  consumed = consumes-nil now.source.left;
  no_read_failed = refl;
}

-- want of memory before anything was read
pub none-served : (rule : Rule) (now : Ends) (served : Served) → rule.serves [] [] → served.status ≡ 7 → served.entries ≡ 0 → served.replies ≡ 0 → HasServedBy rule now now served
none-served rule now served serves status entries replies =
    let has : State = λ rounds sents waiting. ⊤ in
    let run : Progress = record { entries = 0; replies = 0 } in
    let new : IsNew run = record { entries = refl; replies = refl } in
    record {
      statuses = inr (inr (inr (inr status)));
      done = λ e. absurd (omega (arith, e, status));
      bad_input = λ e. absurd (omega (arith, e, status));
      read_fault = λ e. absurd (omega (arith, e, status));
      write_fault = λ e. absurd (omega (arith, e, status));
      no_memory = λ e. leaves-new rule has now run new (record { state = tt; serves = serves }) served entries replies;
    }

-- what a run leaves, by its status
pub served-by : (rule : Rule) (old new : Ends) (run : Progress) (end : Result ⊤ Stop) (served : Served) → served.status ≡ status_of end → served.entries ≡ run.entries → served.replies ≡ run.replies
    → Leaves rule old new run end → HasServedBy rule old new served
served-by rule old new run (Ok done) served is entries replies leaves = record {
  statuses = inl is;
  done = λ e. leaves served entries replies;
  bad_input = λ e. absurd (omega (arith, e, is));
  read_fault = λ e. absurd (omega (arith, e, is));
  write_fault = λ e. absurd (omega (arith, e, is));
  no_memory = λ e. absurd (omega (arith, e, is));
}
served-by rule old new run (Err BadInput) served is entries replies leaves = record {
  statuses = inr (inl is);
  done = λ e. absurd (omega (arith, e, is));
  bad_input = λ e. leaves served entries replies;
  read_fault = λ e. absurd (omega (arith, e, is));
  write_fault = λ e. absurd (omega (arith, e, is));
  no_memory = λ e. absurd (omega (arith, e, is));
}
served-by rule old new run (Err ReadFault) served is entries replies leaves = record {
  statuses = inr (inr (inl is));
  done = λ e. absurd (omega (arith, e, is));
  bad_input = λ e. absurd (omega (arith, e, is));
  read_fault = λ e. leaves served entries replies;
  write_fault = λ e. absurd (omega (arith, e, is));
  no_memory = λ e. absurd (omega (arith, e, is));
}
served-by rule old new run (Err WriteFault) served is entries replies leaves = record {
  statuses = inr (inr (inr (inl is)));
  done = λ e. absurd (omega (arith, e, is));
  bad_input = λ e. absurd (omega (arith, e, is));
  read_fault = λ e. absurd (omega (arith, e, is));
  write_fault = λ e. leaves served entries replies;
  no_memory = λ e. absurd (omega (arith, e, is));
}
served-by rule old new run (Err NoMemory) served is entries replies leaves = record {
  statuses = inr (inr (inr (inr is)));
  done = λ e. absurd (omega (arith, e, is));
  bad_input = λ e. absurd (omega (arith, e, is));
  read_fault = λ e. absurd (omega (arith, e, is));
  write_fault = λ e. absurd (omega (arith, e, is));
  no_memory = λ e. leaves served entries replies;
}
