-- A run that goes on: with a frame that waits, with a round that is served, and to the last round.
use Rattle.std.specs.Prelude.{◌≡◌, ℕ, ◌+◌, ◌<◌, ◌≤◌, Bool, true, false, nat_le, IsTrue, IsFalse, List, [], ◌∷◌, ◌++◌, length, take, drop, Result, Ok, Err, OnOk, IfErr, slice_index_or}
use Rattle.std.specs.List.{All}
use Rattle.std.specs.Io.KnownBytes.{Appends}
use Rattle.std.proofs.Common.{refl, sym, ap, ◌∙◌, subst, arith, inl, inr, append_assoc, append-nil, length-append}
use Rattle.std.proofs.KnownBytes.{Appends-trans}
use Rattle.std.proofs.Math.ListN.{get_or-append}
use Rattle.std.proofs.Math.Seq.{drop-append_seam, take-append_seam}
use Rattle.std.proofs.lemmas.Bool.Decides.{nat_tests}
use Rattle.std.proofs.lemmas.List.{take-append-le, take_all}
use Rattle.std.proofs.lemmas.List.Concat.{flat_map-append}
use Rattle.std.proofs.lemmas.List.Elements.{All-drop, All-same, All-take}
use Rattle.psi_outside.specs.Causes.{count_on}
use Rattle.psi_outside.specs.Ends.{SinkTold}
use Rattle.psi_frames.specs.declared.frame.Frame.{Frame}
use Rattle.psi_frames.specs.Frames.{IsFrame, frame_bytes, frames_bytes, most_bytes, request_table}
use Rattle.psi_frames.specs.Served.{Sent, text_of}
use Rattle.psi_frames.specs.Feeds.{Feeding, HasFed, IsCut, table_of}
use Rattle.psi_frames.proofs.FrameLaws.{length-frame_append}
use Rattle.query_pool.specs.declared.stop.Stop.{Stop}
use Rattle.query_pool.specs.declared.stop.Stop.TheVariants.{BadInput, ReadFault, WriteFault, NoMemory}
use Rattle.query_pool.specs.Serving.{AreEndedRounds, FallInto, IsEndedRound, IsOpen, IsRoundOf, Rule, entries_of, frames_of}
use Rattle.query_pool.specs.Servers.{AnswersRound, IsRoundReady, State}
use Rattle.query_pool.specs.Inner.Runs.{BeginWithFrames, EndsRound, GoOnFrom, HasAnswered, HasAnsweredAll, HasBroken, HasGivenUp, HasGoneOn, HasLastFrames, HasWaited, IsCutOff, IsHalted, IsRoundCounted, IsRoundOpen, LastStops, Mark, Progress, RoundStops, Stands, StopsAt, TakeStops, Takes, as_they_are, with_frame}

pub frames-more : (rounds : List (List Frame)) (round : List Frame) → frames_of (rounds ++ round ∷ []) ≡ frames_of rounds ++ round
frames-more rounds round = flat_map-append (λ (r : List Frame). r) rounds (round ∷ []) ∙ ap (λ (fs : List Frame). frames_of rounds ++ fs) (append-nil round)

-- frames have at least one byte each
pub frames-fewer : (fs : List Frame) → length fs ≤ length (frames_bytes fs)
frames-fewer [] = omega arith
frames-fewer (f ∷ fs) = let rest = frames-fewer fs in omega (arith, rest, length-frame_append f (frames_bytes fs))

last-of : (rounds : List (List Frame)) (round : List Frame) → slice_index_or (rounds ++ round ∷ []) (length rounds) [] ≡ round
last-of [] round = refl
last-of (r ∷ rs) round = last-of rs round

-- what holds of each round behind those before it, and of one more, holds of each
pub rounds-each : (P : List (List Frame) → List Frame → Type 0) (rounds : List (List Frame)) (round : List Frame) → ((k : ℕ) → k < length rounds → P (take k rounds) (slice_index_or rounds k [])) → P rounds round
    → (k : ℕ) → k < length (rounds ++ round ∷ []) → P (take k (rounds ++ round ∷ [])) (slice_index_or (rounds ++ round ∷ []) k [])
rounds-each P rounds round each last k lt = by_test (nat_le (k + 1) (length rounds)) refl where
  by_test : (b : Bool) → nat_le (k + 1) (length rounds) ≡ b → P (take k (rounds ++ round ∷ [])) (slice_index_or (rounds ++ round ∷ []) k [])
  by_test true test =
      let less : k < length rounds = grind (arith, nat_tests, test) in
      subst (λ (r : List Frame). P (take k (rounds ++ round ∷ [])) r) (sym (get_or-append rounds (round ∷ []) [] k less))
      (subst (λ (before : List (List Frame)). P before (slice_index_or rounds k [])) (sym (take-append-le k rounds (round ∷ []) (omega (arith, less)))) (each k less))
  by_test false test =
      let le : length rounds ≤ k = grind (arith, nat_tests, test) in
      let same : length rounds ≡ k = omega (arith, le, lt, length-append rounds (round ∷ [])) in
      subst (λ (n : ℕ). P (take n (rounds ++ round ∷ [])) (slice_index_or (rounds ++ round ∷ []) n [])) same
      (subst (λ (before : List (List Frame)). P before (slice_index_or (rounds ++ round ∷ []) (length rounds) [])) (sym (take-append_seam rounds (round ∷ [])))
      (subst (λ (r : List Frame). P rounds r) (sym (last-of rounds round)) last))

-- Rounds that are served.
module _ (rule : Rule) where
  -- one round more that is ended
  pub ended-more : (rounds : List (List Frame)) (round : List Frame) → AreEndedRounds rule rounds → IsRoundOf rule rounds round → IsTrue (rule.ends rounds round) → AreEndedRounds rule (rounds ++ round ∷ [])
  ended-more rounds round are is ended = rounds-each (IsEndedRound rule) rounds round are (record { is_round = is; ended = ended })

  -- rounds, all ended but the last
  pub last-falls : (rounds : List (List Frame)) (round : List Frame) → AreEndedRounds rule rounds → IsRoundOf rule rounds round → FallInto rule (rounds ++ round ∷ []) (frames_of rounds ++ round)
  last-falls rounds round are is = record {
    all = sym (frames-more rounds round);
    each = rounds-each (IsRoundOf rule) rounds round (λ k lt. (are k lt).is_round) is;
    ended = λ k lt.
        let less : k < length rounds = omega (arith, lt, length-append rounds (round ∷ [])) in
        subst (λ (r : List Frame). IsTrue (rule.ends (take k (rounds ++ round ∷ [])) r)) (sym (get_or-append rounds (round ∷ []) [] k less))
        (subst (λ (before : List (List Frame)). IsTrue (rule.ends before (slice_index_or rounds k []))) (sym (take-append-le k rounds (round ∷ []) (omega (arith, less)))) (are k less).ended);
  }

  pub ended-fall : (rounds : List (List Frame)) → AreEndedRounds rule rounds → FallInto rule rounds (frames_of rounds)
  ended-fall rounds are = record { all = refl; each = λ k lt. (are k lt).is_round; ended = λ k lt. (are k (omega (arith, lt))).ended }

  -- no frames are open
  pub open-none : (rounds : List (List Frame)) → IsOpen rule rounds []
  open-none rounds k le = ap (rule.ends rounds) (take_all k [] (omega arith)) ∙ rule.none_ends rounds

  -- a frame behind open frames
  pub open-round : (rounds : List (List Frame)) (w : List Frame) (f : Frame) → IsOpen rule rounds w → IsRoundOf rule rounds (w ++ f ∷ [])
  open-round rounds w f opens = record {
    some = omega (arith, length-append w (f ∷ []));
    first_end = λ k lt.
        let le : k ≤ length w = omega (arith, lt, length-append w (f ∷ [])) in
        ap (rule.ends rounds) (take-append-le k w (f ∷ []) le) ∙ opens k le;
  }

  pub open-more : (rounds : List (List Frame)) (w : List Frame) (f : Frame) → IsOpen rule rounds w → IsFalse (rule.ends rounds (w ++ f ∷ [])) → IsOpen rule rounds (w ++ f ∷ [])
  open-more rounds w f opens not_ended k le = by_test (nat_le k (length w)) refl where
    by_test : (b : Bool) → nat_le k (length w) ≡ b → IsFalse (rule.ends rounds (take k (w ++ f ∷ [])))
    by_test true test = let less : k ≤ length w = grind (arith, nat_tests, test) in ap (rule.ends rounds) (take-append-le k w (f ∷ []) less) ∙ opens k less
    by_test false test =
        let more : length w < k = grind (arith, nat_tests, test) in
        ap (rule.ends rounds) (take_all k (w ++ f ∷ []) (omega (arith, more, length-append w (f ∷ [])))) ∙ not_ended

  -- some open frames are a round
  pub open-some : (rounds : List (List Frame)) (w : List Frame) → IsOpen rule rounds w → 0 < length w → IsRoundOf rule rounds w
  open-some rounds w opens some = record { some = some; first_end = λ k lt. opens k (omega (arith, lt)) }

-- one round more is answered
pub answered-more : (rule : Rule) (has has' : State) (made_up : List Frame → List Frame) (run new : Progress) (rounds : List (List Frame)) (waiting : List Frame) (sents : List Sent) (old before now : SinkTold)
    → HasAnswered rule run rounds sents old before → has rounds sents waiting → (gone : HasGoneOn rule has has' made_up run new before now)
    → HasAnswered rule new (rounds ++ made_up waiting ∷ []) (sents ++ gone.next) old now
answered-more rule has has' made_up run new rounds waiting sents old before now had state gone =
    let round = made_up waiting in
    record {
      serves = gone.answers.serves rounds sents waiting state;
      few = let all = ap length (frames-more rounds round) in let own = gone.answers.few rounds sents waiting state in omega (arith, had.few, own, all, length-append sents gone.next, length-append (frames_of rounds) round);
      written = subst (λ (t : List ℕ). Appends old.written now.written t) (sym (flat_map-append _ sents gone.next))
          (Appends-trans old.written before.written now.written (text_of sents) (text_of gone.next) had.written gone.written);
      flushed = inl gone.flushed;
      no_write_failed = gone.no_write_failed ∙ had.no_write_failed;
      entries = gone.entries (rounds ++ round ∷ []) (sents ++ gone.next) [] (gone.answers.goes_on rounds sents waiting state);
      replies = omega (arith, gone.replies, had.replies, length-append sents gone.next);
    }

front-each : (xs ys : List Frame) → All (IsFrame request_table) (xs ++ ys) → All (IsFrame request_table) xs
front-each xs ys each = All-same (IsFrame request_table) xs (take (length xs) (xs ++ ys)) (sym (take-append_seam xs ys)) (All-take (IsFrame request_table) (length xs) (xs ++ ys) each)

-- one round more goes on too
goes-more : (mark : Mark) (rounds : List (List Frame)) (round : List Frame) → GoOnFrom mark rounds → GoOnFrom mark (rounds ++ round ∷ [])
goes-more mark rounds round goes = (goes.0 ++ round ∷ [], ap (λ (rs : List (List Frame)). rs ++ round ∷ []) goes.1 ∙ append_assoc mark.answered goes.0 (round ∷ []))

-- The frames of a run that stands.
module _ (rule : Rule) (has : State) (mark : Mark) (bytes : List ℕ) (feed : Feeding) (run : Progress) (now : SinkTold) (stands : Stands rule has mark bytes feed run now) where
  pub each-frame : All (IsFrame request_table) ((frames_of stands.rounds ++ stands.waiting) ++ feed.ready)
  each-frame = subst (λ (b : Bool). All (IsFrame (table_of b)) ((frames_of stands.rounds ++ stands.waiting) ++ feed.ready)) stands.requests stands.fed.each

  -- those that wait or stand ready
  pub each-left : All (IsFrame request_table) (stands.waiting ++ feed.ready)
  each-left =
      let all = frames_of stands.rounds ++ (stands.waiting ++ feed.ready) in
      let each = All-same (IsFrame request_table) all ((frames_of stands.rounds ++ stands.waiting) ++ feed.ready) (sym (append_assoc (frames_of stands.rounds) stands.waiting feed.ready)) each-frame in
      All-same (IsFrame request_table) (stands.waiting ++ feed.ready) (drop (length (frames_of stands.rounds)) all) (sym (drop-append_seam (frames_of stands.rounds) (stands.waiting ++ feed.ready)))
      (All-drop (IsFrame request_table) (length (frames_of stands.rounds)) all each)

  pub each-waiting : All (IsFrame request_table) stands.waiting
  each-waiting = front-each stands.waiting feed.ready each-left

  pub each-taken : (f : Frame) (more : List Frame) → feed.ready ≡ f ∷ more → All (IsFrame request_table) (stands.waiting ++ f ∷ [])
  each-taken f more e =
      front-each (stands.waiting ++ f ∷ []) more
      (All-same (IsFrame request_table) ((stands.waiting ++ f ∷ []) ++ more) (stands.waiting ++ feed.ready)
      (append_assoc stands.waiting (f ∷ []) more ∙ ap (λ (r : List Frame). stands.waiting ++ r) (sym e)) each-left)

  -- the count of replies has room for theirs
  pub replies-room : run.replies + length stands.waiting + length feed.ready ≤ most_bytes
  replies-room =
      let framed = frames-fewer ((frames_of stands.rounds ++ stands.waiting) ++ feed.ready) in
      let size = ap length stands.fed.whole ∙ length-append (frames_bytes ((frames_of stands.rounds ++ stands.waiting) ++ feed.ready)) stands.fed.tail in
      omega (arith, framed, size, stands.limit, stands.answered.few, stands.answered.replies, length-append (frames_of stands.rounds ++ stands.waiting) feed.ready, length-append (frames_of stands.rounds) stands.waiting)

  pub round-open : (f : Frame) (more : List Frame) → feed.ready ≡ f ∷ more → IsRoundOpen rule has run.replies f
  round-open f more e = record {
    rounds = stands.rounds;
    sents = stands.sents;
    waiting = stands.waiting;
    state = stands.state;
    each = each-taken f more e;
    open_round = stands.open_round;
    room = omega (arith, replies-room);
  }

  pub round-counted : 0 < length stands.waiting → IsRoundCounted rule has run.replies
  round-counted some = record {
    ready = record {
      rounds = stands.rounds;
      sents = stands.sents;
      waiting = stands.waiting;
      state = stands.state;
      each = each-waiting;
      is_round = open-some rule stands.rounds stands.waiting stands.open_round some;
    };
    room = omega (arith, replies-room);
  }

  -- the bytes begin with some of the frames
  pub begins : (frames rest : List Frame) → (frames_of stands.rounds ++ stands.waiting) ++ feed.ready ≡ frames ++ rest → BeginWithFrames bytes frames
  begins frames rest e = record {
    rest = frames_bytes rest ++ stands.fed.tail;
    whole = stands.fed.whole
        ∙ ap (λ (t : List ℕ). t ++ stands.fed.tail) (ap frames_bytes e ∙ flat_map-append frame_bytes frames rest)
        ∙ append_assoc (frames_bytes frames) (frames_bytes rest) stands.fed.tail;
    each = All-same (IsFrame request_table) frames (take (length frames) (frames ++ rest)) (sym (take-append_seam frames rest))
        (All-take (IsFrame request_table) (length frames) (frames ++ rest) (All-same (IsFrame request_table) (frames ++ rest) ((frames_of stands.rounds ++ stands.waiting) ++ feed.ready) (sym e) each-frame));
  }

  -- memory ran out, and nothing was written
  pub halts : (new : Progress) (after : SinkTold) → HasGivenUp run new now after → IsHalted rule mark bytes new after
  halts new after gave_up = record {
    limit = stands.limit;
    rounds = stands.rounds;
    begins = begins (frames_of stands.rounds) (stands.waiting ++ feed.ready) (append_assoc (frames_of stands.rounds) stands.waiting feed.ready);
    ended = stands.ended;
    goes_on = stands.goes_on;
    sents = stands.sents;
    answered = subst (λ (r : Progress). HasAnswered rule r stands.rounds stands.sents mark.sink after) (sym gave_up.counts)
        (subst (λ (s : SinkTold). HasAnswered rule run stands.rounds stands.sents mark.sink s) (sym gave_up.untouched) stands.answered);
  }

  -- a write failed in the round that waited, or in the one that a frame more ended
  abbrev pub cuts-off : (made_up : List Frame → List Frame) (new : Progress) (after : SinkTold) (round rest : List Frame) → round ≡ made_up stands.waiting
      → (frames_of stands.rounds ++ stands.waiting) ++ feed.ready ≡ (frames_of stands.rounds ++ round) ++ rest
      → IsRoundOf rule stands.rounds round → HasBroken rule has made_up run new now after → IsCutOff rule mark bytes new after
  cuts-off made_up new after round rest made e is broken = record {
    limit = stands.limit;
    rounds = stands.rounds;
    round = round;
    begins = begins (frames_of stands.rounds ++ round) rest e;
    ended = stands.ended;
    is_round = is;
    goes_on = stands.goes_on;
    sents = stands.sents;
    middle = now;
    answered = subst (λ (r : Progress). HasAnswered rule r stands.rounds stands.sents mark.sink now) (sym broken.counts) stands.answered;
    next = broken.next;
    serves = subst (λ (r : List Frame). rule.serves (stands.rounds ++ r ∷ []) (stands.sents ++ broken.next)) (sym made) (broken.serves stands.rounds stands.sents stands.waiting stands.state);
    front = broken.front;
    flushed = broken.flushed;
    failed = broken.failed;
  }

-- One frame more is taken.
module _ (rule : Rule) (has has' : State) (mark : Mark) (bytes : List ℕ) (feed feed' : Feeding) (run run' : Progress) (now now' : SinkTold) (f : Frame) (stands : Stands rule has mark bytes feed run now)
    (taken : feed ≡ record feed' { ready = f ∷ feed'.ready })
    (fed : (all : List ℕ) (frames : List Frame) → HasFed feed all frames → HasFed feed' all (frames ++ f ∷ [])) where
  moved : HasFed feed' bytes (frames_of stands.rounds ++ (stands.waiting ++ f ∷ []))
  moved = subst (HasFed feed' bytes) (append_assoc (frames_of stands.rounds) stands.waiting (f ∷ [])) (fed bytes (frames_of stands.rounds ++ stands.waiting) stands.fed)

  requests : feed'.replies ≡ false
  requests = sym (ap (λ (g : Feeding). g.replies) taken) ∙ stands.requests

  waited : HasWaited rule has has' run run' f now now' → Stands rule has' mark bytes feed' run' now'
  waited waits =
      subst (λ (r : Progress). Stands rule has' mark bytes feed' r now') (sym waits.counts)
      (subst (λ (s : SinkTold). Stands rule has' mark bytes feed' run s) (sym waits.untouched)
      (record {
        limit = stands.limit;
        rounds = stands.rounds;
        sents = stands.sents;
        waiting = stands.waiting ++ f ∷ [];
        fed = moved;
        requests = requests;
        ended = stands.ended;
        open_round = open-more rule stands.rounds stands.waiting f stands.open_round (waits.not_ended stands.rounds stands.sents stands.waiting stands.state);
        state = waits.waits stands.rounds stands.sents stands.waiting stands.state;
        goes_on = stands.goes_on;
        answered = stands.answered;
      }))

  filled : EndsRound rule has f true → HasGoneOn rule has has' (with_frame f) run run' now now' → Stands rule has' mark bytes feed' run' now'
  filled ends gone =
      let round = stands.waiting ++ f ∷ [] in
      let rounds = stands.rounds ++ round ∷ [] in
      record {
        limit = stands.limit;
        rounds = rounds;
        sents = stands.sents ++ gone.next;
        waiting = [];
        fed = subst (HasFed feed' bytes) (sym (append-nil (frames_of rounds) ∙ frames-more stands.rounds round)) moved;
        requests = requests;
        ended = ended-more rule stands.rounds round stands.ended (open-round rule stands.rounds stands.waiting f stands.open_round) (ends stands.rounds stands.sents stands.waiting stands.state);
        open_round = open-none rule rounds;
        state = gone.answers.goes_on stands.rounds stands.sents stands.waiting stands.state;
        goes_on = goes-more mark stands.rounds round stands.goes_on;
        answered = answered-more rule has has' (with_frame f) run run' stands.rounds stands.waiting stands.sents mark.sink now now' stands.answered stands.state gone;
      }

  pub stands-take : Takes rule has has' run run' f now now' → Stands rule has' mark bytes feed' run' now'
  stands-take (inl waits) = waited waits
  stands-take (inr full) = filled full.0 full.1

  all-are : (frames_of stands.rounds ++ stands.waiting) ++ feed.ready ≡ (frames_of stands.rounds ++ (stands.waiting ++ f ∷ [])) ++ feed'.ready
  all-are =
      ap (λ (g : Feeding). (frames_of stands.rounds ++ stands.waiting) ++ g.ready) taken
      ∙ sym (append_assoc (frames_of stands.rounds ++ stands.waiting) (f ∷ []) feed'.ready)
      ∙ ap (λ (fs : List Frame). fs ++ feed'.ready) (append_assoc (frames_of stands.rounds) stands.waiting (f ∷ []))

  pub stops-take : (stop : Stop) → TakeStops rule has run run' f now now' stop → StopsAt rule mark bytes run' now' stop
  stops-take BadInput stops = stops
  stops-take ReadFault stops = stops
  stops-take WriteFault stops = (
    cuts-off rule has mark bytes feed run now stands (with_frame f) run' now' (stands.waiting ++ f ∷ []) feed'.ready refl all-are (open-round rule stands.rounds stands.waiting f stands.open_round) stops.1,
    stops.0 stands.rounds stands.sents stands.waiting stands.state,
  )
  stops-take NoMemory stops = halts rule has mark bytes feed run now stands run' now' stops

-- A frame behind those that wait, as the server counts it.
module _ (rule : Rule) (has mid : State) (f : Frame)
    (pushed : (rounds : List (List Frame)) (sents : List Sent) (waiting : List Frame) → has rounds sents waiting → mid rounds sents (waiting ++ f ∷ [])) where
  pub ends-with : (ends : Bool) → ((rounds : List (List Frame)) (sents : List Sent) (waiting : List Frame) → mid rounds sents waiting → rule.ends rounds waiting ≡ ends) → EndsRound rule has f ends
  ends-with ends ended rounds sents waiting state = ended rounds sents (waiting ++ f ∷ []) (pushed rounds sents waiting state)

  pub counted-with : (replies : ℕ) → IsRoundOpen rule has replies f → IsRoundCounted rule mid replies
  counted-with replies opens = record {
    ready = record {
      rounds = opens.rounds;
      sents = opens.sents;
      waiting = opens.waiting ++ f ∷ [];
      state = pushed opens.rounds opens.sents opens.waiting opens.state;
      each = opens.each;
      is_round = open-round rule opens.rounds opens.waiting f opens.open_round;
    };
    room = omega (arith, opens.room, length-append opens.waiting (f ∷ []));
  }

  pub goes-with : (has' : State) (old new : Progress) (before now : SinkTold) → HasGoneOn rule mid has' as_they_are old new before now → HasGoneOn rule has has' (with_frame f) old new before now
  goes-with has' old new before now gone = record {
    next = gone.next;
    answers = record {
      few = λ rounds sents waiting state. gone.answers.few rounds sents (waiting ++ f ∷ []) (pushed rounds sents waiting state);
      goes_on = λ rounds sents waiting state. gone.answers.goes_on rounds sents (waiting ++ f ∷ []) (pushed rounds sents waiting state);
      serves = λ rounds sents waiting state. gone.answers.serves rounds sents (waiting ++ f ∷ []) (pushed rounds sents waiting state);
    };
    written = gone.written;
    flushed = gone.flushed;
    no_write_failed = gone.no_write_failed;
    entries = gone.entries;
    replies = gone.replies;
  }

  pub stops-with : (old new : Progress) (before now : SinkTold) (stop : Stop) → EndsRound rule has f true → RoundStops rule mid as_they_are old new before now stop → TakeStops rule has old new f before now stop
  stops-with old new before now BadInput ends stops = stops
  stops-with old new before now ReadFault ends stops = stops
  stops-with old new before now NoMemory ends stops = stops
  stops-with old new before now WriteFault ends broken = (
    ends,
    record {
      next = broken.next;
      serves = λ rounds sents waiting state. broken.serves rounds sents (waiting ++ f ∷ []) (pushed rounds sents waiting state);
      front = broken.front;
      flushed = broken.flushed;
      failed = broken.failed;
      counts = broken.counts;
    },
  )

-- No frame stands ready any more.
module _ (rule : Rule) (has : State) (mark : Mark) (bytes : List ℕ) (feed : Feeding) (run : Progress) (now : SinkTold) (stands : Stands rule has mark bytes feed run now) (empty : feed.ready ≡ []) where
  pub all-cut : IsCut request_table bytes (frames_of stands.rounds ++ stands.waiting) feed.rest feed.fault
  all-cut =
      subst (λ (fs : List Frame). IsCut request_table bytes fs feed.rest feed.fault) (ap (λ (r : List Frame). (frames_of stands.rounds ++ stands.waiting) ++ r) empty ∙ append-nil (frames_of stands.rounds ++ stands.waiting))
      (subst (λ (b : Bool). IsCut (table_of b) bytes ((frames_of stands.rounds ++ stands.waiting) ++ feed.ready) feed.rest feed.fault) stands.requests stands.fed)

  -- none waits
  pub all-none : length stands.waiting ≡ 0 → HasAnsweredAll rule mark bytes feed run now
  all-none none =
      let same : frames_of stands.rounds ++ stands.waiting ≡ frames_of stands.rounds = ap (λ (w : List Frame). frames_of stands.rounds ++ w) (nil_from stands.waiting none) ∙ append-nil (frames_of stands.rounds) in
      record {
        limit = stands.limit;
        frames = frames_of stands.rounds;
        cut = subst (λ (fs : List Frame). IsCut request_table bytes fs feed.rest feed.fault) same all-cut;
        rounds = stands.rounds;
        fall_into = ended-fall rule stands.rounds stands.ended;
        sents = stands.sents;
        answered = stands.answered;
      }
    where
      nil_from : (w : List Frame) → length w ≡ 0 → w ≡ []
      nil_from [] e = refl
      nil_from (x ∷ xs) e = absurd (omega (arith, e))

  -- the round that waits is served
  pub all-last : (has' : State) (new : Progress) (after : SinkTold) → 0 < length stands.waiting → HasGoneOn rule has has' as_they_are run new now after → HasAnsweredAll rule mark bytes feed new after
  all-last has' new after some gone = record {
    limit = stands.limit;
    frames = frames_of stands.rounds ++ stands.waiting;
    cut = all-cut;
    rounds = stands.rounds ++ stands.waiting ∷ [];
    fall_into = last-falls rule stands.rounds stands.waiting stands.ended (open-some rule stands.rounds stands.waiting stands.open_round some);
    sents = stands.sents ++ gone.next;
    answered = answered-more rule has has' as_they_are run new stands.rounds stands.waiting stands.sents mark.sink now after stands.answered stands.state gone;
  }

  pub stops-last : (new : Progress) (after : SinkTold) (stop : Stop) → 0 < length stands.waiting → RoundStops rule has as_they_are run new now after stop → LastStops rule mark bytes feed new after stop
  stops-last new after BadInput some stops = stops
  stops-last new after ReadFault some stops = stops
  stops-last new after NoMemory some stops = halts rule has mark bytes feed run now stands new after stops
  stops-last new after WriteFault some stops = (
    cuts-off rule has mark bytes feed run now stands as_they_are new after stands.waiting feed.ready refl refl (open-some rule stands.rounds stands.waiting stands.open_round some) stops,
    all-cut,
  )

-- the same for a call's result, where some frames wait in each state
abbrev pub SomeWait : State → Type 0
SomeWait has = (rounds : List (List Frame)) (sents : List Sent) (waiting : List Frame) → has rounds sents waiting → 0 < length waiting

pub last-goes : {U : Type 0} (rule : Rule) (has has' : State) (run new : Progress) (now after : SinkTold) (r : Result U Stop) → SomeWait has → OnOk r (HasGoneOn rule has has' as_they_are run new now after)
    → OnOk r ((mark : Mark) (bytes : List ℕ) (feed : Feeding) → feed.ready ≡ [] → Stands rule has mark bytes feed run now → HasAnsweredAll rule mark bytes feed new after)
last-goes rule has has' run new now after (Ok u) some gone =
    λ mark bytes feed empty stands. all-last rule has mark bytes feed run now stands empty has' new after (some stands.rounds stands.sents stands.waiting stands.state) gone
last-goes rule has has' run new now after (Err e) some gone = tt

pub last-stops : {U : Type 0} (rule : Rule) (has : State) (run new : Progress) (now after : SinkTold) (r : Result U Stop) → SomeWait has → IfErr r (RoundStops rule has as_they_are run new now after)
    → IfErr r (λ stop. (mark : Mark) (bytes : List ℕ) (feed : Feeding) → feed.ready ≡ [] → Stands rule has mark bytes feed run now → LastStops rule mark bytes feed new after stop)
last-stops rule has run new now after (Ok u) some stops = tt
last-stops rule has run new now after (Err stop) some stops =
    λ mark bytes feed empty stands. stops-last rule has mark bytes feed run now stands empty new after stop (some stands.rounds stands.sents stands.waiting stands.state) stops
