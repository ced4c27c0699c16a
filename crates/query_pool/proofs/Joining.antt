-- What the threads of a round leave, as their seats are taken in again, is joined.
use Rattle.std.specs.Prelude.{◌≡◌, ℕ, zero, suc, ◌+◌, ◌^◌, ◌<◌, ◌≤◌, List, [], ◌∷◌, ◌++◌, length, map, Some}
use Rattle.std.specs.List.{All, AllByRecursion, AllZip, flat_map, sum_by}
use Rattle.std.proofs.Common.{refl, sym, ap, ◌∙◌, subst, arith}
use Rattle.std.proofs.lemmas.List.{length-map}
use Rattle.std.proofs.lemmas.List.Elements.{All-from_recursion, All-weaker, recursion_from_All}
use Rattle.std.proofs.lemmas.List.Sums.{sum_by-cons}
use Rattle.atomic_table.specs.Seated.{TableId}
use Rattle.psi_residue.specs.Parameters.{Parameters}
use Rattle.psi_bundle.specs.declared.history.Entry.{Entry}
use Rattle.psi_turnstile.specs.Counting.{IsPrefix, below, times}
use Rattle.psi_turnstile.specs.Knowing.{Follows, Places}
use Rattle.psi_frames.specs.Served.{Exchange, all_places}
use Rattle.psi_frames.proofs.Each.{each-weaker}
use Rattle.live_sender.specs.declared.origin.Origin.{Origin}
use Rattle.live_sender.specs.Histories.{IsHistory}
use Rattle.live_sender.specs.Turns.{Known, IsSeated}
use Rattle.query_pool.specs.declared.jobs.Job.{Job}
use Rattle.query_pool.specs.declared.jobs.Work.{Work}
use Rattle.query_pool.specs.declared.lane.Done.{Done}
use Rattle.query_pool.specs.Jobs.{HasRun, IsReadyJob, IsWork, reply_lists, request_lists, requests_of_work}
use Rattle.query_pool.specs.Joined.{AreJoined, ArePartsOf, IsPart, lane_part, list_at}
use Rattle.query_pool.specs.Lanes.{IsLane, lane_exchanges}
use Rattle.query_pool.specs.Seats.{AreCut, AreMet, IsBegun, IsFresh}
use Rattle.query_pool.proofs.Gathered.{gathered, lane, lanes_places}
use Rattle.query_pool.proofs.JoinedServes.{lanes-few}
use Rattle.query_pool.proofs.LaneParts.{lane_part_of, prefix-length}
use Rattle.query_pool.proofs.Seatings.{prefix-trans}

-- what the seats of jobs, and of what they leave, know
abbrev pub begun_seats : List Job → List Known
begun_seats jobs = map (λ j. j.seat.knows) jobs

abbrev pub ended_seats : List Done → List Known
ended_seats dones = map (λ d. d.seat.knows) dones

abbrev pub works_of_jobs : List Job → List Work
works_of_jobs jobs = map (λ j. j.work) jobs

-- the exchanges of a job
abbrev exchanges_of : Job → Done → List Exchange
exchanges_of j d = lane_exchanges (requests_of_work j.work) d.replies.items

-- A job began with a fresh seat, and ran as a lane.
record IsRun (z : Origin) (v : Known) (j : Job) (d : Done) : Type 0 where
  fresh : IsFresh v j.seat.knows
  ran : IsLane z j.seat.knows d.seat.knows (exchanges_of j d)

module _ (z : Origin) (given : List Entry) (v : Known) (begun : IsBegun z given v) where
  seated : (s : Known) → IsFresh v s → IsSeated z s
  seated s f = record { base = f.base ∙ begun.base; taken = f.taken; history = subst (IsHistory z) (sym f.seen) begun.history }

  all_run : (jobs : List Job) (dones : List Done) → AllByRecursion (IsFresh v) (begun_seats jobs) → AllZip HasRun jobs dones → AllZip (IsRun z v) jobs dones
  all_run [] [] fresh ran = tt
  all_run [] (d ∷ ds) fresh ran = ran
  all_run (j ∷ js) [] fresh ran = ran
  all_run (j ∷ js) (d ∷ ds) fresh ran = (record { fresh = fresh.0; ran = ran.0.ran z (seated j.seat.knows fresh.0) }, all_run js ds fresh.1 ran.1)

  -- lanes keep their shares
  shares-stay : (jobs : List Job) (dones : List Done) → AllZip (IsRun z v) jobs dones → sum_by (λ s. s.share) (ended_seats dones) ≡ sum_by (λ s. s.share) (begun_seats jobs)
  shares-stay [] [] run = refl
  shares-stay [] (d ∷ ds) run = absurd run
  shares-stay (j ∷ js) [] run = absurd run
  shares-stay (j ∷ js) (d ∷ ds) run =
      let here = run.0.ran.keeps.share in
      let rest = shares-stay js ds run.1 in
      let left = sum_by-cons (λ (s : Known). s.share) d.seat.knows (ended_seats ds) in
      let right = sum_by-cons (λ (s : Known). s.share) j.seat.knows (begun_seats js) in
      omega (arith, here, rest, left, right)

  module _ (history : List Entry) (at : ℕ → List Exchange) where
    -- the exchanges from lane l on are those of these jobs
    abbrev AreTheirs : ℕ → List Job → List Done → Type 0
    AreTheirs l jobs dones = (i : ℕ) → i < length jobs → at (l + i) ≡ lane_exchanges (list_at (request_lists (works_of_jobs jobs)) i) (list_at (reply_lists dones) i)

    later : (l : ℕ) (j : Job) (js : List Job) (d : Done) (ds : List Done) → AreTheirs l (j ∷ js) (d ∷ ds) → AreTheirs (l + 1) js ds
    later l j js d ds theirs i lt = ap at (omega arith) ∙ theirs (suc i) (omega (arith, lt))

    first : (l : ℕ) (j : Job) (js : List Job) (d : Done) (ds : List Done) → AreTheirs l (j ∷ js) (d ∷ ds) → at l ≡ exchanges_of j d
    first l j js d ds theirs = ap at (omega arith) ∙ theirs 0 (omega arith)

    parts : (l : ℕ) (jobs : List Job) (dones : List Done) → AllZip (IsRun z v) jobs dones → AllByRecursion (λ s. IsPrefix s.seen history) (ended_seats dones) → AreTheirs l jobs dones
        → (i : ℕ) → i < length jobs → IsPart z given history (at (l + i))
    parts l [] dones run ends theirs i lt = absurd (omega (arith, lt))
    parts l (j ∷ js) [] run ends theirs i lt = absurd run
    parts l (j ∷ js) (d ∷ ds) run ends theirs zero lt =
        let behind : length given ≤ length j.seat.knows.seen = subst (λ (s : List Entry). length given ≤ length s) (sym run.0.fresh.seen) (prefix-length given v.seen begun.seen) in
        subst (IsPart z given history) (sym (theirs 0 lt)) (lane_part_of z given history j.seat.knows d.seat.knows (exchanges_of j d) run.0.ran behind ends.0)
    parts l (j ∷ js) (d ∷ ds) run ends theirs (suc i) lt =
        subst (λ (k : ℕ). IsPart z given history (at k)) (omega arith) (parts (l + 1) js ds run.1 ends.1 (later l j js d ds theirs) i (omega (arith, lt)))

    -- the own places of the seats are those of the exchanges
    abbrev own_places : (l : ℕ) (m : ℕ) → List ℕ
    own_places l zero = []
    own_places l (suc m) = all_places (at l) ++ own_places (l + 1) m

    owns : (l : ℕ) (jobs : List Job) (dones : List Done) → AllZip (IsRun z v) jobs dones → AreTheirs l jobs dones → flat_map (λ s. s.own) (ended_seats dones) ≡ own_places l (length jobs)
    owns l [] [] run theirs = refl
    owns l [] (d ∷ ds) run theirs = absurd run
    owns l (j ∷ js) [] run theirs = absurd run
    owns l (j ∷ js) (d ∷ ds) run theirs =
        let here : d.seat.knows.own ≡ all_places (at l) =
        run.0.ran.own ∙ ap (λ (xs : List ℕ). xs ++ all_places (exchanges_of j d)) run.0.fresh.own ∙ ap all_places (sym (first l j js d ds theirs)) in
        let rest = owns (l + 1) js ds run.1 (later l j js d ds theirs) in
        λ i. here i ++ rest i

-- the share of all seats is whole again
pub whole_share : (z : Origin) (given : List Entry) (v left u : Known) (jobs : List Job) (dones : List Done) → IsBegun z given v → AreCut v left (begun_seats jobs) → AllZip HasRun jobs dones
    → AreMet left u (ended_seats dones) → u.share ≡ 2 ^ 32
whole_share z given v left u jobs dones begun cut ran met =
    let run = all_run z given v begun jobs dones (recursion_from_All (IsFresh v) (begun_seats jobs) cut.each) ran in
    let same = shares-stay z given v begun jobs dones run in
    omega (arith, same, cut.shares, met.share, begun.share)

-- the same place lists
same_places : (z : Origin) (given : List Entry) (v : Known) (begun : IsBegun z given v) (history : List Entry) (workers : ℕ) (es : List Exchange) (l m : ℕ)
    → own_places z given v begun history (lane_part workers es) l m ≡ lanes_places workers es l m
same_places z given v begun history workers es l zero = refl
same_places z given v begun history workers es l (suc m) = ap (λ (xs : List ℕ). all_places (lane_part workers es l) ++ xs) (same_places z given v begun history workers es (l + 1) m)

module _ (z : Origin) (given history : List Entry) (v left u : Known) (jobs : List Job) (dones : List Done) (workers : ℕ) (es : List Exchange)
    (begun : IsBegun z given v) (cut : AreCut v left (begun_seats jobs)) (ran : AllZip HasRun jobs dones) (met : AreMet left u (ended_seats dones)) where
  pub joins : IsHistory z history → Follows history u → Places (length history) u → 1 ≤ workers → workers ≤ length jobs
      → ArePartsOf workers es (request_lists (works_of_jobs jobs)) (reply_lists dones) → AreJoined z given history workers es
  joins is_history follows places some few theirs =
      let run = all_run z given v begun jobs dones (recursion_from_All (IsFresh v) (begun_seats jobs) cut.each) ran in
      let each = recursion_from_All (λ s. IsPrefix s.seen history) (ended_seats dones)
      (All-weaker (λ (s : Known). IsPrefix s.seen u.seen) (λ (s : Known). IsPrefix s.seen history) (λ s p. prefix-trans s.seen u.seen history p follows.seen) (ended_seats dones) met.each) in
      let at = lane_part workers es in
      let ours : AreTheirs z given v begun history at 0 jobs dones = λ i lt. ap at (omega arith) ∙ theirs i in
      let same : left.seen ≡ v.seen = ap (λ (k : Known). k.seen) cut.same in
      let none : left.own ≡ [] = ap (λ (k : Known). k.own) cut.same ∙ begun.own in
      let opening : u.opening ≡ length given = met.opening ∙ ap (λ (k : Known). k.opening) cut.same ∙ begun.opening in
      let own : u.own ≡ lanes_places workers es 0 (length jobs) =
      met.own ∙ ap (λ (xs : List ℕ). xs ++ flat_map (λ s. s.own) (ended_seats dones)) none ∙ owns z given v begun history at 0 jobs dones run ours ∙ same_places z given v begun history workers es 0 (length jobs) in
      let begins = prefix-trans given v.seen u.seen begun.seen (subst (λ (s : List Entry). IsPrefix s u.seen) same met.seen) in
      record {
        history_is = is_history;
        begins = prefix-trans given u.seen history begins follows.seen;
        places = λ x.
            let all = gathered workers (length jobs) es (each-weaker (λ e. lane workers e < workers) (λ e. lane workers e < length jobs) (λ e lt. omega (arith, lt, few)) es (lanes-few workers some es)) x in
            let count = places.whole (whole_share z given v left u jobs dones begun cut ran met) x in
            let mine = ap (times x) own in
            let start = ap (below x) opening in
            omega (arith, all, count, mine, start);
        lanes = λ l lt. subst (λ (k : ℕ). IsPart z given history (at k)) (omega arith) (parts z given v begun history at 0 jobs dones run each ours l (omega (arith, lt, few)));
      }

-- ---- before and behind the threads

module _ (p : Parameters) (sender : TableId) (z : Origin) (given : List Entry) (v : Known) (begun : IsBegun z given v) (under : z.parameters ≡ p) where
  ready-each : (jobs : List Job) → AllByRecursion (IsFresh v) (begun_seats jobs) → AllByRecursion (IsWork p) (works_of_jobs jobs) → AllByRecursion (λ j. j.seat.turnstile ≡ sender) jobs
      → AllByRecursion (IsReadyJob p sender) jobs
  ready-each [] fresh works here = tt
  ready-each (j ∷ js) fresh works here = (
    record {
      here = here.0;
      under = λ y at.
          let base : Some z ≡ Some y = sym (fresh.0.base ∙ begun.base) ∙ at in
          let same : z ≡ y = cc in
          sym (ap (λ (o : Origin). o.parameters) same) ∙ under;
      work = works.0;
    },
    ready-each js fresh.1 works.1 here.1,
  )

  pub ready-jobs : (left : Known) (jobs : List Job) (works : List Work) → AreCut v left (begun_seats jobs) → works_of_jobs jobs ≡ works → All (IsWork p) works → All (λ j. j.seat.turnstile ≡ sender) jobs
      → All (IsReadyJob p sender) jobs
  ready-jobs left jobs works cut same ready here =
      All-from_recursion (IsReadyJob p sender) jobs
      (ready-each jobs (recursion_from_All (IsFresh v) (begun_seats jobs) cut.each) (recursion_from_All (IsWork p) (works_of_jobs jobs) (subst (All (IsWork p)) (sym same) ready))
      (recursion_from_All (λ j. j.seat.turnstile ≡ sender) jobs here))

-- the seats that come back are of the same sender
pub still-here : (sender : TableId) (jobs : List Job) (dones : List Done) → All (λ j. j.seat.turnstile ≡ sender) jobs → AllZip HasRun jobs dones → All (λ d. d.seat.turnstile ≡ sender) dones
still-here sender jobs dones here ran = All-from_recursion (λ d. d.seat.turnstile ≡ sender) dones (each jobs dones (recursion_from_All (λ j. j.seat.turnstile ≡ sender) jobs here) ran) where
  each : (jobs : List Job) (dones : List Done) → AllByRecursion (λ j. j.seat.turnstile ≡ sender) jobs → AllZip HasRun jobs dones → AllByRecursion (λ d. d.seat.turnstile ≡ sender) dones
  each [] [] here ran = tt
  each [] (d ∷ ds) here ran = absurd ran
  each (j ∷ js) [] here ran = absurd ran
  each (j ∷ js) (d ∷ ds) here ran = (ran.0.here ∙ here.0, each js ds here.1 ran.1)

-- a lane's requests are those of its job
pub length-jobs : (jobs : List Job) (works : List Work) → works_of_jobs jobs ≡ works → length jobs ≡ length works
length-jobs jobs works same = sym (length-map jobs (λ j. j.work)) ∙ ap length same

-- the sender's origin is that of the book
pub origin-kept : (z y : Origin) (given : List Entry) (v left u : Known) (seats noted : List Known) → IsBegun z given v → AreCut v left seats → AreMet left u noted → u.base ≡ Some y → y ≡ z
origin-kept z y given v left u seats noted begun cut met at =
    let base : Some y ≡ Some z = sym at ∙ met.base ∙ ap (λ (k : Known). k.base) cut.same ∙ begun.base in
    cc
