-- A round dealt to lanes, run and merged.
use Rattle.std.specs.Prelude.{◌≡◌, ℕ, zero, suc, ◌+◌, ◌<◌, ◌≤◌, nat_eq, List, [], ◌∷◌, ◌++◌, length, map, replicate, count_by}
use Rattle.std.specs.List.{All, AllZip}
use Rattle.std.specs.Global.{Vec}
use Rattle.std.proofs.Common.{refl, sym, ap, ◌∙◌, subst, arith, length-append}
use Rattle.std.proofs.lemmas.List.{get_or_default, length-map, length-replicate}
use Rattle.std.proofs.lemmas.List.Elements.{All-filter, All-from_recursion, All-nil, recursion_from_All}
use Rattle.psi_residue.specs.Parameters.{Parameters}
use Rattle.psi_bundle.specs.declared.history.Entry.{Entry}
use Rattle.psi_bundle.specs.declared.member.Member.{Member}
use Rattle.psi_bundle.specs.Histories.{replay}
use Rattle.psi_turnstile.specs.Knowing.{Follows, Places}
use Rattle.bundle_cache.specs.Caches.{CacheOf}
use Rattle.psi_frames.specs.declared.reply.Reply.{Reply}
use Rattle.psi_frames.specs.declared.request.Request.{Request}
use Rattle.psi_frames.specs.Frames.{answer_fits}
use Rattle.psi_frames.specs.Served.{AreServed, Exchange, IsOneLane, IsServed, addressed}
use Rattle.sender_core.specs.Kept.{Contents, IsConsistent, start_of, version_of}
use Rattle.live_sender.specs.declared.origin.Origin.{Origin}
use Rattle.live_sender.specs.Histories.{first_version, IsHistory, origin_of}
use Rattle.live_sender.specs.Turns.{Known}
use Rattle.query_pool.specs.declared.jobs.Job.{Job}
use Rattle.query_pool.specs.declared.jobs.Work.{Work}
use Rattle.query_pool.specs.declared.lane.Done.{Done}
use Rattle.query_pool.specs.declared.lane.Numbered.{Numbered}
use Rattle.query_pool.specs.Dealing.{asked_lists, listed}
use Rattle.query_pool.specs.Jobs.{HasRun, reply_lists, request_lists, requests_of_work}
use Rattle.query_pool.specs.Joined.{AreJoined, ArePartsOf, lane_of, lane_requests, list_at, picked}
use Rattle.query_pool.specs.Lanes.{asked, lane_exchanges}
use Rattle.query_pool.specs.Seats.{AreCut, AreMet, IsBegun}
use Rattle.query_pool.proofs.Joining.{begun_seats, ended_seats, joins, length-jobs, works_of_jobs}
use Rattle.query_pool.proofs.JoinedServes.{joined_one_lane, joined_serves}
use Rattle.query_pool.proofs.Shares.{at-more, length-lane, one_reply_each, part_of, picked-each, rounds-first}

-- ---- the lists of replies

pub listed-replies : (dones : List Done) → listed (map (λ d. d.replies) dones) ≡ reply_lists dones
listed-replies [] = refl
listed-replies (d ∷ ds) = ap (λ (yss : List (List Reply)). d.replies.items ∷ yss) (listed-replies ds)

-- each thread leaves as many as it had requests
pub sizes : (jobs : List Job) (dones : List Done) → AllZip HasRun jobs dones → (l : ℕ) → length (list_at (reply_lists dones) l) ≡ length (list_at (request_lists (works_of_jobs jobs)) l)
sizes [] [] ran l = refl
sizes [] (d ∷ ds) ran l = absurd ran
sizes (j ∷ js) [] ran l = absurd ran
sizes (j ∷ js) (d ∷ ds) ran zero = ran.0.one_each
sizes (j ∷ js) (d ∷ ds) ran (suc l) = sizes js ds ran.1 l

pub all-fit : (jobs : List Job) (dones : List Done) → AllZip HasRun jobs dones → (l : ℕ) → All answer_fits (list_at (reply_lists dones) l)
all-fit [] [] ran l = All-nil answer_fits
all-fit [] (d ∷ ds) ran l = absurd ran
all-fit (j ∷ js) [] ran l = absurd ran
all-fit (j ∷ js) (d ∷ ds) ran zero = ran.0.fits
all-fit (j ∷ js) (d ∷ ds) ran (suc l) = all-fit js ds ran.1 l

-- ---- the round

-- what fits fits each lane
pub lanes-fit : (P : Request → Type 0) (workers : ℕ) (rs : List Request) (lanes : List (List Request)) → ((l : ℕ) → list_at lanes l ≡ lane_requests workers rs l) → All P rs → All (All P) lanes
lanes-fit P workers rs lanes dealt fit l d lt =
    subst (All P) (sym (get_or_default lanes l d [] lt ∙ dealt l)) (All-filter (λ (r : Request). nat_eq (lane_of workers r) l) P rs fit)

module _ (workers n : ℕ) (rs : List Request) (lanes works : List (List Request)) (replies : List (List Reply)) (order : List ℕ) (ordered : order ≡ map (lane_of workers) rs)
    (all : works ≡ lanes ++ replicate n []) (dealt : (l : ℕ) → list_at lanes l ≡ lane_requests workers rs l) where
  its_requests : (l : ℕ) → list_at works l ≡ lane_requests workers rs l
  its_requests l = ap (λ (xss : List (List Request)). list_at xss l) all ∙ at-more lanes n l ∙ dealt l

  -- there are as many replies of each lane as the order has its number
  pub counts_are : ((l : ℕ) → length (list_at replies l) ≡ length (list_at works l)) → (l : ℕ) → length (list_at replies l) ≡ count_by (λ k. nat_eq k l) order
  counts_are same l = same l ∙ ap length (its_requests l) ∙ length-lane workers l rs ∙ ap (count_by (λ k. nat_eq k l)) (sym ordered)

  pub size-merged : (merged : List Reply) → length merged ≡ length order → length merged ≡ length rs
  size-merged merged size = size ∙ ap length ordered ∙ length-map rs (lane_of workers)

  pub parts_are : (merged : List Reply) → length merged ≡ length order → ((l : ℕ) → list_at replies l ≡ picked l order merged) → ArePartsOf workers (lane_exchanges rs merged) works replies
  parts_are merged size is l =
      part_of workers l rs merged (size-merged merged size)
      ∙ (λ i. lane_exchanges (sym (its_requests l) i) (sym (is l ∙ ap (λ (ks : List ℕ). picked l ks merged) ordered) i))

pub merged-fit : (order : List ℕ) (replies : List (List Reply)) (merged : List Reply) → length merged ≡ length order → ((l : ℕ) → list_at replies l ≡ picked l order merged)
    → ((l : ℕ) → All answer_fits (list_at replies l)) → All answer_fits merged
merged-fit order replies merged size is fit =
    All-from_recursion answer_fits merged
    (picked-each answer_fits order merged size (λ l. recursion_from_All answer_fits (picked l order merged) (subst (All answer_fits) (is l) (fit l))))

pub round_served : (p : Parameters) (book : Contents CacheOf) (history : List Entry) (workers : ℕ) (rs : List Request) (merged : List Reply) → book.parameters ≡ p → 0 < workers → length merged ≡ length rs
    → AreJoined (origin_of book) book.journal history workers (lane_exchanges rs merged) → IsServed p (start_of book) book.journal history (rs ∷ []) (addressed rs merged)
round_served p book history workers rs merged same some size joined = record {
  one_each = one_reply_each rs merged size;
  served = subst (λ (q : Parameters). AreServed q (start_of book) book.journal history (rs ∷ []) (lane_exchanges rs merged)) same
      (joined_serves (origin_of book) book.journal history workers rs (lane_exchanges rs merged) some joined (rounds-first rs merged));
}

pub round_one_lane : (book : Contents CacheOf) (history : List Entry) (workers : ℕ) (rs : List Request) (merged : List Reply) → workers ≡ 1
    → AreJoined (origin_of book) book.journal history workers (lane_exchanges rs merged) → IsOneLane (lane_exchanges rs merged)
round_one_lane book history workers rs merged one joined =
    joined_one_lane (origin_of book) book.journal history (lane_exchanges rs merged) (subst (λ (n : ℕ). AreJoined (origin_of book) book.journal history n (lane_exchanges rs merged)) one joined)

-- there are as many threads as lanes and builders
pub length-works : (works : List Work) (lanes : List (Vec Numbered)) (n : ℕ) → request_lists works ≡ asked_lists lanes ++ replicate n [] → length works ≡ length lanes + n
length-works works lanes n lists =
    let left = length-map works requests_of_work in
    let right = length-map lanes (λ (v : Vec Numbered). asked v.items) in
    let all = ap length lists ∙ length-append (asked_lists lanes) (replicate n []) in
    let builders = length-replicate {A = List Request} n [] in
    omega (arith, left, right, all, builders)

-- ---- what the threads of a round leave

module _ (book ended : Contents CacheOf) (v left u : Known) (jobs : List Job) (dones : List Done) (works : List Work) (replies : List (Vec Reply))
    (begun : IsBegun (origin_of book) book.journal v) (cut : AreCut v left (begun_seats jobs)) (same : works_of_jobs jobs ≡ works) (ran : AllZip HasRun jobs dones)
    (met : AreMet left u (ended_seats dones)) (left_behind : replies ≡ map (λ d. d.replies) dones) where
  lists_are : listed replies ≡ reply_lists dones
  lists_are = ap listed left_behind ∙ listed-replies dones

  pub run-sizes : (l : ℕ) → length (list_at (listed replies) l) ≡ length (list_at (request_lists works) l)
  run-sizes l =
      ap (λ (xss : List (List Reply)). length (list_at xss l)) lists_are ∙ sizes jobs dones ran l
      ∙ ap (λ (ws : List Work). length (list_at (request_lists ws) l)) same

  pub run-fits : (l : ℕ) → All answer_fits (list_at (listed replies) l)
  run-fits l = subst (λ (xss : List (List Reply)). All answer_fits (list_at xss l)) (sym lists_are) (all-fit jobs dones ran l)

  pub run-joined : origin_of ended ≡ origin_of book → IsHistory (origin_of ended) ended.journal → Follows ended.journal u → Places (length ended.journal) u
      → (workers : ℕ) (es : List Exchange) → 1 ≤ workers → workers ≤ length works → ArePartsOf workers es (request_lists works) (listed replies) → AreJoined (origin_of book) book.journal ended.journal workers es
  run-joined origin history follows places workers es some few theirs =
      let size = length-jobs jobs works same in
      joins (origin_of book) book.journal ended.journal v left u jobs dones workers es begun cut ran met (subst (λ (z : Origin). IsHistory z ended.journal) origin history) follows places some
      (omega (arith, few, size))
      (λ l. theirs l ∙ (λ i. lane_exchanges (list_at (request_lists (sym same i)) l) (list_at (lists_are i) l)))

-- the book's version is that of its history
pub run-leads : (contents : CacheOf → List (List Member)) (is_under : CacheOf → List ℕ → Type 0) (book ended : Contents CacheOf) → origin_of ended ≡ origin_of book → IsConsistent contents is_under ended
    → replay (start_of book) ended.journal ≡ version_of ended
run-leads contents is_under book ended origin consistent = ap (λ (z : Origin). replay (first_version z) ended.journal) (sym origin) ∙ consistent.replayed
