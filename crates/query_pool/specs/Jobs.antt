-- What the threads of a round have to do, and what they leave.
use Rattle.std.specs.Prelude.{◌≡◌, ℕ, ◌/◌, max, List, [], length, map, Some}
use Rattle.std.specs.List.{All}
use Rattle.atomic_table.specs.Seated.{TableId}
use Rattle.psi_residue.specs.Parameters.{Parameters}
use Rattle.bundle_cache.specs.Caches.{IsBundleBlock, rows_of_bundle}
use Rattle.psi_frames.specs.declared.reply.Reply.{Reply}
use Rattle.psi_frames.specs.declared.request.Request.{Request}
use Rattle.psi_frames.specs.Frames.{answer_fits}
use Rattle.psi_frames.specs.Requests.{IsFit}
use Rattle.live_sender.specs.declared.origin.Origin.{Origin}
use Rattle.query_pool.specs.declared.jobs.Job.{Job}
use Rattle.query_pool.specs.declared.jobs.Work.{Work}
use Rattle.query_pool.specs.declared.jobs.Work.TheVariants as kinds
use Rattle.query_pool.specs.declared.lane.Done.{Done}
use Rattle.query_pool.specs.Caching.{IsScratch}
use Rattle.live_sender.specs.Turns.{IsSeated}
use Rattle.query_pool.specs.Lanes.{IsLane, asked, lane_exchanges}

-- the requests of a thread: a lane's own, and a builder's none
abbrev pub requests_of_work : Work → List Request
requests_of_work (kinds.Lane scratch requests) = asked requests.items
requests_of_work (kinds.Builder shelf number budget) = []

-- the lists of requests of some threads
abbrev pub request_lists : List Work → List (List Request)
request_lists works = map requests_of_work works

-- the lists of replies that they leave
abbrev pub reply_lists : List Done → List (List Reply)
reply_lists dones = map (λ d. d.replies.items) dones

-- the caches that a builder makes at the most: those of 1024 rows, and one
abbrev pub budget_of : Parameters → ℕ
budget_of p = max (1024 / rows_of_bundle p) 1

-- what a thread does can be done under these parameters
abbrev pub IsWork : Parameters → Work → Type 0
IsWork p (kinds.Lane scratch requests) = IsScratch p scratch × All (IsFit p) (asked requests.items)
IsWork p (kinds.Builder shelf number budget) = All (IsBundleBlock p) shelf × (budget ≡ budget_of p)

-- A thread that can begin: its seat is of this sender, whose parameters are these
pub record IsReadyJob (p : Parameters) (sender : TableId) (job : Job) : Type 0 where
  pub here : job.seat.turnstile ≡ sender
  pub under : (z : Origin) → job.seat.knows.base ≡ Some z → z.parameters ≡ p
  pub work : IsWork p job.work

-- A thread has run: it answered its requests as a lane does
pub record HasRun (job : Job) (done : Done) : Type 0 where
  pub here : done.seat.turnstile ≡ job.seat.turnstile
  pub ran : (z : Origin) → IsSeated z job.seat.knows → IsLane z job.seat.knows done.seat.knows (lane_exchanges (requests_of_work job.work) done.replies.items)
  pub one_each : length done.replies.items ≡ length (requests_of_work job.work)
  pub fits : All answer_fits done.replies.items
