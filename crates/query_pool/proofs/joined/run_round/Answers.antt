use Rattle.std.proofs.Common.{◌≡◌, ◌≤◌, length, ap, arith}
use Rattle.noise_ledger.specs.Verdicts.{parameters_of}
use Rattle.psi_frames.specs.Requests.{IsFit}
use Rattle.live_sender.specs.declared.origin.Origin.{Origin}
use Rattle.live_sender.specs.Histories.{origin_of}
use Rattle.query_pool.specs.Dealing.{asked_lists, listed}
use Rattle.query_pool.specs.Jobs.{request_lists}
use Rattle.query_pool.specs.Joined.{AreJoined}
use Rattle.query_pool.specs.Lanes.{lane_exchanges}
use Rattle.query_pool.proofs.Rounding.{counts_are, lanes-fit, length-works, merged-fit, parts_are, round_one_lane, round_served, size-merged}
use Rattle.query_pool.proofs.joined.run_round.Goals as goal

pub works_of-requires-clause-fit : goal.works_of-requires-clause-fit
works_of-requires-clause-fit g c =
    lanes-fit (IsFit (parameters_of c.args.params.now)) c.args.shape.workers c.args.requests.items (asked_lists c.in_ok-lanes.field-0.lanes.items) c.in_ok-lanes.ensures.lanes c.requires.fit

pub run_works-requires-clause-few : goal.run_works-requires-clause-few
run_works-requires-clause-few g c κs within =
    let size = length-works c.in_ok-works.works.items c.in_ok-lanes.field-0.lanes.items c.args.shape.builders c.in_ok-works.ensures.lists in
    omega (arith, size, c.in_ok-lanes.ensures.number, c.requires.workers.1, c.requires.builders)

pub merge-requires : goal.merge-requires
merge-requires g c = record {
  counts = counts_are c.args.shape.workers c.args.shape.builders c.args.requests.items (asked_lists c.in_ok-lanes.field-0.lanes.items) (request_lists c.in_ok-works.works.items)
      (listed c.in_ok-book.field-0.replies.items) c.in_ok-lanes.field-0.order.items c.in_ok-lanes.ensures.order c.in_ok-works.ensures.lists c.in_ok-lanes.ensures.lanes c.in_ok-book.ensures.one_each;
}

-- there is a reply for each request
size-here : (g : _) (c : goal.In_ok-replies g) → length c.in_ok-replies.replies.items ≡ length c.args.requests.items
size-here g c =
    size-merged c.args.shape.workers c.args.shape.builders c.args.requests.items (asked_lists c.in_ok-lanes.field-0.lanes.items) (request_lists c.in_ok-works.works.items)
    (listed c.in_ok-book.field-0.replies.items) c.in_ok-lanes.field-0.order.items c.in_ok-lanes.ensures.order c.in_ok-works.ensures.lists c.in_ok-lanes.ensures.lanes c.in_ok-replies.replies.items
    c.in_ok-replies.ensures.number

-- the lanes' exchanges are those of the round
joined-here : (g : _) (c : goal.In_ok-replies g) → AreJoined (origin_of c.args.book) c.args.book.journal c.in_ok-book.field-0.book.journal c.args.shape.workers (lane_exchanges c.args.requests.items c.in_ok-replies.replies.items)
joined-here g c =
    let workers = c.args.shape.workers in
    let size = length-works c.in_ok-works.works.items c.in_ok-lanes.field-0.lanes.items c.args.shape.builders c.in_ok-works.ensures.lists in
    let few : workers ≤ length c.in_ok-works.works.items = omega (arith, size, c.in_ok-lanes.ensures.number) in
    c.in_ok-book.ensures.joined workers (lane_exchanges c.args.requests.items c.in_ok-replies.replies.items) c.requires.workers.0 few
    (parts_are workers c.args.shape.builders c.args.requests.items (asked_lists c.in_ok-lanes.field-0.lanes.items) (request_lists c.in_ok-works.works.items)
    (listed c.in_ok-book.field-0.replies.items) c.in_ok-lanes.field-0.order.items c.in_ok-lanes.ensures.order c.in_ok-works.ensures.lists c.in_ok-lanes.ensures.lanes c.in_ok-replies.replies.items
    c.in_ok-replies.ensures.number c.in_ok-replies.ensures.merged)

pub returns-clause-served : goal.returns-clause-served
returns-clause-served g c =
    round_served (parameters_of c.args.params.now) c.args.book c.in_ok-book.field-0.book.journal c.args.shape.workers c.args.requests.items c.in_ok-replies.replies.items c.requires.same c.requires.workers.0
    (size-here g c) (joined-here g c)

pub returns-clause-one_lane : goal.returns-clause-one_lane
returns-clause-one_lane g c = λ one.
    round_one_lane c.args.book c.in_ok-book.field-0.book.journal c.args.shape.workers c.args.requests.items c.in_ok-replies.replies.items one (joined-here g c)

pub returns-clause-parameters : goal.returns-clause-parameters
returns-clause-parameters g c = ap (λ (z : Origin). z.parameters) c.in_ok-book.ensures.origin

pub returns-clause-start : goal.returns-clause-start
returns-clause-start g c = ap (λ (z : Origin). z.start) c.in_ok-book.ensures.origin

pub returns-clause-fits : goal.returns-clause-fits
returns-clause-fits g c =
    merged-fit c.in_ok-lanes.field-0.order.items (listed c.in_ok-book.field-0.replies.items) c.in_ok-replies.replies.items c.in_ok-replies.ensures.number c.in_ok-replies.ensures.merged c.in_ok-book.ensures.fits
