use Rattle.std.proofs.Common.{◌≡◌}
use Rattle.noise_ledger.specs.Verdicts.{parameters_of}
use Rattle.bundle_cache.specs.Caches.{cached_bins, is_cached_under}
use Rattle.live_sender.specs.Histories.{origin_of}
use Rattle.query_pool.proofs.Joining.{begun_seats, ended_seats, origin-kept, ready-jobs, still-here, whole_share}
use Rattle.query_pool.proofs.Rounding.{run-fits, run-joined, run-leads, run-sizes}
use Rattle.query_pool.proofs.Seatings.{share-enough}
use Rattle.query_pool.proofs.joined.run_works.Goals as goal

pub cut-requires-clause-share : goal.cut-requires-clause-share
cut-requires-clause-share g c = share-enough _ c.in_ok-sender.field-0.seat.knows.share c.requires.few c.in_ok-sender.ensures.begun.share

pub run_jobs-requires-clause-ready : goal.run_jobs-requires-clause-ready
run_jobs-requires-clause-ready g c κs within =
    ready-jobs (parameters_of c.args.params.now) c.in_ok-sender.field-0.sender (origin_of c.args.book) c.args.book.journal c.in_ok-sender.field-0.seat.knows c.in_ok-sender.ensures.begun c.requires.same
    c.cut.new.seat.knows c.in_ok-jobs.jobs.items c.args.works.items c.in_ok-jobs.ensures.seats c.in_ok-jobs.ensures.works c.requires.ready c.in_ok-jobs.ensures.each_here

pub meet-requires-clause-each_here : goal.meet-requires-clause-each_here
meet-requires-clause-each_here g c = still-here c.in_ok-sender.field-0.sender c.in_ok-jobs.jobs.items c.in_ok-dones.dones.items c.in_ok-jobs.ensures.each_here c.in_ok-dones.ensures.ran

pub close-book-requires-clause-whole : goal.close-book-requires-clause-whole
close-book-requires-clause-whole g c =
    whole_share (origin_of c.args.book) c.args.book.journal c.in_ok-sender.field-0.seat.knows c.cut.new.seat.knows c.meet.new.seat.knows c.in_ok-jobs.jobs.items c.in_ok-dones.dones.items
    c.in_ok-sender.ensures.begun c.in_ok-jobs.ensures.seats c.in_ok-dones.ensures.ran c.in_ok-replies.ensures.seats

-- the closed book has the origin of the given one
origin-here : (g : _) (c : goal.After-close-book g) → origin_of c.close-book.result ≡ origin_of c.args.book
origin-here g c =
    origin-kept (origin_of c.args.book) (origin_of c.close-book.result) c.args.book.journal c.in_ok-sender.field-0.seat.knows c.cut.new.seat.knows c.meet.new.seat.knows
    (begun_seats c.in_ok-jobs.jobs.items) (ended_seats c.in_ok-dones.dones.items) c.in_ok-sender.ensures.begun c.in_ok-jobs.ensures.seats c.in_ok-replies.ensures.seats c.close-book.ensures.base

pub returns-clause-joined : goal.returns-clause-joined
returns-clause-joined g c =
    run-joined c.args.book c.close-book.result c.in_ok-sender.field-0.seat.knows c.cut.new.seat.knows c.meet.new.seat.knows c.in_ok-jobs.jobs.items c.in_ok-dones.dones.items c.args.works.items
    c.in_ok-replies.replies.items c.in_ok-sender.ensures.begun c.in_ok-jobs.ensures.seats c.in_ok-jobs.ensures.works c.in_ok-dones.ensures.ran c.in_ok-replies.ensures.seats c.in_ok-replies.ensures.replies
    (origin-here g c) c.close-book.ensures.history c.close-book.ensures.follows c.close-book.ensures.places

pub returns-clause-one_each : goal.returns-clause-one_each
returns-clause-one_each g c =
    run-sizes c.args.book c.close-book.result c.in_ok-sender.field-0.seat.knows c.cut.new.seat.knows c.meet.new.seat.knows c.in_ok-jobs.jobs.items c.in_ok-dones.dones.items c.args.works.items
    c.in_ok-replies.replies.items c.in_ok-sender.ensures.begun c.in_ok-jobs.ensures.seats c.in_ok-jobs.ensures.works c.in_ok-dones.ensures.ran c.in_ok-replies.ensures.seats c.in_ok-replies.ensures.replies

pub returns-clause-fits : goal.returns-clause-fits
returns-clause-fits g c =
    run-fits c.args.book c.close-book.result c.in_ok-sender.field-0.seat.knows c.cut.new.seat.knows c.meet.new.seat.knows c.in_ok-jobs.jobs.items c.in_ok-dones.dones.items c.args.works.items
    c.in_ok-replies.replies.items c.in_ok-sender.ensures.begun c.in_ok-jobs.ensures.seats c.in_ok-jobs.ensures.works c.in_ok-dones.ensures.ran c.in_ok-replies.ensures.seats c.in_ok-replies.ensures.replies

pub returns-clause-leads : goal.returns-clause-leads
returns-clause-leads g c = run-leads cached_bins is_cached_under c.args.book c.close-book.result (origin-here g c) c.close-book.ensures.consistent
