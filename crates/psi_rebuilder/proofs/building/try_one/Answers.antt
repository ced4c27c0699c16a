use Rattle.std.proofs.Common.{◌∙◌, ◌≤◌, arith, inl, inr, length, sym, subst}
use Rattle.noise_ledger.specs.Verdicts.{parameters_of}
use Rattle.sender_core.specs.declared.install.Bare.{Bare}
use Rattle.bundle_cache.specs.Caches.{CacheOf, cached_bins, is_cached_under}
use Rattle.live_sender.specs.Turns.{IsBareAt}
use Rattle.live_sender.proofs.Prefixes.{prefix-length}
use Rattle.sender_core.specs.Tries.{job_of}
use Rattle.psi_rebuilder.proofs.Receipts.{receipt-before}
use Rattle.psi_rebuilder.proofs.Seats.{turned-follows, turned-then}
use Rattle.psi_rebuilder.proofs.Tasks.{given-all, given-one, task-cacheable}
use Rattle.psi_rebuilder.proofs.building.try_one.Goals as goal

pub build_cache-requires-clause-cacheable : goal.build_cache-requires-clause-cacheable
build_cache-requires-clause-cacheable g c κs within =
    let went = c.fetch_bare.ensures.went in
    let z = went.0 in
    let seen = c.fetch_bare.new.seat.knows.seen in
    let book = c.in_ok-given.ensures.of_book z went.1 in
    let stands = given-one z seen c.in_ok-given.given c.in-One.task c.in-One.is (c.in_ok-given.ensures.given z went.1) in
    task-cacheable z seen (parameters_of c.args.params.now) book.0 (job_of c.in-One.task) book.1 (c.requires.under z went.1) stands.0

pub bring-requires-clause-of_history : goal.bring-requires-clause-of_history
bring-requires-clause-of_history g c κs within = λ z e.
    let base = sym c.fetch_bare.ensures.went.2.keeps.base ∙ e in
    (given-one z c.fetch_bare.new.seat.knows.seen c.in_ok-given.given c.in-One.task c.in-One.is (c.in_ok-given.ensures.given z base)).1

pub returns-in_err-receipt-in-One-clause-turned : goal.returns-in_err-receipt-in-One-clause-turned
returns-in_err-receipt-in-One-clause-turned g c = turned-then c.args.seat.now.knows c.fetch_bare.new.seat.knows c.bring.new.seat.knows (inr c.fetch_bare.ensures.went) c.bring.ensures.turned

pub returns-in-All-clause-outcome : goal.returns-in-All-clause-outcome
returns-in-All-clause-outcome g c =
    let went = c.fetch_bare.ensures.went in
    let seen = c.fetch_bare.new.seat.knows.seen in
    let given = c.in_ok-given.given in
    let shown = c.in-All.shown in
    ((given-all went.0 seen given shown c.in-All.is (c.in_ok-given.ensures.given went.0 went.1)).0, λ z e. (given-all z seen given shown c.in-All.is (c.in_ok-given.ensures.given z e)).1)

pub returns-in_ok-receipt-in-One-clause-outcome : goal.returns-in_ok-receipt-in-One-clause-outcome
returns-in_ok-receipt-in-One-clause-outcome g c = (
  receipt-before c.args.seat.now.knows c.fetch_bare.new.seat.knows c.bring.new.seat.knows c.in_ok-receipt-in-One.receipt c.fetch_bare.ensures.went.2.keeps.base c.in_ok-receipt-in-One.ensures.receipt,
  λ z e.
      let u = c.fetch_bare.new.seat.knows in
      let w = c.bring.new.seat.knows in
      let longer = turned-follows u w c.bring.ensures.turned in
      record {
        seen = u.seen;
        begins = longer;
        before = omega (arith, prefix-length u.seen w.seen longer, c.in_ok-receipt-in-One.ensures.receipt.moment);
        task = c.in-One.task;
        bare = subst (λ (b : Bare CacheOf). IsBareAt cached_bins is_cached_under z u.seen c.args.skip b) c.in-One.is (c.in_ok-given.ensures.of_book z e);
        told = c.in_ok-receipt-in-One.ensures.job;
      },
)

pub returns-in_ok-receipt-in-One-clause-turned : goal.returns-in_ok-receipt-in-One-clause-turned
returns-in_ok-receipt-in-One-clause-turned g c = turned-then c.args.seat.now.knows c.fetch_bare.new.seat.knows c.bring.new.seat.knows (inr c.fetch_bare.ensures.went) c.bring.ensures.turned
