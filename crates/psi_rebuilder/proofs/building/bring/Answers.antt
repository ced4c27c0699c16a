use Rattle.std.proofs.Common.{◌≡◌, ◌∙◌, sym, ap, subst}
use Rattle.row_block.specs.Rows.{Block, cleared}
use Rattle.bundle_cache.specs.Caches.{CacheOf, IsBundleBlock}
use Rattle.sender_core.specs.Tries.{job_of}
use Rattle.psi_rebuilder.proofs.Receipts.{installed-job, stale-job, stale-receipt, stale-told}
use Rattle.psi_rebuilder.proofs.Blocks.{given}
use Rattle.psi_rebuilder.proofs.building.bring.Goals as goal

pub returns-in-Stale-clause-receipt : goal.returns-in-Stale-clause-receipt
returns-in-Stale-clause-receipt g c =
    let went = c.install.ensures.went in
    stale-receipt c.args.seat.now.knows c.install.new.seat.knows went.0 (job_of c.args.task.now) c.args.cache c.in_ok-receipt.field-0 went.1 c.in_ok-receipt.ensures.tried c.in-Stale.receipt c.in-Stale.cache c.in-Stale.is

pub returns-in-Stale-clause-shelf : goal.returns-in-Stale-clause-shelf
returns-in-Stale-clause-shelf g c =
    let went = c.install.ensures.went in
    let told =
    stale-told c.args.seat.now.knows c.install.new.seat.knows went.0 (job_of c.args.task.now) c.args.cache c.in_ok-receipt.field-0 went.1 c.in_ok-receipt.ensures.tried c.in-Stale.receipt c.in-Stale.cache c.in-Stale.is in
    let p = c.args.cache.parameters in
    let block : c.into_block.result ≡ cleared c.args.cache.block = c.into_block.ensures.cleared ∙ ap (λ (d : CacheOf). cleared d.block) told.0 in
    let whole : IsBundleBlock p c.into_block.result =
    subst (λ (b : Block). IsBundleBlock p b) (sym block) (record { width = c.requires.block.width; number = c.requires.block.number }) in
    given p c.args.shelf.now c.give.new.self c.into_block.result c.give.result c.give.ensures.kept c.give.ensures.full c.requires.shelf whole

pub returns-in-Installed-clause-job : goal.returns-in-Installed-clause-job
returns-in-Installed-clause-job g c =
    let went = c.install.ensures.went in
    installed-job c.args.seat.now.knows c.install.new.seat.knows went.0 (job_of c.args.task.now) c.args.cache c.in_ok-receipt.field-0 went.1 c.in_ok-receipt.ensures.tried c.in-Installed.receipt c.in-Installed.is

pub returns-in-Stale-clause-job : goal.returns-in-Stale-clause-job
returns-in-Stale-clause-job g c =
    let went = c.install.ensures.went in
    stale-job c.args.seat.now.knows c.install.new.seat.knows went.0 (job_of c.args.task.now) c.args.cache c.in_ok-receipt.field-0 went.1 c.in_ok-receipt.ensures.tried c.in-Stale.receipt c.in-Stale.cache c.in-Stale.is
