use Rattle.std.proofs.Common.{◌≡◌, ◌∙◌, ◌+◌, ◌⊎◌, take, sym, ap, subst, refl, arith, length}
use Rattle.std.proofs.lemmas.Option.{slice_get_read}
use Rattle.sender_core.specs.Kept.{start_of}
use Rattle.psi_bundle.specs.Versions.{Version}
use Rattle.psi_follower.specs.Taking.{HasTaken}
use Rattle.psi_follower.specs.Inner.Entering.{StandsAt, IsNext}
use Rattle.psi_follower.proofs.Taken.{taken-none, taken-at, taken-reached, taken-to}
use Rattle.psi_follower.proofs.taking.take_each.Goals as goal

pub loop-entry-preserved : goal.loop-entry-preserved
loop-entry-preserved c =
    let start = start_of c.args.book.now in
    let old = c.args.book.now.journal in
    let now = c.loop-entry.book.journal in
    let e = c.entry-item.result in (
      taken-at start old c.args.first c.args.entries.now now c.take.new.book.journal c.loop-entry.entry-index c.loop-entry.place e c.loop-entry-test.true c.entry-item.is c.loop-entry.invariant.1
          c.loop-entry.invariant.0
          (subst (λ (v : Version). StandsAt now c.loop-entry.place e c.take.new.book.journal ⊎ IsNext v now c.loop-entry.place e c.take.new.book.journal) c.loop-entry.invariant.3 c.in_ok-take.ensures.entered),
      omega (arith, c.loop-entry.invariant.1),
      c.take.ensures.parameters ∙ c.loop-entry.invariant.2,
      c.take.ensures.start ∙ c.loop-entry.invariant.3,
    )
