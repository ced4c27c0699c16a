use Rattle.std.proofs.Common.{◌≡◌, ◌∙◌, Some, sym, rules}
use Rattle.psi_turnstile.specs.Counting.{IsPrefix}
use Rattle.live_sender.specs.Histories.{first_version}
use Rattle.live_sender.proofs.Prefixes.{prefix-then}
use Rattle.live_sender.proofs.Samples.{view-here, task-here, task-given}
use Rattle.live_sender.proofs.tests.caches_come_back_for_bundles_that_stand.Goals as goal

pub bring-stale-requires-clause-of_history : goal.bring-stale-requires-clause-of_history
bring-stale-requires-clause-of_history g c κs = λ z e.
    let was : c.put-put_b.new.seat.knows.base ≡ Some z = sym c.bare.ensures.base ∙ sym c.bare-2.ensures.base ∙ sym c.put-put_c.ensures.base ∙ e in
    let is : c.bare.result ≡ Some c.expect-first.result = search rules in
    let seen = c.bare.new.seat.knows.seen in
    let now = c.put-put_c.new.seat.knows.seen in
    let longer : IsPrefix seen now = prefix-then seen c.bare-2.new.seat.knows.seen now c.bare-2.ensures.seen c.put-put_c.ensures.seen in
    task-given (first_version z) seen now c.bare.result c.expect-first.result (c.bare.ensures.given z was) is longer

pub commit-done-requires-clause-capacity : goal.commit-done-requires-clause-capacity
commit-done-requires-clause-capacity g c κs = λ z e.
    let was : c.expect-sender.result.1.knows.base ≡ Some z = sym c.put-put_a.ensures.base ∙ sym c.put-put_b.ensures.base ∙ sym c.bare.ensures.base ∙ sym c.bare-2.ensures.base ∙ sym c.put-put_c.ensures.base ∙ sym c.bring-stale.ensures.base ∙ sym c.drop_tag-dropped.ensures.went.2.keeps.base ∙ sym c.view_row.ensures.base ∙ e in
    search rules

pub commit-done-requires-clause-of_history : goal.commit-done-requires-clause-of_history
commit-done-requires-clause-of_history g c κs = λ z e.
    let was : c.drop_tag-dropped.new.seat.knows.base ≡ Some z = sym c.view_row.ensures.base ∙ e in
    let is : c.view_row.result ≡ Some c.expect-view.result = search rules in
    view-here (first_version z) c.view_row.new.seat.knows.seen c.view_row.result c.expect-view.result (c.view_row.ensures.viewed z was) is

pub bring-gone-requires-clause-of_history : goal.bring-gone-requires-clause-of_history
bring-gone-requires-clause-of_history g c κs = λ z e.
    let was : c.bare.new.seat.knows.base ≡ Some z = sym c.bare-2.ensures.base ∙ sym c.put-put_c.ensures.base ∙ sym c.bring-stale.ensures.base ∙ sym c.drop_tag-dropped.ensures.went.2.keeps.base ∙ sym c.view_row.ensures.base ∙ sym c.commit-done.ensures.base ∙ e in
    let is : c.bare-2.result ≡ Some c.expect-second.result = search rules in
    let seen = c.bare-2.new.seat.knows.seen in
    let put = c.put-put_c.new.seat.knows.seen in
    let brought = c.bring-stale.new.seat.knows.seen in
    let dropped = c.drop_tag-dropped.new.seat.knows.seen in
    let viewed = c.view_row.new.seat.knows.seen in
    let now = c.commit-done.new.seat.knows.seen in
    let longer : IsPrefix seen now =
    prefix-then seen put now c.put-put_c.ensures.seen (prefix-then put brought now c.bring-stale.ensures.seen
    (prefix-then brought dropped now c.drop_tag-dropped.ensures.went.2.follows.seen (prefix-then dropped viewed now c.view_row.ensures.seen c.commit-done.ensures.seen))) in
    task-given (first_version z) seen now c.bare-2.result c.expect-second.result (c.bare-2.ensures.given z was) is longer

pub bring-stands-requires-clause-of_history : goal.bring-stands-requires-clause-of_history
bring-stands-requires-clause-of_history g c κs = λ z e.
    let was : c.bring-gone.new.seat.knows.base ≡ Some z = sym c.bare-3.ensures.base ∙ e in
    let is : c.bare-3.result ≡ Some c.expect-last.result = search rules in
    task-here (first_version z) c.bare-3.new.seat.knows.seen c.bare-3.result c.expect-last.result (c.bare-3.ensures.given z was) is
