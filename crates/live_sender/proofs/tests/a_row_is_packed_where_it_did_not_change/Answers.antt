use Rattle.std.proofs.Common.{◌≡◌, ◌∙◌, Some, sym, rules}
use Rattle.live_sender.specs.Histories.{first_version}
use Rattle.live_sender.proofs.Samples.{view-here, view-given}
use Rattle.live_sender.proofs.tests.a_row_is_packed_where_it_did_not_change.Goals as goal

pub commit-moved-requires-clause-of_history : goal.commit-moved-requires-clause-of_history
commit-moved-requires-clause-of_history g c κs = λ z e.
    let was : c.drop_tag-dropped.new.seat.knows.base ≡ Some z = sym c.view_row.ensures.base ∙ sym c.put-put_c.ensures.base ∙ e in
    let is : c.view_row.result ≡ Some c.expect-view.result = search rules in
    view-given (first_version z) c.view_row.new.seat.knows.seen c.put-put_c.new.seat.knows.seen c.view_row.result c.expect-view.result (c.view_row.ensures.viewed z was) is c.put-put_c.ensures.seen

pub commit-done-requires-clause-capacity : goal.commit-done-requires-clause-capacity
commit-done-requires-clause-capacity g c κs = λ z e.
    let was : c.expect-sender.result.1.knows.base ≡ Some z = sym c.put-put_a.ensures.base ∙ sym c.put-put_b.ensures.base ∙ sym c.drop_tag-dropped.ensures.went.2.keeps.base ∙ sym c.view_row.ensures.base ∙ sym c.put-put_c.ensures.base ∙ sym c.commit-moved.ensures.base ∙ sym c.view_row-2.ensures.base ∙ e in
    search rules

pub commit-done-requires-clause-of_history : goal.commit-done-requires-clause-of_history
commit-done-requires-clause-of_history g c κs = λ z e.
    let was : c.commit-moved.new.seat.knows.base ≡ Some z = sym c.view_row-2.ensures.base ∙ e in
    let seen = c.view_row-2.new.seat.knows.seen in
    let is : c.view_row-2.result ≡ Some c.expect-again.result = search rules in
    view-here (first_version z) seen c.view_row-2.result c.expect-again.result (c.view_row-2.ensures.viewed z was) is
