use Rattle.std.proofs.Common.{◌≡◌, ◌∙◌, Some, sym, rules}
use Rattle.live_sender.specs.Histories.{first_version}
use Rattle.live_sender.proofs.Samples.{view-here, view-given}
use Rattle.live_sender.proofs.tests.a_view_is_good_once.Goals as goal

pub commit-done-requires-clause-of_history : goal.commit-done-requires-clause-of_history
commit-done-requires-clause-of_history g c κs = λ z e.
    let was : c.put-answer.new.seat.knows.base ≡ Some z = sym c.view_row.ensures.base ∙ e in
    let is : c.view_row.result ≡ Some c.expect-view.result = search rules in
    view-here (first_version z) c.view_row.new.seat.knows.seen c.view_row.result c.expect-view.result (c.view_row.ensures.viewed z was) is

pub commit-moved-requires-clause-of_history : goal.commit-moved-requires-clause-of_history
commit-moved-requires-clause-of_history g c κs = λ z e.
    let was : c.put-answer.new.seat.knows.base ≡ Some z = sym c.view_row.ensures.base ∙ sym c.commit-done.ensures.base ∙ e in
    let is : c.view_row.result ≡ Some c.expect-view.result = search rules in
    view-given (first_version z) c.view_row.new.seat.knows.seen c.commit-done.new.seat.knows.seen c.view_row.result c.expect-view.result (c.view_row.ensures.viewed z was) is c.commit-done.ensures.seen
