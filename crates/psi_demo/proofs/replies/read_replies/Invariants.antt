use Rattle.std.proofs.Common.{length}
use Rattle.psi_demo.proofs.Reading.{IsRead}
use Rattle.psi_demo.proofs.replies.read_replies.Given as goal

abbrev pub invariant-loop-frame : goal.invariant-loop-frame
invariant-loop-frame l = IsRead l.bytes l.feed l.replies.items l.offset

abbrev pub decreases-loop-frame : goal.decreases-loop-frame
decreases-loop-frame l = length l.feed.ready
