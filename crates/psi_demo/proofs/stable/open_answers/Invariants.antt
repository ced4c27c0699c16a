use Rattle.std.proofs.Common.{◌≤◌, length, take}
use Rattle.std.specs.List.{filter_map}
use Rattle.psi_frames.specs.Served.{body_of}
use Rattle.psi_demo.specs.Summaries.{AreStable, opened_answers}
use Rattle.psi_demo.proofs.stable.open_answers.Given as goal

-- the answers so far were opened
abbrev pub invariant-loop-reply : goal.invariant-loop-reply
invariant-loop-reply g l = record {
  opened : AreStable l.number (filter_map body_of (take l.reply-index l.replies)) l.stable.items;
  few : length l.stable.items ≤ opened_answers;
}
