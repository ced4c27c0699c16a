use Rattle.std.proofs.Common.{◌≡◌, ◌++◌}
use Rattle.psi_frames.specs.Served.{text_of}
use Rattle.psi_frames.specs.Texts.{sent_to}
use Rattle.psi_frames.proofs.Sending.{left_text}
use Rattle.psi_frames.proofs.texts.text_of.Given as goal

-- what is written and the text of those that are left are the whole text
abbrev pub invariant-loop-i : goal.invariant-loop-i
invariant-loop-i l = l.text.items ++ left_text l.addresses l.replies l.i ≡ text_of (sent_to l.addresses l.replies)
