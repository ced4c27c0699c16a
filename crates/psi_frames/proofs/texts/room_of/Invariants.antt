use Rattle.std.proofs.Common.{◌≡◌, take}
use Rattle.psi_frames.specs.Texts.{room_of}
use Rattle.psi_frames.proofs.texts.room_of.Given as goal

abbrev pub invariant-loop-reply : goal.invariant-loop-reply
invariant-loop-reply l = l.room ≡ room_of (take l.reply-index l.replies)
