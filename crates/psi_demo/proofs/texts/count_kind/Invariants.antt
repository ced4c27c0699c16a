use Rattle.std.proofs.Common.{◌≡◌, ◌≤◌, count_by, nat_eq, take}
use Rattle.psi_frames.specs.Frames.{reply_kind}
use Rattle.psi_demo.proofs.texts.count_kind.Given as goal

abbrev pub invariant-loop-reply : goal.invariant-loop-reply
invariant-loop-reply l = record {
  counted : l.count ≡ count_by (λ r. nat_eq (reply_kind r) l.kind) (take l.reply-index l.replies);
  few : l.count ≤ l.reply-index;
}
