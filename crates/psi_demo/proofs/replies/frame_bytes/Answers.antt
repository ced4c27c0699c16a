use Rattle.std.proofs.Common.{length, ap, arith}
use Rattle.psi_frames.proofs.FrameLaws.{length-frame}
use Rattle.psi_demo.proofs.replies.frame_bytes.Goals as goal

pub returns : goal.returns
returns c = omega (arith, length-frame c.args.frame.now, ap length c.items.ensures)
