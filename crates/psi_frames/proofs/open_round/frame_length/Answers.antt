use Rattle.std.proofs.Common.{ap, length, arith}
use Rattle.psi_frames.proofs.FrameLaws.{length-frame}
use Rattle.psi_frames.proofs.open_round.frame_length.Goals as goal

pub returns : goal.returns
returns c = omega (arith, ap length c.items.ensures, length-frame c.args.frame.now)
