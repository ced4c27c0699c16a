use Rattle.std.proofs.Common.{length, ap, arith}
use Rattle.psi_demo.proofs.Made.{length-asked}
use Rattle.psi_demo.proofs.stable.open_next.Goals as goal

pub open_answer-requires-clause-numbered : goal.open_answer-requires-clause-numbered
open_answer-requires-clause-numbered g c κs within = omega (arith, ap length c.requires.tags, length-asked c.args.number)
