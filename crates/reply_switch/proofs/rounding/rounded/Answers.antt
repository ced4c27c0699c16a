use Rattle.std.proofs.Common.{arith}
use Rattle.psi_residue.specs.Residues.{composed}
use Rattle.reply_switch.proofs.Dividing.{rounded-small, rounded-large}
use Rattle.reply_switch.proofs.rounding.rounded.Goals as goal

pub returns-then-nearest-lt-Q1 : goal.returns-then-nearest-lt-Q1
returns-then-nearest-lt-Q1 c =
    rounded-small c.args.b c.quotient.result c.carry.result (composed c.args.a c.args.b) c.requires.second c.quotient.ensures.whole c.carry.ensures c.if-nearest-lt-Q1.true

pub returns-else-nearest-lt-Q1 : goal.returns-else-nearest-lt-Q1
returns-else-nearest-lt-Q1 c =
    rounded-large c.args.b c.quotient.result c.carry.result (composed c.args.a c.args.b) c.requires.second c.quotient.ensures.whole c.carry.ensures (omega arith) c.quotient.ensures.below
