use Rattle.std.proofs.Common.{refl}
use Rattle.reply_switch.proofs.Dividing.{quotient-whole, quotient-below}
use Rattle.reply_switch.proofs.rounding.quotient.Goals as goal

pub returns-clause-whole : goal.returns-clause-whole
returns-clause-whole c = quotient-whole c.args.a c.args.b _ c.requires.first c.requires.second refl

pub returns-clause-below : goal.returns-clause-below
returns-clause-below c = quotient-below c.args.a c.args.b _ c.requires.first c.requires.second refl
