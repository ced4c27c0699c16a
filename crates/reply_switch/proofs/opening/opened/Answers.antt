use Rattle.std.proofs.Common.{refl}
use Rattle.bfv_core.specs.ShortOpenings.{opened_short}
use Rattle.reply_switch.proofs.opening.opened.Goals as goal

pub returns-clause-nearest : goal.returns-clause-nearest
unfolding opened_short
returns-clause-nearest c = refl
