use Rattle.std.proofs.Common.{arith}
use Rattle.reply_switch.proofs.Restoring.{restored-fits}
use Rattle.reply_switch.proofs.opening.restored.Goals as goal

pub overflow_mul-result : goal.overflow_mul-result
overflow_mul-result c = let fits = restored-fits c.args.drop c.args.z c.requires.dropped c.requires.within in omega (arith, fits.whole)

pub overflow_add-result : goal.overflow_add-result
overflow_add-result c = let fits = restored-fits c.args.drop c.args.z c.requires.dropped c.requires.within in omega (arith, fits.whole, fits.half)

pub returns-clause-middle : goal.returns-clause-middle
returns-clause-middle c = (restored-fits c.args.drop c.args.z c.requires.dropped c.requires.within).same

pub returns-clause-below : goal.returns-clause-below
returns-clause-below c = let fits = restored-fits c.args.drop c.args.z c.requires.dropped c.requires.within in omega (arith, fits.whole, fits.half)
