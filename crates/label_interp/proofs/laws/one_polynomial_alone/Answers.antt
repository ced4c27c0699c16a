use Rattle.label_interp.proofs.Interpolating.{one_alone}
use Rattle.label_interp.proofs.laws.one_polynomial_alone.Goals as goal

pub returns : goal.returns
returns c = one_alone
