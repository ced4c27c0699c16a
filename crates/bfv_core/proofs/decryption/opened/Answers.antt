use Rattle.bfv_core.proofs.Scaling.{opened_by_residues}
use Rattle.bfv_core.proofs.decryption.opened.Goals as goal

pub returns-clause-nearest : goal.returns-clause-nearest
returns-clause-nearest c = opened_by_residues c.args.a c.args.b c.multiple-rest.result c.multiple-rest.ensures.whole
