use Rattle.psi_residue.specs.Residues.{first_inverse}
use Rattle.psi_residue.proofs.Composition.{composed-from}
use Rattle.psi_residue.proofs.residues.compose.Goals as goal

pub returns-clause-composed : goal.returns-clause-composed
unfolding first_inverse
returns-clause-composed c =
    composed-from c.args.a c.args.b c.sub.result c.mul-rest.result c.from.result c.from-2.result c.from-3.result
    c.sub.ensures.difference c.mul-rest.ensures.product c.from.ensures c.from-2.ensures c.from-3.ensures
