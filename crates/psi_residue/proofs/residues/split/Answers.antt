use Rattle.psi_residue.proofs.Composition.{composed-split}
use Rattle.psi_residue.proofs.residues.split.Goals as goal

pub returns-clause-undone : goal.returns-clause-undone
returns-clause-undone c = composed-split c.args.x c.from.result c.from-2.result c.requires c.from.ensures c.from-2.ensures
