use Rattle.std.proofs.Common.{◌∙◌, ap}
use Rattle.negacyclic.specs.Transforms.{values_of}
use Rattle.bfv_core.proofs.key.write_values.Goals as goal

pub returns : goal.returns
returns c = c.forward.ensures.values ∙ ap (values_of c.args.m) c.write_residues.ensures.residues
