use Rattle.bfv_core.proofs.Scaling.{multiple_of}
use Rattle.bfv_core.proofs.decryption.multiple.Goals as goal

pub returns-clause-whole : goal.returns-clause-whole
returns-clause-whole c = multiple_of c.args.a c.args.b c.requires.first
