use Rattle.psi_demo.proofs.ScriptSizes.{asks-thrice}
use Rattle.psi_demo.proofs.ServedSizes.{short-texts}
use Rattle.psi_demo.proofs.laws.served_scripts_are_short.Goals as goal

pub returns-clause-short : goal.returns-clause-short
returns-clause-short c = short-texts

pub returns-clause-asks : goal.returns-clause-asks
returns-clause-asks c = asks-thrice
