-- The parameters of the tests.
use Rattle.psi_residue.specs.Parameters.{Parameters}

-- one row, bins of one member, no labels
abbrev pub smallest : Parameters
smallest = record { form = 1; rows = 1; capacity = 1; units = 0; drop = 0; spare = 0 }
