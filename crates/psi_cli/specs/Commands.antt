-- The parameters that the words of a command give.
use Rattle.std.specs.Prelude.{ℕ, Bool, if◌then◌else◌, Option, None, Some}
use Rattle.psi_residue.specs.Parameters.{Parameters}

-- the form of the replies: the second one where DROP is given
abbrev pub form_of : Option ℕ → ℕ
form_of None = 1
form_of (Some drop) = 2

-- the bits that a reply leaves out
abbrev pub drop_of : Option ℕ → ℕ
drop_of None = 0
drop_of (Some drop) = drop

-- the parameters of a command's words
abbrev pub word_parameters : (rows capacity units : ℕ) → (drop : Option ℕ) → (counted : Bool) → Parameters
word_parameters rows capacity units drop counted =
    record { form = form_of drop; rows = rows; capacity = capacity; units = units; drop = drop_of drop; spare = if counted then 1 else 0 }
