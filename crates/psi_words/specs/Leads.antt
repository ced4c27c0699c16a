-- What a command line gives, by its parts: the words before the command word, that word, and the words behind it.
use Rattle.std.specs.Prelude.{ℕ, ◌+◌, not, ◌==◌, if◌then◌else◌, List, length, Option, None, Some, Result, Ok, Err}
use Rattle.std.specs.List.{find}
use Rattle.std.specs.Option.{option_copied}
use Rattle.psi_words.specs.declared.command.Command.{Command}
use Rattle.psi_words.specs.declared.fault.WordFault.{WordFault}
use Rattle.psi_words.specs.declared.fault.WordFault.TheVariants.{NoCommand, Count, Value}
use Rattle.psi_words.specs.declared.lead.Lead as kept
use Rattle.psi_words.specs.declared.reading.Sizes.{Sizes}
use Rattle.psi_words.specs.Forms.{Form, is_of, written_number}
use Rattle.psi_words.specs.Forms.Form.{Number}
use Rattle.psi_words.specs.Grammar.{Words, Lead, CommandRow, rows, dropped, first_wrong, is_named, judged_value, lead_forms}

-- the words before the command word, as the program keeps them
abbrev pub shown : kept.Lead → Lead
shown lead = record { drop = option_copied lead.drop; counted = lead.counted }

-- the value of DROP, or its number where it is not of its form
abbrev pub drop_read : Option (List ℕ) → Result (Option ℕ) WordFault
drop_read None = Ok None
drop_read (Some word) = if is_of (Number 0 255) word then Ok (Some (written_number word)) else Err (Value 1)

-- the number of the first word that is not of its form, DROP included, or else what is given
abbrev pub wrong_or : Option (List ℕ) → Option ℕ → Option ℕ
wrong_or None otherwise = otherwise
wrong_or (Some word) otherwise = if not (is_of (Number 0 255) word) then Some 1 else otherwise

-- the number of the first word that is not of its form, with the forms of the words behind the command word
abbrev pub first_wrong_behind : List Form → Lead → Words → Option ℕ
first_wrong_behind forms lead behind = wrong_or lead.drop (first_wrong (length (lead_forms lead) + 1) forms behind)

-- the values of DROP and of the first three words behind the command word
abbrev pub sizes_of : Lead → (rows capacity units : List ℕ) → Sizes
sizes_of lead rows capacity units =
    record {
      rows = written_number rows;
      capacity = written_number capacity;
      units = written_number units;
      drop = dropped lead;
      counted = lead.counted;
    }

-- what a command gives with the words before and behind its command word
abbrev pub judged_behind : CommandRow → Lead → Words → Result Command WordFault
judged_behind row lead behind =
    if length behind == length row.forms then judged_value (first_wrong_behind row.forms lead behind) (row.command lead behind)
    else Err (Count (length row.forms))

abbrev pub judged_found : Option CommandRow → Lead → Words → Result Command WordFault
judged_found None lead behind = Err NoCommand
judged_found (Some row) lead behind = judged_behind row lead behind

-- what a command word gives with the words before and behind it
abbrev pub judged_named : Lead → List ℕ → Words → Result Command WordFault
judged_named lead word behind = judged_found (find (is_named lead word) rows) lead behind
