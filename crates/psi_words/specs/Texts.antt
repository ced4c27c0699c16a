-- The texts of the program.
use Rattle.std.specs.Prelude.{ℕ, ◌==◌, List, [], ◌∷◌, ◌++◌, codes}
use Rattle.std.specs.List.{find, flat_map}
use Rattle.std.specs.Option.{option_map_or}
use Rattle.psi_words.specs.Grammar.{rows}

-- a status of the program with its line
pub record StatusLine : Type 0 where
  pub status : ℕ
  pub line : List ℕ

abbrev pub status_lines : List StatusLine
status_lines =
    record { status = 2; line = codes "psi: words not understood" }
    ∷ record { status = 3; line = codes "psi: parameters refused" }
    ∷ record { status = 4; line = codes "psi: bad input" }
    ∷ record { status = 5; line = codes "psi: read fault" }
    ∷ record { status = 6; line = codes "psi: write fault" }
    ∷ record { status = 7; line = codes "psi: no memory" }
    ∷ record { status = 8; line = codes "psi: items crowded" }
    ∷ []

-- the line of a status, empty where it has none
abbrev pub status_line_of : ℕ → List ℕ
status_line_of status = option_map_or (λ s. s.line) (find (λ s. s.status == status) status_lines) []

-- a line for each command, with its end
abbrev pub help_lines : List ℕ
help_lines = flat_map (λ row. row.shown ++ 10 ∷ []) rows
