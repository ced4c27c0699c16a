-- The text of a summary: six lines (the form is this project's own). A line ends with the byte 10.
use Rattle.std.specs.Prelude.{◌≡◌, ℕ, List, [], ◌∷◌, ◌++◌, codes}
use Rattle.std.specs.Fmt.{decimal}
use Rattle.std.specs.List.{flat_map}
use Rattle.psi_demo.specs.Summaries.{AreStable, Tally}

-- a word, a space, and a number in decimal
unfoldable pub number_line : (name : List ℕ) → ℕ → List ℕ
number_line name n = name ++ 32 ∷ decimal n ++ 10 ∷ []

-- a space and a number
unfoldable pub spaced : ℕ → List ℕ
spaced n = 32 ∷ decimal n

-- the line `stable`
unfoldable pub stable_line : List ℕ → List ℕ
stable_line stable = codes "stable" ++ flat_map spaced stable ++ 10 ∷ []

-- the six lines
abbrev pub summary_text : (number : ℕ) → Tally → (stable : List ℕ) → List ℕ
summary_text number tally stable =
    number_line (codes "demo") number
    ++ number_line (codes "replies") tally.replies
    ++ number_line (codes "added") tally.added
    ++ number_line (codes "removed") tally.removed
    ++ number_line (codes "asks") tally.asks
    ++ stable_line stable

-- The text is the summary of a tally.
pub record IsSummary (number : ℕ) (tally : Tally) (text : List ℕ) : Type 0 where
  pub stable : List ℕ
  pub opened : AreStable number tally.bodies stable
  pub lines : text ≡ summary_text number tally stable
