-- The book behind a server of rounds, if it was not given up.
use Rattle.std.specs.Prelude.{◌≡◌, List, [], Option, None, Some, IfSome}
use Rattle.psi_residue.specs.Parameters.{Parameters}
use Rattle.psi_bundle.specs.Histories.{IsLegal, replay}
use Rattle.psi_frames.specs.OneLane.{HasNoStamps}
use Rattle.sender_core.specs.Kept.{Contents, start_of, version_of}

module _ {C : Type 0} where
  -- The book is of a set with these parameters; its journal is legal and leads from its start, which has no stamps, to its version.
  pub record IsBookUnder (p : Parameters) (book : Contents C) : Type 0 where
    pub parameters : book.parameters ≡ p
    pub legal : IsLegal (start_of book) book.journal
    pub leads : replay (start_of book) book.journal ≡ version_of book
    pub no_stamps : HasNoStamps (start_of book)

  -- so is the book that was not given up
  abbrev pub IsOwnBook : Parameters → Option (Contents C) → Type 0
  IsOwnBook p book = IfSome book (IsBookUnder p)
