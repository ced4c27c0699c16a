-- Commands that read a text to its end, and perhaps a file behind it, and then write one text.
use Rattle.std.specs.Prelude.{◌≡◌, ◌⊎◌, ℕ, List, Option, None, IfSome, IsSome}
use Rattle.psi_residue.specs.Parameters.{Parameters}
use Rattle.noise_ledger.specs.Verdicts.{ArePassed}
use Rattle.psi_outside.specs.Causes.{Rose}
use Rattle.psi_cli.specs.declared.status.Status.{Status}
use Rattle.psi_cli.specs.declared.status.Status.TheVariants as status
use Rattle.psi_cli.specs.Reading.{HasReadFailed, IsEnded, IsReadAbout, IsTested}
use Rattle.psi_cli.specs.Worlds.{Given, NoReadFailed, NothingRead}

-- What such a command is, as functions of what is told before it.
pub record Reader : Type 1 where
  -- its parameters, which are looked at before anything is read
  pub parameters : Parameters
  -- the most bytes of its text, and which texts it takes
  pub most : ℕ
  pub takes : List ℕ → Type 0
  -- the name of the file that is read behind the text, if it reads one
  pub file : Option (List ℕ)
  -- it comes to this text, which is written with this status
  pub makes : Given → Status → (text : List ℕ) → Type 0
  -- the input is bad, as far as it is told; and a bad input is told
  pub may_be_bad : Given → Type 0
  pub is_bad : Given → Type 0
  -- all that is tested before the placement is told and good, and the items have no placement
  pub is_crowded : Given → Type 0
  -- the text that crowded items make, as far as they are told
  pub crowd : Given → (text : List ℕ) → Type 0
  -- all is told and good: nothing but a fault or want of memory keeps the command from being done
  pub is_good : Given → Type 0

-- the text was read to its end and taken, and no read failed
pub record HasReadText (r : Reader) (old new : Given) : Type 0 where
  pub taken : IfSome old.source.left r.takes
  pub ended : IsEnded old.source new.source
  pub no_read_failed : new.source.faults ≡ old.source.faults

-- no read of the source failed, but one of the file behind it
pub record HasFileFailed (r : Reader) (old new : Given) : Type 0 where
  pub file : IsSome r.file
  pub read : HasReadText r old new
  pub failed : Rose old.files.faults new.files.faults

-- a read of the source failed, and the file was not read
pub record HasSourceFailed (r : Reader) (old new : Given) : Type 0 where
  pub source : HasReadFailed r.most old.source new.source
  pub unread : new.files ≡ old.files

-- the parameters are refused, before anything is read
pub record HasRefusedParameters (p : Parameters) (old new : Given) : Type 0 where
  pub refused : ArePassed p → ⊥
  pub nothing_read : NothingRead old new

-- the input is bad, and no read failed
pub record HasBadInput (r : Reader) (old new : Given) : Type 0 where
  pub passed : ArePassed r.parameters
  pub bad : r.may_be_bad old
  pub no_read_failed : NoReadFailed old new
  pub tested : IsTested r.most old.source new.source

-- a read failed, of the source or of the file
pub record HasReadFault (r : Reader) (old new : Given) : Type 0 where
  pub passed : ArePassed r.parameters
  pub failed : HasSourceFailed r old new ⊎ HasFileFailed r old new

-- why the command comes to nothing, by its status; where memory ran out, not much more of the text was read than it may have
abbrev pub ReadsNothing : Reader → (old new : Given) → Status → Type 0
ReadsNothing r old new status.Parameters = HasRefusedParameters r.parameters old new
ReadsNothing r old new status.BadInput = HasBadInput r old new
ReadsNothing r old new status.ReadFault = HasReadFault r old new
ReadsNothing r old new status.NoMemory = IsReadAbout r.most old.source new.source
ReadsNothing r old new status.Done = ⊥
ReadsNothing r old new status.Words = ⊥
ReadsNothing r old new status.WriteFault = ⊥
ReadsNothing r old new status.Crowded = ⊥

-- and a command without a file leaves the files unread
pub record HasNoOutcome (r : Reader) (old new : Given) (s : Status) : Type 0 where
  pub why : ReadsNothing r old new s
  pub no_file : r.file ≡ None → new.files ≡ old.files

-- with parameters that pass it comes to a text, with this status
pub record HasOutcome (r : Reader) (given : Given) (s : Status) (text : List ℕ) : Type 0 where
  pub passed : ArePassed r.parameters
  pub makes : r.makes given s text

-- it read its source to its end, and no read failed
pub record HasReadAll (old new : Given) : Type 0 where
  pub ended : IsEnded old.source new.source
  pub no_read_failed : NoReadFailed old new
