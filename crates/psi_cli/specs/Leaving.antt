-- What a run leaves that reads its input whole, if it reads any, and then writes one text.
use Rattle.std.specs.Prelude.{◌≡◌, ◌⊎◌, List, ℕ, Ok, Err, Result}
use Rattle.psi_residue.specs.Parameters.{Parameters}
use Rattle.psi_words.specs.Texts.{help_lines}
use Rattle.psi_cli.specs.declared.outcome.Outcome.{Outcome}
use Rattle.psi_cli.specs.declared.status.Status.{Status}
use Rattle.psi_cli.specs.declared.status.Status.TheVariants as status
use Rattle.psi_cli.specs.Outcomes.{ParamsMake}
use Rattle.psi_cli.specs.Readers.{HasNoOutcome, HasOutcome, HasReadAll, Reader}
use Rattle.psi_cli.specs.Worlds.{Given, IsTextCutOff, IsTextWritten, IsUntouched, NothingRead, World}
use Rattle.psi_outside.specs.Ends.{SinkTold}

-- Such a task: the text that it comes to, with a status; what it has read then; and why it comes to none, with a status.
pub record Task : Type 1 where
  pub makes : Given → Status → (text : List ℕ) → Type 0
  pub reads : (old new : Given) → Type 0
  pub gives_up : (old new : Given) → Status → Type 0

-- memory ran out, and nothing was read
pub record HasNoMemory (old new : Given) (s : Status) : Type 0 where
  pub status_is : s ≡ status.NoMemory
  pub nothing_read : NothingRead old new

-- the help comes to its lines
pub record HasHelp (s : Status) (text : List ℕ) : Type 0 where
  pub status_is : s ≡ status.Done
  pub lines : text ≡ help_lines

-- the tasks: a command that reads a text, `params`, and `help`
abbrev pub reader_task : Reader → Task
reader_task r = record { makes = HasOutcome r; reads = HasReadAll; gives_up = HasNoOutcome r }

abbrev pub params_task : Parameters → Task
params_task p = record { makes = λ given s text. ParamsMake p s text; reads = NothingRead; gives_up = HasNoMemory }

abbrev pub help_task : Task
help_task = record { makes = λ given s text. HasHelp s text; reads = NothingRead; gives_up = HasNoMemory }

-- what the task comes to was written, with its status
pub record HasWritten (t : Task) (old new : World) (s : Status) : Type 0 where
  pub text : List ℕ
  pub makes : t.makes old.given s text
  pub read : t.reads old.given new.given
  pub written : IsTextWritten text old.sink new.sink

-- what the task comes to, with whatever status, was not written whole
pub record HasBeenCutOff (t : Task) (old new : World) (s : Status) : Type 0 where
  pub told : s ≡ status.WriteFault
  pub text : List ℕ
  pub meant : Status
  pub makes : t.makes old.given meant text
  pub read : t.reads old.given new.given
  pub cut_off : IsTextCutOff text old.sink new.sink

-- the task came to nothing, and nothing was written
pub record HasWrittenNone (t : Task) (old new : World) (s : Status) : Type 0 where
  pub why : t.gives_up old.given new.given s
  pub untouched : IsUntouched old.sink new.sink

-- what a run leaves, and its status
abbrev pub LeavesText : Task → World → World → Status → Type 0
LeavesText t old new s = HasWritten t old new s ⊎ (HasBeenCutOff t old new s ⊎ HasWrittenNone t old new s)

-- how the end of a run writes what was made, if anything was
abbrev pub Finishes : Result Outcome Status → SinkTold → SinkTold → Status → Type 0
Finishes (Ok made) old new s =
    ((s ≡ made.status) × IsTextWritten made.text.items old new)
    ⊎ ((s ≡ status.WriteFault) × IsTextCutOff made.text.items old new)
Finishes (Err why) old new s = (s ≡ why) × IsUntouched old new
