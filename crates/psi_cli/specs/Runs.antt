-- What a run of the program leaves, by the kind of its words.
use Rattle.std.specs.Prelude.{◌≡◌, ◌⊎◌, ℕ, Bool, true, ⊤}
use Rattle.psi_residue.specs.Parameters.{Parameters}
use Rattle.noise_ledger.specs.Verdicts.{ArePassed}
use Rattle.psi_bundle.specs.Versions.{empty_version}
use Rattle.psi_outside.specs.Ends.{Ends}
use Rattle.query_pool.specs.declared.round.Served.{Served}
use Rattle.psi_serve.specs.Serving.{HasServed}
use Rattle.psi_cli.specs.declared.status.Status.{Status}
use Rattle.psi_cli.specs.declared.status.Status.TheVariants as status
use Rattle.psi_cli.specs.Demonstrations.{Demonstrates}
use Rattle.psi_cli.specs.Kinds.{Kind, Lanes, is_alone}
use Rattle.psi_cli.specs.Leaving.{LeavesText, Task, help_task, params_task, reader_task}
use Rattle.psi_cli.specs.Statuses.{Ended}
use Rattle.psi_cli.specs.Worlds.{World, ends_of}

-- nothing is read or written, and the words give no command
abbrev pub DoesNothing : World → World → ℕ → Type 0
DoesNothing old new n = Ended status.Words n × (new ≡ old)

-- rounds were served with these parameters; alone: by one lane
pub record ServedSo (p : Parameters) (alone : Bool) (old new : Ends) (n : ℕ) : Type 0 where
  pub passed : ArePassed p
  pub served : Served
  pub status_is : served.status ≡ n
  pub leaves : HasServed (empty_version p) alone old new served

-- the parameters are refused, and nothing is read or written
pub record RefusesParameters (p : Parameters) (old new : Ends) (n : ℕ) : Type 0 where
  pub refused : ArePassed p → ⊥
  pub status_is : Ended status.Parameters n
  pub nothing : new ≡ old

-- rounds are served, unless the parameters are refused
abbrev pub RunsRounds : Parameters → (alone : Bool) → (old new : Ends) → ℕ → Type 0
RunsRounds p alone old new n = ServedSo p alone old new n ⊎ RefusesParameters p old new n

-- and no file is read
pub record ServesRounds (p : Parameters) (alone : Bool) (old new : World) (n : ℕ) : Type 0 where
  pub rounds : RunsRounds p alone (ends_of old) (ends_of new) n
  pub no_file : new.given.files ≡ old.given.files

-- the demonstration was shown, or why it was not, and nothing was read
pub record Shows (number workers : ℕ) (old new : Ends) (n : ℕ) : Type 0 where
  pub unread : new.source ≡ old.source
  pub shown : Demonstrates number workers old.sink new.sink n

-- and no file is read
pub record ShowsDemo (number workers : ℕ) (old new : World) (n : ℕ) : Type 0 where
  pub shows : Shows number workers (ends_of old) (ends_of new) n
  pub no_file : new.given.files ≡ old.given.files

-- a run that reads its input whole, and then writes one text
abbrev pub RunsTask : Task → World → World → ℕ → Type 0
RunsTask t old new n = (s : Status) × Ended s n × LeavesText t old new s

-- A run of the program.
abbrev pub Runs : Kind → World → World → ℕ → Type 0
Runs (Kind.Rounds p lanes) old new n = ServesRounds p (is_alone lanes) old new n
Runs (Kind.Reads reader) old new n = RunsTask (reader_task reader) old new n
Runs (Kind.Figures p) old new n = RunsTask (params_task p) old new n
Runs (Kind.Demonstration number workers) old new n = ShowsDemo number workers old new n
Runs Kind.Help old new n = RunsTask help_task old new n
Runs Kind.NoCommand old new n = DoesNothing old new n

-- A run of one thread, which knows neither lanes that wait for each other nor the demonstration.
abbrev pub RunsPlain : Kind → World → World → ℕ → Type 0
RunsPlain (Kind.Rounds p Lanes.OneThread) old new n = ServesRounds p true old new n
RunsPlain (Kind.Rounds p (Lanes.Threads workers builders)) old new n = DoesNothing old new n
RunsPlain (Kind.Reads reader) old new n = RunsTask (reader_task reader) old new n
RunsPlain (Kind.Figures p) old new n = RunsTask (params_task p) old new n
RunsPlain (Kind.Demonstration number workers) old new n = DoesNothing old new n
RunsPlain Kind.Help old new n = RunsTask help_task old new n
RunsPlain Kind.NoCommand old new n = DoesNothing old new n

-- words that give no command of the program, and none of a run of one thread
abbrev pub GivesNone : Kind → Type 0
GivesNone (Kind.Rounds p lanes) = ⊥
GivesNone (Kind.Reads reader) = ⊥
GivesNone (Kind.Figures p) = ⊥
GivesNone (Kind.Demonstration number workers) = ⊥
GivesNone Kind.Help = ⊥
GivesNone Kind.NoCommand = ⊤

abbrev pub GivesNoPlain : Kind → Type 0
GivesNoPlain (Kind.Rounds p Lanes.OneThread) = ⊥
GivesNoPlain (Kind.Rounds p (Lanes.Threads workers builders)) = ⊤
GivesNoPlain (Kind.Reads reader) = ⊥
GivesNoPlain (Kind.Figures p) = ⊥
GivesNoPlain (Kind.Demonstration number workers) = ⊤
GivesNoPlain Kind.Help = ⊥
GivesNoPlain Kind.NoCommand = ⊤
