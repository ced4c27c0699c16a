-- The commands by their kinds. Each command is of one kind, and all that is said of a run is said of its kind.
use Rattle.std.specs.Prelude.{◌≡◌, ℕ, Bool, true, nat_eq, List, map, String, string_bytes, Result, Ok, Err, ⊤}
use Rattle.psi_residue.specs.Parameters.{Parameters}
use Rattle.psi_words.specs.declared.command.Command.{Command}
use Rattle.psi_words.specs.declared.command.Command.TheVariants as command
use Rattle.psi_words.specs.declared.fault.WordFault.{WordFault}
use Rattle.psi_words.specs.Grammar.{judged}
use Rattle.psi_cli.specs.AskAndOpen.{asking, opening}
use Rattle.psi_cli.specs.Commands.{word_parameters}
use Rattle.psi_cli.specs.Readers.{Reader}

-- how rounds are answered: on one thread, without waiting, or by workers and builders
pub data Lanes : Type 0 where
  OneThread : Lanes
  Threads : (workers builders : ℕ) → Lanes

-- whether one lane alone answers: one worker does so
abbrev pub is_alone : Lanes → Bool
is_alone Lanes.OneThread = true
is_alone (Lanes.Threads workers builders) = nat_eq workers 1

-- one lane alone answers
abbrev pub IsAlone : Lanes → Type 0
IsAlone Lanes.OneThread = ⊤
IsAlone (Lanes.Threads workers builders) = workers ≡ 1

-- The kinds: rounds from the empty set; a text that is read, and perhaps a file, for one text that is written; the figures of parameters;
-- the demonstration; the words of all commands; and no command.
pub data Kind : Type 1 where
  Rounds : Parameters → Lanes → Kind
  Reads : Reader → Kind
  Figures : Parameters → Kind
  Demonstration : (number workers : ℕ) → Kind
  Help : Kind
  NoCommand : Kind

-- the kind of a command
abbrev pub command_kind : Command → Kind
command_kind (command.Serve rows capacity units drop counted workers builders) =
    Kind.Rounds (word_parameters rows capacity units drop counted) (Lanes.Threads workers builders)
command_kind (command.Replay rows capacity units drop counted) =
    Kind.Rounds (word_parameters rows capacity units drop counted) Lanes.OneThread
command_kind (command.Params rows capacity units drop counted) =
    Kind.Figures (word_parameters rows capacity units drop counted)
command_kind (command.Ask rows capacity units drop counted seed session number) =
    Kind.Reads (asking (word_parameters rows capacity units drop counted) seed session number)
command_kind (command.Open rows capacity units drop counted seed name) =
    Kind.Reads (opening (word_parameters rows capacity units drop counted) seed name)
command_kind (command.Demo number workers) = Kind.Demonstration number workers
command_kind command.Help = Kind.Help

-- the kind of what words give: a command, or why there is none
abbrev pub kind_of : Result Command WordFault → Kind
kind_of (Err fault) = Kind.NoCommand
kind_of (Ok c) = command_kind c

-- the kind of the words of a command line
abbrev pub kind_by : {A : Type 0} → List (String A) → Kind
kind_by words = kind_of (judged (map string_bytes words))
