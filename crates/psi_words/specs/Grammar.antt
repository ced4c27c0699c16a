-- The commands, and which of them a command line gives. The words do not include the program's name.
use Rattle.std.specs.Prelude.{ℕ, ◌+◌, ◌≤◌, Bool, true, false, not, ◌&&◌, ◌||◌, ◌==◌, if◌then◌else◌, List, [], ◌∷◌, ◌++◌, codes, length, drop, Option, None, Some, Result, Ok, Err, ⊤}
use Rattle.std.specs.List.{find, position_from, slice_get, slice_index_or, zip}
use Rattle.std.specs.Option.{option_and_then, option_map}
use Rattle.std.specs.Str.{bytes_eq}
use Rattle.psi_words.specs.declared.command.Command.{Command}
use Rattle.psi_words.specs.declared.command.Command.TheVariants.{Serve, Replay, Params, Ask, Open, Demo, Help}
use Rattle.psi_words.specs.declared.fault.WordFault.{WordFault}
use Rattle.psi_words.specs.declared.fault.WordFault.TheVariants.{NoCommand, Count, Value}
use Rattle.psi_words.specs.Forms.{Form, is_of, written_number, seed_of}
use Rattle.psi_words.specs.Forms.Form.{Known, Number, Seed, File}

-- the words of a command line, each as the list of its bytes
abbrev pub Words : Type 0
Words = List (List ℕ)

-- ---- the words before the command word

-- what stands before the command word: DROP, where the first word is `form2`, and whether `counted` comes next
pub record Lead : Type 0 where
  pub drop : Option (List ℕ)
  pub counted : Bool

-- DROP: the word next after a first word `form2`, whatever its form. A `form2` alone names no command
abbrev pub drop_word : Words → Option (List ℕ)
drop_word [] = None
drop_word (first ∷ rest) = if bytes_eq first (codes "form2") then slice_get rest 0 else None

-- the forms of the words `form2 DROP`
abbrev pub drop_forms : Option (List ℕ) → List Form
drop_forms None = []
drop_forms (Some word) = Known ∷ Number 0 255 ∷ []

-- the word `counted` stands first, or next after DROP
abbrev pub is_counted : Words → Bool
is_counted line = bytes_eq (slice_index_or line (length (drop_forms (drop_word line))) []) (codes "counted")

-- the words before the command word
abbrev pub lead_of : Words → Lead
lead_of line = record { drop = drop_word line; counted = is_counted line }

-- their forms
abbrev pub lead_forms : Lead → List Form
lead_forms lead = drop_forms lead.drop ++ (if lead.counted then Known ∷ [] else [])

-- ---- the commands

-- a command: how `help` shows its words, its command word, whether other words may stand before that one, the forms of the words
-- behind it, and the command that these give
pub record CommandRow : Type 0 where
  pub shown : List ℕ
  pub name : List ℕ
  pub takes_lead : Bool
  pub forms : List Form
  pub command : Lead → Words → Command

-- word k, and the number that it writes
abbrev pub word_at : ℕ → Words → List ℕ
word_at k words = slice_index_or words k []

abbrev pub number_at : ℕ → Words → ℕ
number_at k words = written_number (word_at k words)

-- the value of DROP
abbrev pub dropped : Lead → Option ℕ
dropped lead = option_map written_number lead.drop

-- the forms of ROWS, CAPACITY and UNITS
abbrev pub sizes : List Form
sizes = Number 0 255 ∷ Number 0 65535 ∷ Number 0 255 ∷ []

abbrev pub serve_row : CommandRow
serve_row = record {
  shown = codes "serve ROWS CAPACITY UNITS WORKERS BUILDERS";
  name = codes "serve";
  takes_lead = true;
  forms = sizes ++ Number 1 8 ∷ Number 0 4 ∷ [];
  command = λ lead words.
      Serve (number_at 0 words) (number_at 1 words) (number_at 2 words) (dropped lead) lead.counted
      (number_at 3 words) (number_at 4 words);
}

abbrev pub replay_row : CommandRow
replay_row = record {
  shown = codes "replay ROWS CAPACITY UNITS";
  name = codes "replay";
  takes_lead = true;
  forms = sizes;
  command = λ lead words.
      Replay (number_at 0 words) (number_at 1 words) (number_at 2 words) (dropped lead) lead.counted;
}

abbrev pub params_row : CommandRow
params_row = record {
  shown = codes "params ROWS CAPACITY UNITS";
  name = codes "params";
  takes_lead = true;
  forms = sizes;
  command = λ lead words.
      Params (number_at 0 words) (number_at 1 words) (number_at 2 words) (dropped lead) lead.counted;
}

abbrev pub ask_row : CommandRow
ask_row = record {
  shown = codes "ask ROWS CAPACITY UNITS SEED SESSION NUMBER";
  name = codes "ask";
  takes_lead = true;
  forms = sizes ++ Seed ∷ Number 0 65535 ∷ Number 0 4294967295 ∷ [];
  command = λ lead words.
      Ask (number_at 0 words) (number_at 1 words) (number_at 2 words) (dropped lead) lead.counted
      (seed_of (word_at 3 words)) (number_at 4 words) (number_at 5 words);
}

abbrev pub open_row : CommandRow
open_row = record {
  shown = codes "open ROWS CAPACITY UNITS SEED FILE";
  name = codes "open";
  takes_lead = true;
  forms = sizes ++ Seed ∷ File ∷ [];
  command = λ lead words.
      Open (number_at 0 words) (number_at 1 words) (number_at 2 words) (dropped lead) lead.counted
      (seed_of (word_at 3 words)) (word_at 4 words);
}

abbrev pub demo_row : CommandRow
demo_row = record {
  shown = codes "demo NUMBER WORKERS";
  name = codes "demo";
  takes_lead = false;
  forms = Number 0 18446744073709551615 ∷ Number 1 8 ∷ [];
  command = λ lead words. Demo (number_at 0 words) (number_at 1 words);
}

abbrev pub help_row : CommandRow
help_row = record { shown = codes "help"; name = codes "help"; takes_lead = false; forms = []; command = λ lead words. Help }

-- all commands, in the order of the text of `help`
abbrev pub rows : List CommandRow
rows = serve_row ∷ replay_row ∷ params_row ∷ ask_row ∷ open_row ∷ demo_row ∷ help_row ∷ []

-- ---- the command of a line

-- the command word: the first word behind the lead
abbrev pub command_word : Words → Option (List ℕ)
command_word line = slice_get line (length (lead_forms (lead_of line)))

-- a word names a command, and what stands before the word may stand before it
abbrev pub is_named : Lead → List ℕ → CommandRow → Bool
is_named lead word row = bytes_eq word row.name && (row.takes_lead || length (lead_forms lead) == 0)

-- the command that a line names
abbrev pub row_of : Words → Option CommandRow
row_of line = option_and_then (λ word. find (is_named (lead_of line) word) rows) (command_word line)

-- the forms of all words of a line
abbrev pub forms_of : Lead → CommandRow → List Form
forms_of lead row = lead_forms lead ++ Known ∷ row.forms

-- the number of the first word that is not of its form, where the first of the words has a given number
abbrev pub first_wrong : ℕ → List Form → Words → Option ℕ
first_wrong number forms words = position_from (λ p. not (is_of p.0 p.1)) number (zip forms words)

-- what words give, unless one of them is not of its form
abbrev pub judged_value : {A : Type 0} → Option ℕ → A → Result A WordFault
judged_value (Some word) given = Err (Value word)
judged_value None given = Ok given

-- by the number of words, and then by their forms
abbrev pub judged_row : Option CommandRow → Words → Result Command WordFault
judged_row None line = Err NoCommand
judged_row (Some row) line =
    let lead = lead_of line in
    let forms = forms_of lead row in
    if length line == length forms then judged_value (first_wrong 0 forms line) (row.command lead (drop (length (lead_forms lead) + 1) line))
    else Err (Count (length row.forms))

-- the command of a line, or why it gives none
abbrev pub judged : Words → Result Command WordFault
judged line = judged_row (row_of line) line

-- the answer is a command that keeps the name of a file
abbrev pub KeepsName : Result Command WordFault → Type 0
KeepsName (Ok (Open _ _ _ _ _ _ file)) = ⊤
KeepsName _ = ⊥

-- the lanes and builders of a command are as many as it may have
abbrev pub HasLanes : Command → Type 0
HasLanes (Serve _ _ _ _ _ workers builders) = (1 ≤ workers) × (workers ≤ 8) × (builders ≤ 4)
HasLanes (Demo _ workers) = (1 ≤ workers) × (workers ≤ 8)
HasLanes _ = ⊤
