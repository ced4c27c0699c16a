-- What a run of one command leaves.
use Rattle.std.proofs.Common.{◌≡◌, ◌⊎◌, ℕ, Bool, List, [], length, drop, ◌+◌, ◌==◌, Option, None, Some, Result, Ok, Err, refl, sym, ap, ◌∙◌, subst, inl, inr}
use Rattle.std.specs.Result.{IfErr, IfOk, OnOk}
use Rattle.std.proofs.lemmas.Bool.{cases_Bool}
use Rattle.std.proofs.lemmas.Result.{IfErr-weaker}
use Rattle.psi_residue.specs.Parameters.{Parameters}
use Rattle.noise_ledger.specs.Verdicts.{ArePassed}
use Rattle.psi_words.specs.declared.command.Command.{Command}
use Rattle.psi_words.specs.declared.command.Command.TheVariants as command
use Rattle.psi_words.specs.declared.fault.WordFault.{WordFault}
use Rattle.psi_words.specs.declared.fault.WordFault.TheVariants as words
use Rattle.psi_words.specs.Grammar.{KeepsName, Words, CommandRow, first_wrong, forms_of, judged, judged_row, judged_value, lead_forms, lead_of, row_of}
use Rattle.psi_cli.specs.declared.outcome.Outcome.{Outcome}
use Rattle.psi_cli.specs.declared.status.Status.{Status}
use Rattle.psi_cli.specs.declared.status.Status.TheVariants as status
use Rattle.psi_cli.specs.AskAndOpen.{asking, opening}
use Rattle.psi_cli.specs.Commands.{word_parameters}
use Rattle.psi_cli.specs.ItemTexts.{most_item_text}
use Rattle.psi_cli.specs.Kinds.{command_kind, kind_of}
use Rattle.psi_cli.specs.Leaving.{Finishes, params_task, reader_task}
use Rattle.psi_cli.specs.Outcomes.{ParamsMake}
use Rattle.psi_cli.specs.Readers.{HasNoOutcome, HasOutcome, HasReadAll, Reader, ReadsNothing}
use Rattle.psi_cli.specs.Reading.{IsEnded}
use Rattle.psi_cli.specs.Runs.{RunsPlain, RunsTask}
use Rattle.psi_cli.specs.Statuses.{Ended}
use Rattle.psi_cli.specs.Worlds.{World}
use Rattle.psi_cli.proofs.Finished.{runs_task}
use Rattle.psi_cli.proofs.ReadTexts.{nothing_taken}

-- ---- `params`

-- what holds anyway holds of an Ok, and of an Err
pub on_ok : {A E P : Type 0} (r : Result A E) → P → OnOk r P
on_ok (Ok x) h = h
on_ok (Err e) h = tt

memory_only : (r : Result Outcome Status) (P : Status → Type 0) → P status.NoMemory → IfErr r (λ why. why ≡ status.NoMemory) → IfErr r P
memory_only (Ok o) P h e = tt
memory_only (Err t) P h e = subst P (sym e) h

pub params_runs : (c : Command) (rows capacity units : ℕ) (dropped : Option ℕ) (counted : Bool) (p : Parameters) (old new : World) (made : Result Outcome Status) (s : Status) (n : ℕ)
    → c ≡ command.Params rows capacity units dropped counted → p ≡ word_parameters rows capacity units dropped counted → Ended s n
    → IfOk made (λ o. ParamsMake p o.status o.text.items) → IfErr made (λ why. why ≡ status.NoMemory) → new.given ≡ old.given
    → Finishes made old.sink new.sink s → RunsPlain (command_kind c) old new n
params_runs c rows capacity units dropped counted p old new made s n is same e makes fault unread fin =
    subst (λ (d : Command). RunsPlain (command_kind d) old new n) (sym is)
    (subst (λ (q : Parameters). RunsTask (params_task q) old new n) same
    (runs_task (params_task p) old new made s n e makes (on_ok made unread)
    (memory_only made ((params_task p).gives_up old.given new.given) (record { status_is = refl; nothing_read = unread }) fault) fin))

-- ---- a command that reads a text

outcome : (r : Reader) (old : World) (made : Result Outcome Status) → OnOk made (ArePassed r.parameters)
    → IfOk made (λ o. r.makes old.given o.status o.text.items) → IfOk made (λ o. HasOutcome r old.given o.status o.text.items)
outcome r old (Ok o) passed makes = record { passed = passed; makes = makes }
outcome r old (Err t) passed makes = tt

read_all : (old new : World) (made : Result Outcome Status) → OnOk made (IsEnded old.given.source new.given.source)
    → OnOk made (new.given.source.faults ≡ old.given.source.faults) → OnOk made (new.given.files.faults ≡ old.given.files.faults)
    → OnOk made (HasReadAll old.given new.given)
read_all old new (Ok o) ended source file = record { ended = ended; no_read_failed = record { source = source; file = file } }
read_all old new (Err t) ended source file = tt

pub reader_runs : (r : Reader) (old new : World) (made : Result Outcome Status) (s : Status) (n : ℕ) → Ended s n
    → OnOk made (ArePassed r.parameters) → IfOk made (λ o. r.makes old.given o.status o.text.items)
    → OnOk made (IsEnded old.given.source new.given.source) → OnOk made (new.given.source.faults ≡ old.given.source.faults)
    → OnOk made (new.given.files.faults ≡ old.given.files.faults)
    → IfErr made (ReadsNothing r old.given new.given) → (r.file ≡ None → new.given.files ≡ old.given.files)
    → Finishes made old.sink new.sink s → RunsTask (reader_task r) old new n
reader_runs r old new made s n e passed makes ended source file fault no_file fin =
    runs_task (reader_task r) old new made s n e (outcome r old made passed makes) (read_all old new made ended source file)
    (IfErr-weaker made (ReadsNothing r old.given new.given) (HasNoOutcome r old.given new.given)
    (λ t why. record { why = why; no_file = no_file }) fault) fin

pub ask_runs : (c : Command) (rows capacity units : ℕ) (dropped : Option ℕ) (counted : Bool) (seed : List ℕ) (session number : ℕ) (p : Parameters) (old new : World) (n : ℕ)
    → c ≡ command.Ask rows capacity units dropped counted seed session number → p ≡ word_parameters rows capacity units dropped counted
    → RunsTask (reader_task (asking p seed session number)) old new n → RunsPlain (command_kind c) old new n
ask_runs c rows capacity units dropped counted seed session number p old new n is same runs =
    subst (λ (d : Command). RunsPlain (command_kind d) old new n) (sym is)
    (subst (λ (q : Parameters). RunsTask (reader_task (asking q seed session number)) old new n) same runs)

pub open_runs : (c : Command) (rows capacity units : ℕ) (dropped : Option ℕ) (counted : Bool) (seed name text : List ℕ) (p : Parameters) (old new : World) (n : ℕ)
    → c ≡ command.Open rows capacity units dropped counted seed name → text ≡ name → p ≡ word_parameters rows capacity units dropped counted
    → RunsTask (reader_task (opening p seed text)) old new n → RunsPlain (command_kind c) old new n
open_runs c rows capacity units dropped counted seed name text p old new n is named same runs =
    subst (λ (d : Command). RunsPlain (command_kind d) old new n) (sym is)
    (subst (λ (t : List ℕ). RunsTask (reader_task (opening (word_parameters rows capacity units dropped counted) seed t)) old new n) named
    (subst (λ (q : Parameters). RunsTask (reader_task (opening q seed text)) old new n) same runs))

-- ---- words

-- no words are out of memory
value_never : {A : Type 0} (o : Option ℕ) (x : A) → judged_value o x ≡ Err words.NoMemory → ⊥
value_never None x e = cc
value_never (Some k) x e = cc

row_never : (line : Words) (o : Option CommandRow) → judged_row o line ≡ Err words.NoMemory → ⊥
row_never line None e = cc
row_never line (Some row) e =
    let lead = lead_of line in
    let forms = forms_of lead row in
    elim (cases_Bool (length line == length forms)) [
      | inl many ↦ value_never (first_wrong 0 forms line) (row.command lead (drop (length (lead_forms lead) + 1) line)) (rw many at e)
      | inr few ↦ (let other = rw few at e in cc)
    ]

pub words_never : (line : Words) → judged line ≡ Err words.NoMemory → ⊥
words_never line e = row_never line (row_of line) e

-- memory that runs out keeps a name
keeps_runs : (r : Result Command WordFault) (old : World) (n : ℕ) → KeepsName r → Ended status.NoMemory n → RunsPlain (kind_of r) old old n
keeps_runs (Ok (command.Open rows capacity units dropped counted seed file)) old n keeps e =
    (status.NoMemory, e, inr (inr (record { why = record { why = nothing_taken most_item_text old.given.source; no_file = λ _. refl }; untouched = refl })))
keeps_runs (Ok (command.Serve rows capacity units dropped counted workers builders)) old n keeps e = absurd keeps
keeps_runs (Ok (command.Replay rows capacity units dropped counted)) old n keeps e = absurd keeps
keeps_runs (Ok (command.Params rows capacity units dropped counted)) old n keeps e = absurd keeps
keeps_runs (Ok (command.Ask rows capacity units dropped counted seed session number)) old n keeps e = absurd keeps
keeps_runs (Ok (command.Demo number workers)) old n keeps e = absurd keeps
keeps_runs (Ok command.Help) old n keeps e = absurd keeps
keeps_runs (Err fault) old n keeps e = absurd keeps

pub memory_runs : (line : Words) (old : World) (n : ℕ) (fault : WordFault) → fault ≡ words.NoMemory
    → (judged line ≡ Err fault) ⊎ ((fault ≡ words.NoMemory) × KeepsName (judged line)) → Ended status.NoMemory n → RunsPlain (kind_of (judged line)) old old n
memory_runs line old n fault is (inl never) e = absurd (words_never line (never ∙ ap Err is))
memory_runs line old n fault is (inr keeps) e = keeps_runs (judged line) old n keeps.1 e
