-- What runs leave, in plain words: each clause of the top call, from what its kinds leave.
use Rattle.std.proofs.Common.{◌≡◌, ◌⊎◌, ℕ, Bool, true, nat_eq, List, [], Option, None, Some, Ok, Err, refl, sym, ap, ◌∙◌, subst, arith, inl, inr}
use Rattle.std.specs.Io.KnownBytes.{Appends}
use Rattle.std.proofs.KnownBytes.{Appends-nil}
use Rattle.std.specs.Option.{IfSome}
use Rattle.std.proofs.lemmas.Bool.{eq-eqb}
use Rattle.psi_residue.specs.Parameters.{Parameters}
use Rattle.noise_ledger.specs.Verdicts.{ArePassed}
use Rattle.psi_outside.specs.Causes.{Rose}
use Rattle.psi_outside.specs.Ends.{SinkTold}
use Rattle.psi_words.specs.Texts.{help_lines}
use Rattle.psi_cli.specs.declared.status.Status.{Status}
use Rattle.psi_cli.specs.declared.status.Status.TheVariants as status
use Rattle.psi_cli.specs.Answered.{AreRefused, IfCrowded, IfDemo, IfFigures, IfHelp, IfNoReading, IfNoRounds, IfOneLane, IfReads, IfRounds, IsBadInput, IsReading, IsToldBad, IsToldCrowded, IsToldGood}
use Rattle.psi_cli.specs.Demonstrations.{IsDemonstration}
use Rattle.psi_cli.specs.Headline.{AnswersInput, AnswersOnOneLane, Headline}
use Rattle.psi_cli.specs.Kinds.{Kind, Lanes, is_alone}
use Rattle.psi_cli.specs.Leaving.{help_task, params_task, reader_task}
use Rattle.psi_cli.specs.Outcomes.{AreFigures, IsRefusal, ParamsMake}
use Rattle.psi_cli.specs.Readers.{Reader, ReadsNothing}
use Rattle.psi_cli.specs.Reading.{IsEnded, IsTested}
use Rattle.psi_cli.specs.Runs.{GivesNone, GivesNoPlain, Runs, RunsPlain, RunsRounds, RunsTask, Shows}
use Rattle.psi_cli.specs.Statuses.{Ended, IsEmptyNumber, IsOrFails, IsReadWhole, IsRefusedOrFails, IsStatus, IsUnreadStatus, status_number}
use Rattle.psi_cli.specs.Worlds.{Given, IsFlushedSo, NoReadFailed, NothingRead, ReadFailed, World, ends_of}
use Rattle.psi_cli.proofs.DemoRuns.{demo_empty, demo_placed, demo_so, demo_unplaced}
use Rattle.psi_cli.proofs.OneLanes.{text_one}
use Rattle.psi_cli.proofs.ReaderLaws.{IsLawful}
use Rattle.psi_cli.proofs.RoundRuns.{refused_rounds, refused_so, rounds_bad, rounds_bad_only, rounds_complete, rounds_done, rounds_ended, rounds_flushed, rounds_headline, rounds_never, rounds_no_read, rounds_read, rounds_status, rounds_unfailed, rounds_unread, rounds_words, rounds_write}
use Rattle.psi_cli.proofs.StatusNumbers.{one_status}
use Rattle.psi_cli.proofs.Tasks.{EndsSo, empty_task, gave_up, help_ends, left_so, never_words, params_ends, reader_ends, was_cut, wrote}

-- ---- statuses

pub statuses : (k : Kind) (old new : World) (n : ℕ) → Runs k old new n → IsStatus n
statuses (Kind.Rounds p lanes) old new n runs = rounds_status p (is_alone lanes) (ends_of old) (ends_of new) n runs.rounds
statuses (Kind.Reads reader) old new n runs = (runs.0, runs.1)
statuses (Kind.Figures p) old new n runs = (runs.0, runs.1)
statuses (Kind.Demonstration number workers) old new n runs = (runs.shows.shown.0, runs.shows.shown.1)
statuses Kind.Help old new n runs = (runs.0, runs.1)
statuses Kind.NoCommand old new n runs = (status.Words, runs.0)

-- the same of a run of one thread
pub statuses_plain : (k : Kind) (old new : World) (n : ℕ) → RunsPlain k old new n → IsStatus n
statuses_plain (Kind.Rounds p Lanes.OneThread) old new n runs = statuses (Kind.Rounds p Lanes.OneThread) old new n runs
statuses_plain (Kind.Rounds p (Lanes.Threads workers builders)) old new n runs = (status.Words, runs.0)
statuses_plain (Kind.Reads reader) old new n runs = (runs.0, runs.1)
statuses_plain (Kind.Figures p) old new n runs = (runs.0, runs.1)
statuses_plain (Kind.Demonstration number workers) old new n runs = (status.Words, runs.0)
statuses_plain Kind.Help old new n runs = (runs.0, runs.1)
statuses_plain Kind.NoCommand old new n runs = (status.Words, runs.0)

-- ---- words

pub words : (k : Kind) → IfReads k IsLawful → (old new : World) (n : ℕ) → Runs k old new n → (Ended status.Words n → GivesNone k) × (GivesNone k → Ended status.Words n)
words (Kind.Rounds p lanes) law old new n runs = ((λ e. rounds_words p (is_alone lanes) (ends_of old) (ends_of new) n runs.rounds e), (λ h. absurd h))
words (Kind.Reads reader) law old new n runs = ((λ e. never_words (reader_task reader) (reader_ends reader law) old new n runs e), (λ h. absurd h))
words (Kind.Figures p) law old new n runs = ((λ e. never_words (params_task p) (params_ends p) old new n runs e), (λ h. absurd h))
words (Kind.Demonstration number workers) law old new n runs = ((λ e. demo_so number workers old new n runs status.Words e), (λ h. absurd h))
words Kind.Help law old new n runs = ((λ e. never_words help_task help_ends old new n runs e), (λ h. absurd h))
words Kind.NoCommand law old new n runs = ((λ e. tt), (λ h. runs.0))

pub words_plain : (k : Kind) → IfReads k IsLawful → (old new : World) (n : ℕ) → RunsPlain k old new n → (Ended status.Words n → GivesNoPlain k) × (GivesNoPlain k → Ended status.Words n)
words_plain (Kind.Rounds p Lanes.OneThread) law old new n runs = words (Kind.Rounds p Lanes.OneThread) law old new n runs
words_plain (Kind.Rounds p (Lanes.Threads workers builders)) law old new n runs = ((λ e. tt), (λ h. runs.0))
words_plain (Kind.Reads reader) law old new n runs = words (Kind.Reads reader) law old new n runs
words_plain (Kind.Figures p) law old new n runs = words (Kind.Figures p) law old new n runs
words_plain (Kind.Demonstration number workers) law old new n runs = ((λ e. tt), (λ h. runs.0))
words_plain Kind.Help law old new n runs = words Kind.Help law old new n runs
words_plain Kind.NoCommand law old new n runs = ((λ e. tt), (λ h. runs.0))

-- ---- the headline

pub headline : (k : Kind) (old new : World) (n : ℕ) → Runs k old new n → Ended status.Done n → IfRounds k (λ p alone. Headline p alone old new)
headline (Kind.Rounds p lanes) old new n runs e = rounds_headline p (is_alone lanes) old new n runs e
headline (Kind.Reads reader) old new n runs e = tt
headline (Kind.Figures p) old new n runs e = tt
headline (Kind.Demonstration number workers) old new n runs e = tt
headline Kind.Help old new n runs e = tt
headline Kind.NoCommand old new n runs e = tt

pub answered : (k : Kind) (old new : World) (n : ℕ) → Runs k old new n → Ended status.Done n → IfRounds k (λ p alone. AnswersInput p alone old.given.source old.sink new.sink)
answered (Kind.Rounds p lanes) old new n runs e = rounds_done p (is_alone lanes) (ends_of old) (ends_of new) n runs.rounds e
answered (Kind.Reads reader) old new n runs e = tt
answered (Kind.Figures p) old new n runs e = tt
answered (Kind.Demonstration number workers) old new n runs e = tt
answered Kind.Help old new n runs e = tt
answered Kind.NoCommand old new n runs e = tt

pub one_lane : (k : Kind) (old new : World) (n : ℕ) → Runs k old new n → Ended status.Done n → IfOneLane k (λ p. AnswersOnOneLane p old.given.source old.sink new.sink)
one_lane (Kind.Rounds p Lanes.OneThread) old new n runs e = λ one.
    text_one p true old.given.source.left old.sink.written new.sink.written refl (rounds_done p true (ends_of old) (ends_of new) n runs.rounds e)
one_lane (Kind.Rounds p (Lanes.Threads workers builders)) old new n runs e = λ one.
    text_one p (nat_eq workers 1) old.given.source.left old.sink.written new.sink.written (eq-eqb workers 1 one)
    (rounds_done p (nat_eq workers 1) (ends_of old) (ends_of new) n runs.rounds e)
one_lane (Kind.Reads reader) old new n runs e = tt
one_lane (Kind.Figures p) old new n runs e = tt
one_lane (Kind.Demonstration number workers) old new n runs e = tt
one_lane Kind.Help old new n runs e = tt
one_lane Kind.NoCommand old new n runs e = tt

-- all that rounds leave, as they were served
pub served : (k : Kind) (old new : World) (n : ℕ) → Runs k old new n → IfRounds k (λ p alone. RunsRounds p alone (ends_of old) (ends_of new) n)
served (Kind.Rounds p lanes) old new n runs = runs.rounds
served (Kind.Reads reader) old new n runs = tt
served (Kind.Figures p) old new n runs = tt
served (Kind.Demonstration number workers) old new n runs = tt
served Kind.Help old new n runs = tt
served Kind.NoCommand old new n runs = tt

-- ---- refused parameters

params_refused : (p : Parameters) (old new : World) (n : ℕ) → RunsTask (params_task p) old new n → Ended status.Parameters n
    → (text : List ℕ) × IsRefusal p text × Appends old.sink.written new.sink.written text
params_refused p old new n runs e =
    elim (left_so (params_task p) (params_ends p) old new n runs status.Parameters e) [
      | inl w ↦ (w.text, w.makes, w.written.appended)
      | inr (inl w) ↦ absurd (let f = w.told in cc)
      | inr (inr w) ↦ absurd (let f = w.why.status_is in cc)
    ]

never_refused : {s : Status} → s ≡ status.Parameters → (s ≡ status.Done) ⊎ (s ≡ status.Crowded) → ⊥
never_refused e (inl f) = cc
never_refused e (inr f) = cc

reader_refused : (r : Reader) → IsLawful r → (old new : World) (n : ℕ) → RunsTask (reader_task r) old new n → Ended status.Parameters n
    → ReadsNothing r old.given new.given status.Parameters
reader_refused r law old new n runs e =
    elim (left_so (reader_task r) (reader_ends r law) old new n runs status.Parameters e) [
      | inl w ↦ absurd (never_refused refl (law.ends_so old.given status.Parameters w.text w.makes.makes))
      | inr (inl w) ↦ absurd (let f = w.told in cc)
      | inr (inr w) ↦ w.why.why
    ]

help_refused : (old new : World) (n : ℕ) → RunsTask help_task old new n → Ended status.Parameters n → ⊥
help_refused old new n runs e =
    elim (left_so help_task help_ends old new n runs status.Parameters e) [
      | inl w ↦ (let f = w.makes.status_is in cc)
      | inr (inl w) ↦ (let f = w.told in cc)
      | inr (inr w) ↦ (let f = w.why.status_is in cc)
    ]

pub refused : (k : Kind) → IfReads k IsLawful → (old new : World) (n : ℕ) → Runs k old new n → Ended status.Parameters n → AreRefused k
refused (Kind.Rounds p lanes) law old new n runs e = (refused_so p (is_alone lanes) (ends_of old) (ends_of new) n runs.rounds e).refused
refused (Kind.Reads reader) law old new n runs e = (reader_refused reader law old new n runs e).refused
refused (Kind.Figures p) law old new n runs e = (params_refused p old new n runs e).1.refused
refused (Kind.Demonstration number workers) law old new n runs e = absurd (demo_so number workers old new n runs status.Parameters e)
refused Kind.Help law old new n runs e = absurd (help_refused old new n runs e)
refused Kind.NoCommand law old new n runs e = let f : n ≡ 2 = runs.0 in let g : n ≡ 3 = e in absurd (omega (arith, f, g))

refused_reads : (r : Reader) (old new : Given) (s : Status) (n : ℕ) → Ended s n → (ArePassed r.parameters → ⊥) → ReadsNothing r old new s → IsRefusedOrFails n
refused_reads r old new status.Parameters n e never why = inl e
refused_reads r old new status.NoMemory n e never why = inr (inr e)
refused_reads r old new status.BadInput n e never why = absurd (never why.passed)
refused_reads r old new status.ReadFault n e never why = absurd (never why.passed)
refused_reads r old new status.Done n e never why = absurd why
refused_reads r old new status.Words n e never why = absurd why
refused_reads r old new status.WriteFault n e never why = absurd why
refused_reads r old new status.Crowded n e never why = absurd why

refused_makes : (p : Parameters) (s : Status) (text : List ℕ) (n : ℕ) → Ended s n → (ArePassed p → ⊥) → ParamsMake p s text → IsRefusedOrFails n
refused_makes p status.Parameters text n e never makes = inl e
refused_makes p status.Done text n e never makes = absurd (never makes.passed)
refused_makes p status.Words text n e never makes = absurd makes
refused_makes p status.BadInput text n e never makes = absurd makes
refused_makes p status.ReadFault text n e never makes = absurd makes
refused_makes p status.WriteFault text n e never makes = absurd makes
refused_makes p status.NoMemory text n e never makes = absurd makes
refused_makes p status.Crowded text n e never makes = absurd makes

-- a run that ended with the status of a record
same_end : (s t : Status) (n : ℕ) → Ended s n → s ≡ t → Ended t n
same_end s t n e f = e ∙ ap status_number f

pub refused_only : (k : Kind) (old new : World) (n : ℕ) → Runs k old new n → AreRefused k → IsRefusedOrFails n
refused_only (Kind.Rounds p lanes) old new n runs never = refused_rounds p (is_alone lanes) (ends_of old) (ends_of new) n runs.rounds never
refused_only (Kind.Reads reader) old new n (s, e, inl w) never = absurd (never w.makes.passed)
refused_only (Kind.Reads reader) old new n (s, e, inr (inl w)) never = absurd (never w.makes.passed)
refused_only (Kind.Reads reader) old new n (s, e, inr (inr w)) never = refused_reads reader old.given new.given s n e never w.why.why
refused_only (Kind.Figures p) old new n (s, e, inl w) never = refused_makes p s w.text n e never w.makes
refused_only (Kind.Figures p) old new n (s, e, inr (inl w)) never = inr (inl (same_end s status.WriteFault n e w.told))
refused_only (Kind.Figures p) old new n (s, e, inr (inr w)) never = inr (inr (same_end s status.NoMemory n e w.why.status_is))
refused_only (Kind.Demonstration number workers) old new n runs never = absurd never
refused_only Kind.Help old new n runs never = absurd never
refused_only Kind.NoCommand old new n runs never = absurd never

-- ---- what is written

pub refusal : (k : Kind) (old new : World) (n : ℕ) → Runs k old new n → Ended status.Parameters n
    → IfFigures k (λ p. (text : List ℕ) × IsRefusal p text × Appends old.sink.written new.sink.written text)
refusal (Kind.Rounds p lanes) old new n runs e = tt
refusal (Kind.Reads reader) old new n runs e = tt
refusal (Kind.Figures p) old new n runs e = params_refused p old new n runs e
refusal (Kind.Demonstration number workers) old new n runs e = tt
refusal Kind.Help old new n runs e = tt
refusal Kind.NoCommand old new n runs e = tt

pub figures : (k : Kind) (old new : World) (n : ℕ) → Runs k old new n → Ended status.Done n
    → IfFigures k (λ p. (text : List ℕ) × AreFigures p text × Appends old.sink.written new.sink.written text)
figures (Kind.Rounds p lanes) old new n runs e = tt
figures (Kind.Reads reader) old new n runs e = tt
figures (Kind.Figures p) old new n runs e =
    let w = wrote (params_task p) (params_ends p) old new n runs status.Done (inl refl) e in (w.text, w.makes, w.written.appended)
figures (Kind.Demonstration number workers) old new n runs e = tt
figures Kind.Help old new n runs e = tt
figures Kind.NoCommand old new n runs e = tt

pub helped : (k : Kind) (old new : World) (n : ℕ) → Runs k old new n → Ended status.Done n → IfHelp k (Appends old.sink.written new.sink.written help_lines)
helped (Kind.Rounds p lanes) old new n runs e = tt
helped (Kind.Reads reader) old new n runs e = tt
helped (Kind.Figures p) old new n runs e = tt
helped (Kind.Demonstration number workers) old new n runs e = tt
helped Kind.Help old new n runs e =
    let w = wrote help_task help_ends old new n runs status.Done (inl refl) e in subst (Appends old.sink.written new.sink.written) w.makes.lines w.written.appended
helped Kind.NoCommand old new n runs e = tt

pub made : (k : Kind) → IfReads k IsLawful → (old new : World) (n : ℕ) → Runs k old new n → Ended status.Done n
    → IfReads k (λ reader. (text : List ℕ) × reader.makes old.given status.Done text × Appends old.sink.written new.sink.written text)
made (Kind.Rounds p lanes) law old new n runs e = tt
made (Kind.Reads reader) law old new n runs e =
    let w = wrote (reader_task reader) (reader_ends reader law) old new n runs status.Done (inl refl) e in (w.text, w.makes.makes, w.written.appended)
made (Kind.Figures p) law old new n runs e = tt
made (Kind.Demonstration number workers) law old new n runs e = tt
made Kind.Help law old new n runs e = tt
made Kind.NoCommand law old new n runs e = tt

pub demonstrated : (k : Kind) (old new : World) (n : ℕ) → Runs k old new n → Ended status.Done n
    → IfDemo k (λ number workers. (text : List ℕ) × IsDemonstration number workers text × Appends old.sink.written new.sink.written text)
demonstrated (Kind.Rounds p lanes) old new n runs e = tt
demonstrated (Kind.Reads reader) old new n runs e = tt
demonstrated (Kind.Figures p) old new n runs e = tt
demonstrated (Kind.Demonstration number workers) old new n runs e =
    let w = demo_so number workers old new n runs status.Done e in (w.0, w.1, w.2.appended)
demonstrated Kind.Help old new n runs e = tt
demonstrated Kind.NoCommand old new n runs e = tt

-- all that the demonstration leaves
pub shown : (k : Kind) (old new : World) (n : ℕ) → Runs k old new n → IfDemo k (λ number workers. Shows number workers (ends_of old) (ends_of new) n)
shown (Kind.Rounds p lanes) old new n runs = tt
shown (Kind.Reads reader) old new n runs = tt
shown (Kind.Figures p) old new n runs = tt
shown (Kind.Demonstration number workers) old new n runs = runs.shows
shown Kind.Help old new n runs = tt
shown Kind.NoCommand old new n runs = tt

pub ended : (k : Kind) → IfReads k IsLawful → (old new : World) (n : ℕ) → Runs k old new n → Ended status.Done n → IsReading k → IsEnded old.given.source new.given.source
ended (Kind.Rounds p lanes) law old new n runs e reads = rounds_ended p (is_alone lanes) (ends_of old) (ends_of new) n runs.rounds e
ended (Kind.Reads reader) law old new n runs e reads = (wrote (reader_task reader) (reader_ends reader law) old new n runs status.Done (inl refl) e).read.ended
ended (Kind.Figures p) law old new n runs e reads = absurd reads
ended (Kind.Demonstration number workers) law old new n runs e reads = absurd reads
ended Kind.Help law old new n runs e reads = absurd reads
ended Kind.NoCommand law old new n runs e reads = absurd reads

-- ---- faults of reads and writes

reader_read : (r : Reader) → IsLawful r → (old new : World) (n : ℕ) → RunsTask (reader_task r) old new n → Ended status.ReadFault n → ReadFailed old.given new.given
reader_read r law old new n runs e =
    elim (gave_up (reader_task r) (reader_ends r law) old new n runs status.ReadFault (inr (inl refl)) e).why.why.failed [
      | inl source ↦ inl source.source.failed
      | inr file ↦ inr file.failed
    ]

pub read : (k : Kind) → IfReads k IsLawful → (old new : World) (n : ℕ) → Runs k old new n → Ended status.ReadFault n → ReadFailed old.given new.given
read (Kind.Rounds p lanes) law old new n runs e = inl (rounds_read p (is_alone lanes) (ends_of old) (ends_of new) n runs.rounds e)
read (Kind.Reads reader) law old new n runs e = reader_read reader law old new n runs e
read (Kind.Figures p) law old new n runs e =
    absurd (let f = (gave_up (params_task p) (params_ends p) old new n runs status.ReadFault (inr (inl refl)) e).why.status_is in cc)
read (Kind.Demonstration number workers) law old new n runs e = absurd (demo_so number workers old new n runs status.ReadFault e)
read Kind.Help law old new n runs e = absurd (let f = (gave_up help_task help_ends old new n runs status.ReadFault (inr (inl refl)) e).why.status_is in cc)
read Kind.NoCommand law old new n runs e = let f : n ≡ 2 = runs.0 in let g : n ≡ 5 = e in absurd (omega (arith, f, g))

pub write : (k : Kind) → IfReads k IsLawful → (old new : World) (n : ℕ) → Runs k old new n → Ended status.WriteFault n → Rose old.sink.faults new.sink.faults
write (Kind.Rounds p lanes) law old new n runs e = rounds_write p (is_alone lanes) (ends_of old) (ends_of new) n runs.rounds e
write (Kind.Reads reader) law old new n runs e = (was_cut (reader_task reader) (reader_ends reader law) old new n runs e).cut_off.failed
write (Kind.Figures p) law old new n runs e = (was_cut (params_task p) (params_ends p) old new n runs e).cut_off.failed
write (Kind.Demonstration number workers) law old new n runs e = (demo_so number workers old new n runs status.WriteFault e).2.failed
write Kind.Help law old new n runs e = (was_cut help_task help_ends old new n runs e).cut_off.failed
write Kind.NoCommand law old new n runs e = let f : n ≡ 2 = runs.0 in let g : n ≡ 6 = e in absurd (omega (arith, f, g))

-- ---- what reached the sink

pub flushed : (k : Kind) → IfReads k IsLawful → (old new : World) (n : ℕ) → Runs k old new n → Ended status.Done n → IsFlushedSo old.sink new.sink
flushed (Kind.Rounds p lanes) law old new n runs e = rounds_flushed p (is_alone lanes) (ends_of old) (ends_of new) n runs.rounds e
flushed (Kind.Reads reader) law old new n runs e = inl (wrote (reader_task reader) (reader_ends reader law) old new n runs status.Done (inl refl) e).written.flushed
flushed (Kind.Figures p) law old new n runs e = inl (wrote (params_task p) (params_ends p) old new n runs status.Done (inl refl) e).written.flushed
flushed (Kind.Demonstration number workers) law old new n runs e = inl (demo_so number workers old new n runs status.Done e).2.flushed
flushed Kind.Help law old new n runs e = inl (wrote help_task help_ends old new n runs status.Done (inl refl) e).written.flushed
flushed Kind.NoCommand law old new n runs e = let f : n ≡ 2 = runs.0 in let g : n ≡ 0 = e in absurd (omega (arith, f, g))

pub no_write_failed : (k : Kind) → IfReads k IsLawful → (old new : World) (n : ℕ) → Runs k old new n → Ended status.Done n → new.sink.faults ≡ old.sink.faults
no_write_failed (Kind.Rounds p lanes) law old new n runs e = rounds_unfailed p (is_alone lanes) (ends_of old) (ends_of new) n runs.rounds e
no_write_failed (Kind.Reads reader) law old new n runs e = (wrote (reader_task reader) (reader_ends reader law) old new n runs status.Done (inl refl) e).written.no_write_failed
no_write_failed (Kind.Figures p) law old new n runs e = (wrote (params_task p) (params_ends p) old new n runs status.Done (inl refl) e).written.no_write_failed
no_write_failed (Kind.Demonstration number workers) law old new n runs e = (demo_so number workers old new n runs status.Done e).2.no_write_failed
no_write_failed Kind.Help law old new n runs e = (wrote help_task help_ends old new n runs status.Done (inl refl) e).written.no_write_failed
no_write_failed Kind.NoCommand law old new n runs e = let f : n ≡ 2 = runs.0 in let g : n ≡ 0 = e in absurd (omega (arith, f, g))

-- with 4, 5 and 7 a command that writes one text wrote nothing
pub unwritten : (k : Kind) → IfReads k IsLawful → (old new : World) (n : ℕ) → Runs k old new n → IsEmptyNumber n → IfNoRounds k (new.sink.written ≡ old.sink.written)
unwritten (Kind.Rounds p lanes) law old new n runs is = tt
unwritten (Kind.Reads reader) law old new n runs is = empty_task (reader_task reader) (reader_ends reader law) old new n runs is
unwritten (Kind.Figures p) law old new n runs is = empty_task (params_task p) (params_ends p) old new n runs is
unwritten (Kind.Demonstration number workers) law old new n runs is = demo_empty number workers old new n runs is
unwritten Kind.Help law old new n runs is = empty_task help_task help_ends old new n runs is
unwritten Kind.NoCommand law old new n runs is = ap (λ (w : World). w.sink.written) runs.1

-- ---- what is read

same_given : (old new : Given) → new ≡ old → NoReadFailed old new
same_given old new e = record { source = ap (λ (g : Given). g.source.faults) e; file = ap (λ (g : Given). g.files.faults) e }

-- `params` and `help` read nothing
params_unread : (p : Parameters) (old new : World) (n : ℕ) → RunsTask (params_task p) old new n → NothingRead old.given new.given
params_unread p old new n (s, e, inl w) = w.read
params_unread p old new n (s, e, inr (inl w)) = w.read
params_unread p old new n (s, e, inr (inr w)) = w.why.nothing_read

help_unread : (old new : World) (n : ℕ) → RunsTask help_task old new n → NothingRead old.given new.given
help_unread old new n (s, e, inl w) = w.read
help_unread old new n (s, e, inr (inl w)) = w.read
help_unread old new n (s, e, inr (inr w)) = w.why.nothing_read

-- nor does the demonstration
demo_unread : (old new : World) → new.given.source ≡ old.given.source → new.given.files ≡ old.given.files → NothingRead old.given new.given
demo_unread old new source files = λ i. record { source = source i; files = files i }

pub no_reading : (k : Kind) (old new : World) (n : ℕ) → Runs k old new n → IfNoReading k (NothingRead old.given new.given)
no_reading (Kind.Rounds p lanes) old new n runs = tt
no_reading (Kind.Reads reader) old new n runs = tt
no_reading (Kind.Figures p) old new n runs = params_unread p old new n runs
no_reading (Kind.Demonstration number workers) old new n runs = demo_unread old new runs.shows.unread runs.no_file
no_reading Kind.Help old new n runs = help_unread old new n runs
no_reading Kind.NoCommand old new n runs = ap (λ (w : World). w.given) runs.1

pub unread : (k : Kind) → IfReads k IsLawful → (old new : World) (n : ℕ) → Runs k old new n → IsUnreadStatus n → NothingRead old.given new.given
unread (Kind.Rounds p lanes) law old new n runs (inl e) = absurd (rounds_words p (is_alone lanes) (ends_of old) (ends_of new) n runs.rounds e)
unread (Kind.Rounds p lanes) law old new n runs (inr e) = rounds_unread p (is_alone lanes) old new n runs e
unread (Kind.Reads reader) law old new n runs (inl e) = absurd (never_words (reader_task reader) (reader_ends reader law) old new n runs e)
unread (Kind.Reads reader) law old new n runs (inr e) = (reader_refused reader law old new n runs e).nothing_read
unread (Kind.Figures p) law old new n runs is = params_unread p old new n runs
unread (Kind.Demonstration number workers) law old new n runs is = demo_unread old new runs.shows.unread runs.no_file
unread Kind.Help law old new n runs is = help_unread old new n runs
unread Kind.NoCommand law old new n runs is = ap (λ (w : World). w.given) runs.1

reader_quiet : (r : Reader) → IsLawful r → (old new : World) (n : ℕ) → RunsTask (reader_task r) old new n → IsReadWhole n → NoReadFailed old.given new.given
reader_quiet r law old new n runs (inl e) = (wrote (reader_task r) (reader_ends r law) old new n runs status.Done (inl refl) e).read.no_read_failed
reader_quiet r law old new n runs (inr (inl e)) = (gave_up (reader_task r) (reader_ends r law) old new n runs status.BadInput (inl refl) e).why.why.no_read_failed
reader_quiet r law old new n runs (inr (inr e)) = (wrote (reader_task r) (reader_ends r law) old new n runs status.Crowded (inr refl) e).read.no_read_failed

pub no_read_failed : (k : Kind) → IfReads k IsLawful → (old new : World) (n : ℕ) → Runs k old new n → IsReadWhole n → NoReadFailed old.given new.given
no_read_failed (Kind.Rounds p lanes) law old new n runs is = rounds_no_read p (is_alone lanes) old new n runs is
no_read_failed (Kind.Reads reader) law old new n runs is = reader_quiet reader law old new n runs is
no_read_failed (Kind.Figures p) law old new n runs is = same_given old.given new.given (params_unread p old new n runs)
no_read_failed (Kind.Demonstration number workers) law old new n runs is = same_given old.given new.given (demo_unread old new runs.shows.unread runs.no_file)
no_read_failed Kind.Help law old new n runs is = same_given old.given new.given (help_unread old new n runs)
no_read_failed Kind.NoCommand law old new n runs is = same_given old.given new.given (ap (λ (w : World). w.given) runs.1)

-- ---- bad inputs

-- with 4 a command that reads a text gave up so
reader_bad : (r : Reader) → IsLawful r → (old new : World) (n : ℕ) → RunsTask (reader_task r) old new n → Ended status.BadInput n
    → ReadsNothing r old.given new.given status.BadInput
reader_bad r law old new n runs e = (gave_up (reader_task r) (reader_ends r law) old new n runs status.BadInput (inl refl) e).why.why

pub bad : (k : Kind) → IfReads k IsLawful → (old new : World) (n : ℕ) → Runs k old new n → Ended status.BadInput n → IsBadInput k old.given
bad (Kind.Rounds p lanes) law old new n runs e = rounds_bad p (is_alone lanes) (ends_of old) (ends_of new) n runs.rounds e
bad (Kind.Reads reader) law old new n runs e = (reader_bad reader law old new n runs e).bad
bad (Kind.Figures p) law old new n runs e =
    absurd (let f = (gave_up (params_task p) (params_ends p) old new n runs status.BadInput (inl refl) e).why.status_is in cc)
bad (Kind.Demonstration number workers) law old new n runs e = absurd (demo_so number workers old new n runs status.BadInput e)
bad Kind.Help law old new n runs e = absurd (let f = (gave_up help_task help_ends old new n runs status.BadInput (inl refl) e).why.status_is in cc)
bad Kind.NoCommand law old new n runs e = let f : n ≡ 2 = runs.0 in let g : n ≡ 4 = e in absurd (omega (arith, f, g))

pub bad_soon : (k : Kind) → IfReads k IsLawful → (old new : World) (n : ℕ) → Runs k old new n → Ended status.BadInput n
    → IfReads k (λ reader. IsTested reader.most old.given.source new.given.source)
bad_soon (Kind.Rounds p lanes) law old new n runs e = tt
bad_soon (Kind.Reads reader) law old new n runs e = (reader_bad reader law old new n runs e).tested
bad_soon (Kind.Figures p) law old new n runs e = tt
bad_soon (Kind.Demonstration number workers) law old new n runs e = tt
bad_soon Kind.Help law old new n runs e = tt
bad_soon Kind.NoCommand law old new n runs e = tt

-- a command with parameters that pass came to nothing: its input was bad, or else a fault came, or memory ran out
bad_or_fails : (r : Reader) (old new : Given) (s : Status) (n : ℕ) → Ended s n → ArePassed r.parameters → ReadsNothing r old new s → IsOrFails status.BadInput n
bad_or_fails r old new status.Parameters n e passed why = absurd (why.refused passed)
bad_or_fails r old new status.BadInput n e passed why = inl e
bad_or_fails r old new status.ReadFault n e passed why = inr (inl e)
bad_or_fails r old new status.NoMemory n e passed why = inr (inr (inr e))
bad_or_fails r old new status.Done n e passed why = absurd why
bad_or_fails r old new status.Words n e passed why = absurd why
bad_or_fails r old new status.WriteFault n e passed why = absurd why
bad_or_fails r old new status.Crowded n e passed why = absurd why

-- where the input is not bad, only the second
fails : (r : Reader) (old new : Given) (s t : Status) (n : ℕ) → Ended s n → ArePassed r.parameters → (r.may_be_bad old → ⊥) → ReadsNothing r old new s → IsOrFails t n
fails r old new status.Parameters t n e passed good why = absurd (why.refused passed)
fails r old new status.BadInput t n e passed good why = absurd (good why.bad)
fails r old new status.ReadFault t n e passed good why = inr (inl e)
fails r old new status.NoMemory t n e passed good why = inr (inr (inr e))
fails r old new status.Done t n e passed good why = absurd why
fails r old new status.Words t n e passed good why = absurd why
fails r old new status.WriteFault t n e passed good why = absurd why
fails r old new status.Crowded t n e passed good why = absurd why

pub bad_only : (k : Kind) → IfReads k IsLawful → (old new : World) (n : ℕ) → Runs k old new n → IsToldBad k old.given → IsOrFails status.BadInput n
bad_only (Kind.Rounds p lanes) law old new n runs b = rounds_bad_only p (is_alone lanes) (ends_of old) (ends_of new) n runs.rounds b.0 b.1
bad_only (Kind.Reads reader) law old new n (s, e, inl w) b = absurd (law.never_bad old.given s w.text w.makes.makes b.1)
bad_only (Kind.Reads reader) law old new n (s, e, inr (inl w)) b = absurd (law.never_bad old.given w.meant w.text w.makes.makes b.1)
bad_only (Kind.Reads reader) law old new n (s, e, inr (inr w)) b = bad_or_fails reader old.given new.given s n e b.0 w.why.why
bad_only (Kind.Figures p) law old new n runs b = absurd b
bad_only (Kind.Demonstration number workers) law old new n runs b = absurd b
bad_only Kind.Help law old new n runs b = absurd b
bad_only Kind.NoCommand law old new n runs b = absurd b

-- ---- crowded items

pub crowded : (k : Kind) → IfReads k IsLawful → (old new : World) (n : ℕ) → Runs k old new n → Ended status.Crowded n
    → IfCrowded k old.given (Appends old.sink.written new.sink.written)
crowded (Kind.Rounds p lanes) law old new n runs e = absurd (rounds_never p (is_alone lanes) (ends_of old) (ends_of new) n runs.rounds e)
crowded (Kind.Reads reader) law old new n runs e =
    let w = wrote (reader_task reader) (reader_ends reader law) old new n runs status.Crowded (inr refl) e in
    (w.text, law.crowd old.given w.text w.makes.makes, w.written.appended)
crowded (Kind.Figures p) law old new n runs e = absurd (wrote (params_task p) (params_ends p) old new n runs status.Crowded (inr refl) e).makes
crowded (Kind.Demonstration number workers) law old new n runs e =
    let w = demo_so number workers old new n runs status.Crowded e in
    (w.0, subst (λ (h : SinkTold). Appends old.sink.written h.written []) (sym w.1) (Appends-nil old.sink.written))
crowded Kind.Help law old new n runs e = absurd (let f = (wrote help_task help_ends old new n runs status.Crowded (inr refl) e).makes.status_is in cc)
crowded Kind.NoCommand law old new n runs e = let f : n ≡ 2 = runs.0 in let g : n ≡ 8 = e in absurd (omega (arith, f, g))

-- what a command that reads a text made of crowded items is their crowd
made_crowd : (r : Reader) → IsLawful r → (given : Given) (s : Status) (text : List ℕ) → r.makes given s text → r.is_crowded given → s ≡ status.Crowded
made_crowd r law given s text makes none = by_end (law.ends_so given s text makes) where
  by_end : (s ≡ status.Done) ⊎ (s ≡ status.Crowded) → s ≡ status.Crowded
  by_end (inr e) = e
  by_end (inl e) = absurd (law.done_placed given text (subst (λ (t : Status). r.makes given t text) e makes) none)

pub crowded_only : (k : Kind) → IfReads k IsLawful → (old new : World) (n : ℕ) → Runs k old new n → IsToldCrowded k old.given → IsOrFails status.Crowded n
crowded_only (Kind.Rounds p lanes) law old new n runs none = absurd none
crowded_only (Kind.Reads reader) law old new n (s, e, inl w) none = inl (same_end s status.Crowded n e (made_crowd reader law old.given s w.text w.makes.makes none.1))
crowded_only (Kind.Reads reader) law old new n (s, e, inr (inl w)) none = inr (inr (inl (same_end s status.WriteFault n e w.told)))
crowded_only (Kind.Reads reader) law old new n (s, e, inr (inr w)) none =
    fails reader old.given new.given s status.Crowded n e none.0 (λ b. law.bad_placed old.given b none.1) w.why.why
crowded_only (Kind.Figures p) law old new n runs none = absurd none
crowded_only (Kind.Demonstration number workers) law old new n runs none = demo_unplaced number workers old new n runs none
crowded_only Kind.Help law old new n runs none = absurd none
crowded_only Kind.NoCommand law old new n runs none = absurd none

-- ---- completeness

-- what is made of a good input is no crowd
made_done : (r : Reader) → IsLawful r → (given : Given) (s : Status) (text : List ℕ) → r.makes given s text → r.is_good given → s ≡ status.Done
made_done r law given s text makes good = by_end (law.ends_so given s text makes) where
  by_end : (s ≡ status.Done) ⊎ (s ≡ status.Crowded) → s ≡ status.Done
  by_end (inl e) = e
  by_end (inr e) = absurd (law.crowded_bad given text (subst (λ (t : Status). r.makes given t text) e makes) good)

params_done : (p : Parameters) (s : Status) (text : List ℕ) (n : ℕ) → Ended s n → ArePassed p → ParamsMake p s text → IsOrFails status.Done n
params_done p status.Done text n e passed makes = inl e
params_done p status.Parameters text n e passed makes = absurd (makes.refused passed)
params_done p status.Words text n e passed makes = absurd makes
params_done p status.BadInput text n e passed makes = absurd makes
params_done p status.ReadFault text n e passed makes = absurd makes
params_done p status.WriteFault text n e passed makes = absurd makes
params_done p status.NoMemory text n e passed makes = absurd makes
params_done p status.Crowded text n e passed makes = absurd makes

pub complete : (k : Kind) → IfReads k IsLawful → (old new : World) (n : ℕ) → Runs k old new n → IsToldGood k old.given → IsOrFails status.Done n
complete (Kind.Rounds p lanes) law old new n runs good = rounds_complete p (is_alone lanes) (ends_of old) (ends_of new) n runs.rounds good.0 good.1
complete (Kind.Reads reader) law old new n (s, e, inl w) good = inl (same_end s status.Done n e (made_done reader law old.given s w.text w.makes.makes good.1))
complete (Kind.Reads reader) law old new n (s, e, inr (inl w)) good = inr (inr (inl (same_end s status.WriteFault n e w.told)))
complete (Kind.Reads reader) law old new n (s, e, inr (inr w)) good =
    fails reader old.given new.given s status.Done n e good.0 (λ b. law.bad_good old.given b good.1) w.why.why
complete (Kind.Figures p) law old new n (s, e, inl w) good = params_done p s w.text n e good w.makes
complete (Kind.Figures p) law old new n (s, e, inr (inl w)) good = inr (inr (inl (same_end s status.WriteFault n e w.told)))
complete (Kind.Figures p) law old new n (s, e, inr (inr w)) good = inr (inr (inr (same_end s status.NoMemory n e w.why.status_is)))
complete (Kind.Demonstration number workers) law old new n runs good = demo_placed number workers old new n runs good
complete Kind.Help law old new n (s, e, inl w) good = inl (same_end s status.Done n e w.makes.status_is)
complete Kind.Help law old new n (s, e, inr (inl w)) good = inr (inr (inl (same_end s status.WriteFault n e w.told)))
complete Kind.Help law old new n (s, e, inr (inr w)) good = inr (inr (inr (same_end s status.NoMemory n e w.why.status_is)))
complete Kind.NoCommand law old new n runs good = absurd good
