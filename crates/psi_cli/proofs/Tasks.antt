-- What a run leaves that writes one text, by its status.
use Rattle.std.proofs.Common.{◌≡◌, ◌⊎◌, ℕ, List, Option, None, Some, refl, sym, ap, ◌∙◌, subst, inl, inr}
use Rattle.psi_residue.specs.Parameters.{Parameters}
use Rattle.noise_ledger.specs.Verdicts.{ArePassed}
use Rattle.psi_outside.specs.Ends.{SinkTold}
use Rattle.psi_cli.specs.declared.status.Status.{Status}
use Rattle.psi_cli.specs.declared.status.Status.TheVariants as status
use Rattle.psi_cli.specs.Leaving.{HasBeenCutOff, HasNoMemory, HasWritten, HasWrittenNone, LeavesText, Task, help_task, params_task, reader_task}
use Rattle.psi_cli.specs.Outcomes.{ParamsMake}
use Rattle.psi_cli.specs.Readers.{Reader, ReadsNothing}
use Rattle.psi_cli.specs.Runs.{RunsTask}
use Rattle.psi_cli.specs.Statuses.{Ended, IsEmptyNumber}
use Rattle.psi_cli.specs.Worlds.{Given, World}
use Rattle.psi_cli.proofs.ReaderLaws.{IsLawful}
use Rattle.psi_cli.proofs.StatusNumbers.{one_status}

-- a text is written with one of three statuses
abbrev IsMade : Status → Type 0
IsMade s = (s ≡ status.Done) ⊎ ((s ≡ status.Parameters) ⊎ (s ≡ status.Crowded))

-- why there is none is one of four
abbrev IsGivenUp : Status → Type 0
IsGivenUp s = (s ≡ status.Parameters) ⊎ ((s ≡ status.BadInput) ⊎ ((s ≡ status.ReadFault) ⊎ (s ≡ status.NoMemory)))

-- what holds of the statuses of a task
pub record EndsSo (t : Task) : Type 0 where
  pub made : (g : Given) (s : Status) (text : List ℕ) → t.makes g s text → IsMade s
  pub gave_up : (old new : Given) (s : Status) → t.gives_up old new s → IsGivenUp s

params_made : (p : Parameters) (s : Status) (text : List ℕ) → ParamsMake p s text → IsMade s
params_made p status.Done text makes = inl refl
params_made p status.Parameters text makes = inr (inl refl)
params_made p status.Words text makes = absurd makes
params_made p status.BadInput text makes = absurd makes
params_made p status.ReadFault text makes = absurd makes
params_made p status.WriteFault text makes = absurd makes
params_made p status.NoMemory text makes = absurd makes
params_made p status.Crowded text makes = absurd makes

pub params_ends : (p : Parameters) → EndsSo (params_task p)
params_ends p = record { made = λ g s text makes. params_made p s text makes; gave_up = λ old new s why. inr (inr (inr why.status_is)) }

pub help_ends : EndsSo help_task
help_ends = record { made = λ g s text makes. inl makes.status_is; gave_up = λ old new s why. inr (inr (inr why.status_is)) }

done_or_crowded : {s : Status} → (s ≡ status.Done) ⊎ (s ≡ status.Crowded) → IsMade s
done_or_crowded (inl e) = inl e
done_or_crowded (inr e) = inr (inr e)

reads_up : (r : Reader) (old new : Given) (s : Status) → ReadsNothing r old new s → IsGivenUp s
reads_up r old new status.Parameters why = inl refl
reads_up r old new status.BadInput why = inr (inl refl)
reads_up r old new status.ReadFault why = inr (inr (inl refl))
reads_up r old new status.NoMemory why = inr (inr (inr refl))
reads_up r old new status.Done why = absurd why
reads_up r old new status.Words why = absurd why
reads_up r old new status.WriteFault why = absurd why
reads_up r old new status.Crowded why = absurd why

pub reader_ends : (r : Reader) → IsLawful r → EndsSo (reader_task r)
reader_ends r law = record {
  made = λ g s text makes. done_or_crowded (law.ends_so g s text makes.makes);
  gave_up = λ old new s why. reads_up r old new s why.why;
}

-- the statuses 0 and 8, with which a text was written, and 4, 5 and 7, with which none was
abbrev IsDoneStatus : Status → Type 0
IsDoneStatus s = (s ≡ status.Done) ⊎ (s ≡ status.Crowded)

abbrev IsEmptyStatus : Status → Type 0
IsEmptyStatus s = (s ≡ status.BadInput) ⊎ ((s ≡ status.ReadFault) ⊎ (s ≡ status.NoMemory))

not_given_up : (s : Status) → IsDoneStatus s → IsGivenUp s → ⊥
not_given_up s (inl e) (inl f) = cc
not_given_up s (inl e) (inr (inl f)) = cc
not_given_up s (inl e) (inr (inr (inl f))) = cc
not_given_up s (inl e) (inr (inr (inr f))) = cc
not_given_up s (inr e) (inl f) = cc
not_given_up s (inr e) (inr (inl f)) = cc
not_given_up s (inr e) (inr (inr (inl f))) = cc
not_given_up s (inr e) (inr (inr (inr f))) = cc

not_cut : (s : Status) → IsDoneStatus s → s ≡ status.WriteFault → ⊥
not_cut s (inl e) f = cc
not_cut s (inr e) f = cc

not_made : (s : Status) → IsEmptyStatus s → IsMade s → ⊥
not_made s (inl e) (inl f) = cc
not_made s (inl e) (inr (inl f)) = cc
not_made s (inl e) (inr (inr f)) = cc
not_made s (inr (inl e)) (inl f) = cc
not_made s (inr (inl e)) (inr (inl f)) = cc
not_made s (inr (inl e)) (inr (inr f)) = cc
not_made s (inr (inr e)) (inl f) = cc
not_made s (inr (inr e)) (inr (inl f)) = cc
not_made s (inr (inr e)) (inr (inr f)) = cc

not_cut_empty : (s : Status) → IsEmptyStatus s → s ≡ status.WriteFault → ⊥
not_cut_empty s (inl e) f = cc
not_cut_empty s (inr (inl e)) f = cc
not_cut_empty s (inr (inr e)) f = cc

cut_made : IsMade status.WriteFault → ⊥
cut_made (inl e) = cc
cut_made (inr (inl e)) = cc
cut_made (inr (inr e)) = cc

cut_given_up : IsGivenUp status.WriteFault → ⊥
cut_given_up (inl e) = cc
cut_given_up (inr (inl e)) = cc
cut_given_up (inr (inr (inl e))) = cc
cut_given_up (inr (inr (inr e))) = cc

words_made : IsMade status.Words → ⊥
words_made (inl e) = cc
words_made (inr (inl e)) = cc
words_made (inr (inr e)) = cc

words_given_up : IsGivenUp status.Words → ⊥
words_given_up (inl e) = cc
words_given_up (inr (inl e)) = cc
words_given_up (inr (inr (inl e))) = cc
words_given_up (inr (inr (inr e))) = cc

module _ (t : Task) (so : EndsSo t) (old new : World) where
  only_written : (s : Status) → IsDoneStatus s → LeavesText t old new s → HasWritten t old new s
  only_written s is (inl w) = w
  only_written s is (inr (inl w)) = absurd (not_cut s is w.told)
  only_written s is (inr (inr w)) = absurd (not_given_up s is (so.gave_up old.given new.given s w.why))

  only_given_up : (s : Status) → IsEmptyStatus s → LeavesText t old new s → HasWrittenNone t old new s
  only_given_up s is (inl w) = absurd (not_made s is (so.made old.given s w.text w.makes))
  only_given_up s is (inr (inl w)) = absurd (not_cut_empty s is w.told)
  only_given_up s is (inr (inr w)) = w

  only_cut_off : LeavesText t old new status.WriteFault → HasBeenCutOff t old new status.WriteFault
  only_cut_off (inl w) = absurd (cut_made (so.made old.given status.WriteFault w.text w.makes))
  only_cut_off (inr (inl w)) = w
  only_cut_off (inr (inr w)) = absurd (cut_given_up (so.gave_up old.given new.given status.WriteFault w.why))

  no_words : LeavesText t old new status.Words → ⊥
  no_words (inl w) = words_made (so.made old.given status.Words w.text w.makes)
  no_words (inr (inl w)) = let e = w.told in cc
  no_words (inr (inr w)) = words_given_up (so.gave_up old.given new.given status.Words w.why)

  -- by the number of its status, a run of the task ..
  module _ (n : ℕ) (runs : RunsTask t old new n) where
    -- .. left what it leaves with it
    pub left_so : (s : Status) → Ended s n → LeavesText t old new s
    left_so s e = subst (LeavesText t old new) (one_status runs.0 s n runs.1 e) runs.2

    -- .. has written, came to nothing, or was cut off, and never ends with 2
    pub wrote : (s : Status) → IsDoneStatus s → Ended s n → HasWritten t old new s
    wrote s is e = only_written s is (left_so s e)

    pub gave_up : (s : Status) → IsEmptyStatus s → Ended s n → HasWrittenNone t old new s
    gave_up s is e = only_given_up s is (left_so s e)

    pub was_cut : Ended status.WriteFault n → HasBeenCutOff t old new status.WriteFault
    was_cut e = only_cut_off (left_so status.WriteFault e)

    pub never_words : Ended status.Words n → ⊥
    never_words e = no_words (left_so status.Words e)

    -- .. with 4, 5 and 7 it wrote nothing
    pub empty_task : IsEmptyNumber n → new.sink.written ≡ old.sink.written
    empty_task (inl e) = absurd (never_words e)
    empty_task (inr (inl e)) = ap (λ (h : SinkTold). h.written) (gave_up status.BadInput (inl refl) e).untouched
    empty_task (inr (inr (inl e))) = ap (λ (h : SinkTold). h.written) (gave_up status.ReadFault (inr (inl refl)) e).untouched
    empty_task (inr (inr (inr e))) = ap (λ (h : SinkTold). h.written) (gave_up status.NoMemory (inr (inr refl)) e).untouched
