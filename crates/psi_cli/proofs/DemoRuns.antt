-- What the demonstration leaves, by its status.
use Rattle.std.proofs.Common.{◌≡◌, ℕ, List, ap, subst, inl, inr}
use Rattle.psi_outside.specs.Ends.{SinkTold}
use Rattle.psi_demo.specs.Items.{asked_tags, demo_parameters}
use Rattle.psi_demo.specs.Summaries.{AreUnplaced}
use Rattle.psi_receiver.specs.Faults.{HavePlacement}
use Rattle.psi_cli.specs.declared.status.Status.{Status}
use Rattle.psi_cli.specs.declared.status.Status.TheVariants as status
use Rattle.psi_cli.specs.Demonstrations.{IsDemonstration, ShowsSo}
use Rattle.psi_cli.specs.Runs.{ShowsDemo}
use Rattle.psi_cli.specs.Statuses.{Ended, IsEmptyNumber, IsOrFails}
use Rattle.psi_cli.specs.Worlds.{World}
use Rattle.psi_cli.proofs.StatusNumbers.{one_status}

-- asked items without a placement have no script, and those with one are not crowded
script_placed : (number workers : ℕ) (text : List ℕ) → IsDemonstration number workers text → AreUnplaced (asked_tags number) → ⊥
script_placed number workers text shown none = let placed = shown.script.first_asked.1 in none placed.0 placed.1.placement

unplaced : (number workers : ℕ) (old new : SinkTold) (s : Status) (n : ℕ) → Ended s n → ShowsSo number workers old new s → AreUnplaced (asked_tags number)
    → IsOrFails status.Crowded n
unplaced number workers old new status.Done n e shown none = absurd (script_placed number workers shown.0 shown.1 none)
unplaced number workers old new status.WriteFault n e shown none = inr (inr (inl e))
unplaced number workers old new status.Crowded n e shown none = inl e
unplaced number workers old new status.NoMemory n e shown none = inr (inr (inr e))
unplaced number workers old new status.Words n e shown none = absurd shown
unplaced number workers old new status.Parameters n e shown none = absurd shown
unplaced number workers old new status.BadInput n e shown none = absurd shown
unplaced number workers old new status.ReadFault n e shown none = absurd shown

placed : (number workers : ℕ) (old new : SinkTold) (s : Status) (n : ℕ) → Ended s n → ShowsSo number workers old new s
    → HavePlacement demo_parameters.rows (asked_tags number) → IsOrFails status.Done n
placed number workers old new status.Done n e shown has = inl e
placed number workers old new status.WriteFault n e shown has = inr (inr (inl e))
placed number workers old new status.Crowded n e shown has = absurd (shown.0 has.0 has.1)
placed number workers old new status.NoMemory n e shown has = inr (inr (inr e))
placed number workers old new status.Words n e shown has = absurd shown
placed number workers old new status.Parameters n e shown has = absurd shown
placed number workers old new status.BadInput n e shown has = absurd shown
placed number workers old new status.ReadFault n e shown has = absurd shown

module _ (number workers : ℕ) (old new : World) (n : ℕ) (runs : ShowsDemo number workers old new n) where
  -- what it leaves, by the number of its status
  pub demo_so : (s : Status) → Ended s n → ShowsSo number workers old.sink new.sink s
  demo_so s e =
      let shown = runs.shows.shown in
      subst (ShowsSo number workers old.sink new.sink) (one_status shown.0 s n shown.1 e) shown.2

  pub demo_unplaced : AreUnplaced (asked_tags number) → IsOrFails status.Crowded n
  demo_unplaced none = let shown = runs.shows.shown in unplaced number workers old.sink new.sink shown.0 n shown.1 shown.2 none

  pub demo_placed : HavePlacement demo_parameters.rows (asked_tags number) → IsOrFails status.Done n
  demo_placed has = let shown = runs.shows.shown in placed number workers old.sink new.sink shown.0 n shown.1 shown.2 has

  pub demo_empty : IsEmptyNumber n → new.sink.written ≡ old.sink.written
  demo_empty (inl e) = absurd (demo_so status.Words e)
  demo_empty (inr (inl e)) = absurd (demo_so status.BadInput e)
  demo_empty (inr (inr (inl e))) = absurd (demo_so status.ReadFault e)
  demo_empty (inr (inr (inr e))) = ap (λ (h : SinkTold). h.written) (demo_so status.NoMemory e)
