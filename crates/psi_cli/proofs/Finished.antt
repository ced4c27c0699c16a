-- What a run leaves, by what was made of its input and by how that was written.
use Rattle.std.proofs.Common.{◌≡◌, ℕ, Result, Ok, Err, sym, subst, inl, inr}
use Rattle.std.specs.Result.{IfErr, IfOk, OnOk}
use Rattle.psi_cli.specs.declared.outcome.Outcome.{Outcome}
use Rattle.psi_cli.specs.declared.status.Status.{Status}
use Rattle.psi_cli.specs.Leaving.{Finishes, LeavesText, Task}
use Rattle.psi_cli.specs.Runs.{RunsTask}
use Rattle.psi_cli.specs.Statuses.{Ended}
use Rattle.psi_cli.specs.Worlds.{World}

module _ (t : Task) (old new : World) where
  leaves : (made : Result Outcome Status) (s : Status)
      → IfOk made (λ o. t.makes old.given o.status o.text.items) → OnOk made (t.reads old.given new.given)
      → IfErr made (t.gives_up old.given new.given) → Finishes made old.sink new.sink s → LeavesText t old new s
  leaves (Ok o) s makes read why (inl w) =
      inl (record {
        text = o.text.items;
        makes = subst (λ (u : Status). t.makes old.given u o.text.items) (sym w.0) makes;
        read = read;
        written = w.1;
      })
  leaves (Ok o) s makes read why (inr w) =
      inr (inl (record { told = w.0; text = o.text.items; meant = o.status; makes = makes; read = read; cut_off = w.1 }))
  leaves (Err u) s makes read why w =
      inr (inr (record { why = subst (t.gives_up old.given new.given) (sym w.0) why; untouched = w.1 }))

  pub runs_task : (made : Result Outcome Status) (s : Status) (n : ℕ) → Ended s n
      → IfOk made (λ o. t.makes old.given o.status o.text.items) → OnOk made (t.reads old.given new.given)
      → IfErr made (t.gives_up old.given new.given) → Finishes made old.sink new.sink s → RunsTask t old new n
  runs_task made s n e makes read why w = (s, e, leaves made s makes read why w)
