-- Statuses by their numbers.
use Rattle.std.proofs.Common.{◌≡◌, ℕ, nat_eq, if◌then◌else◌, refl, sym, ap, ◌∙◌}
use Rattle.psi_cli.specs.declared.status.Status.{Status}
use Rattle.psi_cli.specs.declared.status.Status.TheVariants as status
use Rattle.psi_cli.specs.Statuses.{Ended, status_number}

-- the status of a number
status_at : ℕ → Status
status_at n =
    if nat_eq n 0 then status.Done
    else (if nat_eq n 2 then status.Words
    else (if nat_eq n 3 then status.Parameters
    else (if nat_eq n 4 then status.BadInput
    else (if nat_eq n 5 then status.ReadFault
    else (if nat_eq n 6 then status.WriteFault
    else (if nat_eq n 7 then status.NoMemory else status.Crowded))))))

at_number : (s : Status) → status_at (status_number s) ≡ s
unfolding status_at
at_number status.Done = refl
at_number status.Words = refl
at_number status.Parameters = refl
at_number status.BadInput = refl
at_number status.ReadFault = refl
at_number status.WriteFault = refl
at_number status.NoMemory = refl
at_number status.Crowded = refl

-- a run ends with one status
pub one_status : (s t : Status) (n : ℕ) → Ended s n → Ended t n → s ≡ t
one_status s t n e f = sym (at_number s) ∙ ap status_at (sym e ∙ f) ∙ at_number t
