-- The statuses of the program.
use Rattle.std.specs.Prelude.{◌≡◌, ◌⊎◌, ℕ}
use Rattle.psi_cli.specs.declared.status.Status.{Status}
use Rattle.psi_cli.specs.declared.status.Status.TheVariants as status

-- the number of a status
abbrev pub status_number : Status → ℕ
status_number status.Done = 0
status_number status.Words = 2
status_number status.Parameters = 3
status_number status.BadInput = 4
status_number status.ReadFault = 5
status_number status.WriteFault = 6
status_number status.NoMemory = 7
status_number status.Crowded = 8

-- a run ended with this status
abbrev pub Ended : Status → ℕ → Type 0
Ended s n = n ≡ status_number s

-- the statuses that there are
abbrev pub IsStatus : ℕ → Type 0
IsStatus n = (s : Status) × Ended s n

-- a fault, or memory ran out
abbrev pub HasFailed : ℕ → Type 0
HasFailed n = Ended status.ReadFault n ⊎ (Ended status.WriteFault n ⊎ Ended status.NoMemory n)

-- this status, or a fault, or memory ran out
abbrev pub IsOrFails : Status → ℕ → Type 0
IsOrFails s n = Ended s n ⊎ HasFailed n

-- refused parameters, or a write that failed, or memory ran out: nothing was read
abbrev pub IsRefusedOrFails : ℕ → Type 0
IsRefusedOrFails n =
    Ended status.Parameters n ⊎ (Ended status.WriteFault n ⊎ Ended status.NoMemory n)

-- the input was read, and no read failed: done, a bad input, or items without a placement
abbrev pub IsReadWhole : ℕ → Type 0
IsReadWhole n = Ended status.Done n ⊎ (Ended status.BadInput n ⊎ Ended status.Crowded n)

-- nothing is read: no command, or refused parameters
abbrev pub IsUnreadStatus : ℕ → Type 0
IsUnreadStatus n = Ended status.Words n ⊎ Ended status.Parameters n

-- no text is written: no command, a bad input, a read that failed, or memory that ran out
abbrev pub IsEmptyNumber : ℕ → Type 0
IsEmptyNumber n =
    Ended status.Words n
    ⊎ (Ended status.BadInput n ⊎ (Ended status.ReadFault n ⊎ Ended status.NoMemory n))
