-- Reading a text to its end, and why no items are read.
use Rattle.std.specs.Prelude.{◌≡◌, ◌⊎◌, ℕ, ◌<◌, ◌+◌, List, [], length, Some, IfSome, ⊤}
use Rattle.psi_outside.specs.Causes.{Rose}
use Rattle.psi_outside.specs.Ends.{SourceTold}
use Rattle.psi_outside.specs.Reading.{HasTakenAtMost, piece_size}
use Rattle.psi_cli.specs.declared.status.Status.{Status}
use Rattle.psi_cli.specs.declared.status.Status.TheVariants as status
use Rattle.psi_cli.specs.ItemTexts.{IsItemText, most_item_text}

-- the source was read to its end
abbrev pub IsEnded : (old new : SourceTold) → Type 0
IsEnded old new = IfSome old.left (λ _. new.left ≡ Some [])

-- at most so many bytes were taken, or one piece more
abbrev pub IsReadWithin : (most : ℕ) → (old new : SourceTold) → Type 0
IsReadWithin most old new = HasTakenAtMost most old.left new.left

abbrev pub IsReadAbout : (most : ℕ) → (old new : SourceTold) → Type 0
IsReadAbout most old new = HasTakenAtMost (most + piece_size) old.left new.left

-- A text of at most so many bytes was read to its end, or is longer: then it is refused with the piece that goes past the limit.
pub record IsTested (most : ℕ) (old new : SourceTold) : Type 0 where
  pub told : IfSome old.left (λ bytes. (most < length bytes) ⊎ (new.left ≡ Some []))
  pub about : IsReadAbout most old new

-- a read failed, behind at most so many bytes
pub record HasReadFailed (most : ℕ) (old new : SourceTold) : Type 0 where
  pub failed : Rose old.faults new.faults
  pub within : IsReadWithin most old new

-- a text that was tested is none of items, and no read failed
pub record HasNoItemText (old new : SourceTold) : Type 0 where
  pub no_item_text : IfSome old.left (λ bytes. IsItemText bytes → ⊥)
  pub no_read_failed : new.faults ≡ old.faults
  pub tested : IsTested most_item_text old new

-- why no items are read, by the status: the text is none of items, a read failed, or memory ran out
abbrev pub HasNoItems : (old new : SourceTold) → Status → Type 0
HasNoItems old new status.BadInput = HasNoItemText old new
HasNoItems old new status.ReadFault = HasReadFailed most_item_text old new
HasNoItems old new status.NoMemory = IsReadAbout most_item_text old new
HasNoItems old new status.Done = ⊥
HasNoItems old new status.Words = ⊥
HasNoItems old new status.Parameters = ⊥
HasNoItems old new status.WriteFault = ⊥
HasNoItems old new status.Crowded = ⊥

-- why a text has no items, by the status
abbrev pub IsNoItemText : (text : List ℕ) → Status → Type 0
IsNoItemText text status.BadInput = IsItemText text → ⊥
IsNoItemText text status.NoMemory = ⊤
IsNoItemText text status.Done = ⊥
IsNoItemText text status.Words = ⊥
IsNoItemText text status.Parameters = ⊥
IsNoItemText text status.ReadFault = ⊥
IsNoItemText text status.WriteFault = ⊥
IsNoItemText text status.Crowded = ⊥
