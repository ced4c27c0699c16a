-- What reading a source to its end says where it does not give the bytes.
use Rattle.std.specs.Prelude.{◌≡◌, ◌+◌, ◌<◌, ◌≤◌, ℕ, List, length, OnOk, Ok, Err, IfErr, IfSome, ⊤}
use Rattle.std.specs.declared.option.Option.{Option}
use Rattle.std.specs.declared.result.Result.{Result}
use Rattle.std.specs.Io.KnownBytes.{Consumes}
use Rattle.psi_outside.specs.Causes.{count_on}
use Rattle.psi_outside.specs.declared.faults.FileFault.{FileFault}
use Rattle.psi_outside.specs.declared.faults.FileFault.TheVariants as file
use Rattle.psi_outside.specs.declared.faults.ReadFault.{ReadFault}
use Rattle.psi_outside.specs.declared.faults.ReadFault.TheVariants.{Failed, TooLong, NoMemory}

-- what a fault says of the count of faults: a failed read counts once, and nothing else does
abbrev pub IsReadCounted : ℕ → ℕ → ReadFault → Type 0
IsReadCounted before now Failed = now ≡ count_on before
IsReadCounted before now TooLong = now ≡ before
IsReadCounted before now NoMemory = now ≡ before

-- The count never falls, it went up by one where a read failed, and it is as it was at every other answer.
pub record HasReadCause {T : Type 0} (before now : ℕ) (result : Result T ReadFault) : Type 0 where
  pub later : before ≤ now
  pub counted : IfErr result (IsReadCounted before now)
  pub kept : OnOk result (now ≡ before)

-- a file was not read: a read failed, or memory ran out
abbrev pub IsFailure : {T : Type 0} → Result T FileFault → Type 0
IsFailure (Ok bytes) = ⊥
IsFailure (Err file.Failed) = ⊤
IsFailure (Err (file.TooLong max)) = ⊥
IsFailure (Err file.NoMemory) = ⊤

-- more bytes were left than the limit, where they are told, if the fault says so
abbrev pub IsLonger : ℕ → Option (List ℕ) → ReadFault → Type 0
IsLonger limit left Failed = ⊤
IsLonger limit left TooLong = IfSome left (λ bytes. limit < length bytes)
IsLonger limit left NoMemory = ⊤

-- the bytes that one read of it has room for
abbrev pub piece_size : ℕ
piece_size = 8192

-- as many bytes were taken at the most
abbrev pub HasTakenAtMost : ℕ → (old new : Option (List ℕ)) → Type 0
HasTakenAtMost most old new = (taken : List ℕ) × Consumes old new taken × (length taken ≤ most)

-- How far the source was read, by the fault: a read failed behind the limit's bytes at most; a source that is longer is refused with the
-- piece that goes past the limit, and no other byte is taken.
abbrev pub IsWithin : ℕ → (old new : Option (List ℕ)) → ReadFault → Type 0
IsWithin limit old new Failed = HasTakenAtMost limit old new
IsWithin limit old new TooLong = HasTakenAtMost (limit + piece_size) old new
IsWithin limit old new NoMemory = HasTakenAtMost (limit + piece_size) old new
