-- Where a fault comes from: an object that reaches outside counts its faults, and a fault is answered only where that
-- count went up.
use Rattle.std.specs.Prelude.{◌≡◌, ℕ, ◌+◌, ◌-◌, ◌^◌, ◌≤◌, min, OnOk, OnErr, IfErr}
use Rattle.std.specs.declared.result.Result.{Result}
use Rattle.psi_outside.specs.declared.faults.FileFault.{FileFault}
use Rattle.psi_outside.specs.declared.faults.FileFault.TheVariants.{Failed, TooLong, NoMemory}

-- one more, or the last number of 64 bits
abbrev pub count_on : ℕ → ℕ
count_on n = min (n + 1) (2 ^ 64 - 1)

-- over any number of calls: the count went up, or stands at the last number of 64 bits
abbrev pub Rose : ℕ → ℕ → Type 0
Rose before now = count_on before ≤ now

-- The count never falls, it went up by one where the call failed, and it is as it was where the call is Ok.
pub record HasCause {T E : Type 0} (before now : ℕ) (result : Result T E) : Type 0 where
  pub later : before ≤ now
  pub failed : OnErr result (now ≡ count_on before)
  pub kept : OnOk result (now ≡ before)

-- what a fault of a file says of the count: a failed read counts once, and nothing else does
abbrev pub IsCounted : ℕ → ℕ → FileFault → Type 0
IsCounted before now Failed = now ≡ count_on before
IsCounted before now (TooLong max) = now ≡ before
IsCounted before now NoMemory = now ≡ before

-- The count never falls, it went up by one where the read failed, and it is as it was at every other answer.
pub record HasFileCause {T : Type 0} (before now : ℕ) (result : Result T FileFault) : Type 0 where
  pub later : before ≤ now
  pub counted : IfErr result (IsCounted before now)
  pub kept : OnOk result (now ≡ before)
