-- Files by their names.
use Rattle.std.specs.Prelude.{◌≡◌, ℕ, List, ⊤}
use Rattle.std.specs.Ordering.{nat_cmp}
use Rattle.std.specs.Cmp.Lexicographic.{slice_cmp}
use Rattle.std.specs.FinMap.{FinMap, get}
use Rattle.std.specs.declared.option.Option.{Option}
use Rattle.psi_outside.specs.declared.faults.FileFault.{FileFault}
use Rattle.psi_outside.specs.declared.faults.FileFault.TheVariants.{Failed, TooLong, NoMemory}

-- a finite map from names, as the bytes of their text, to the files' bytes
abbrev pub FileMap : Type 0
FileMap = FinMap (slice_cmp nat_cmp) (List ℕ)

-- the bytes of the file of that name, if there is one
abbrev pub file_at : FileMap → List ℕ → Option (List ℕ)
file_at files name = get files name

-- the fault is another one than `TooLong`, or carries the limit
abbrev pub CarriesLimit : ℕ → FileFault → Type 0
CarriesLimit limit Failed = ⊤
CarriesLimit limit (TooLong max) = max ≡ limit
CarriesLimit limit NoMemory = ⊤
