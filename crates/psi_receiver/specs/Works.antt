-- Numbered work that threads do.
use Rattle.std.specs.Prelude.{ℕ, ◌<◌, List, Option, length, IfSome, slice_index_or, ◌≡◌}
use Rattle.std.specs.Fn.{FnReturns}
use denote.Param.Members.{Shared}

module _ {F X : Type 0} (g : Shared F (ℕ × Unit {0}) X) (f : F) (count : ℕ) where
  -- the value is what f may give for that number
  abbrev pub IsWork : (number : ℕ) → (value : X) → Type 0
  IsWork number value = (number < count) × FnReturns g f (number, tt) value

  -- each value that has come stands at its number
  pub record AreInPlace (places : List (Option X)) : Type 0 where
    pub size : length places ≡ count
    pub each : (i : ℕ) (d : Option X) → i < count → IfSome (slice_index_or places i d) (FnReturns g f (i, tt))
