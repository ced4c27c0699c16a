-- What a read and a flush say of the bytes, where they are told.
use Rattle.std.specs.Prelude.{◌≡◌, ◌↔◌, ℕ, List, [], length, IfOk, IfSome}
use Rattle.std.specs.declared.option.Option.{Option}
use Rattle.std.specs.declared.result.Result.{Result}

-- `Ok(0)` comes exactly where no byte is left, where these are told
abbrev pub EndsExactly : {E : Type 0} → Option (List ℕ) → Result ℕ E → Type 0
EndsExactly left result = IfSome left (λ bytes. IfOk result (λ count. (count ≡ 0) ↔ (bytes ≡ [])))

-- as many bytes are flushed as are written, where both are told
abbrev pub IsAllFlushed : Option (List ℕ) → Option ℕ → Type 0
IsAllFlushed written flushed = IfSome written (λ bytes. IfSome flushed (λ count. count ≡ length bytes))
