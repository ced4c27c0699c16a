-- A read that stops one byte past a limit.
use Rattle.std.proofs.Common.{◌≡◌, ℕ, ◌+◌, ◌≤◌, List, [], ◌++◌, length, take, None, Some, IfSome, Option, sym, ap, ◌∙◌, arith, take_all, length-take}
use Rattle.std.specs.Prelude.{option_map, Result, Ok, Err, IfOk, OnOk, OnErr}
use Rattle.psi_outside.specs.declared.faults.FileFault.{FileFault}
use Rattle.psi_outside.specs.Reading.{IsFailure}

-- it gave all that was left, if that is within the limit
pub told_whole : (known : Option (List ℕ)) (old bytes : List ℕ) (limit max : ℕ) → limit ≡ max + 1 → old ≡ []
    → IfSome (option_map (take limit) known) (λ left. bytes ≡ old ++ left) → length bytes ≤ max → IfSome known (λ left. left ≡ bytes)
told_whole None old bytes limit max l o given short = tt
told_whole (Some left) old bytes limit max l o given short =
    let front : bytes ≡ take limit left = given ∙ ap (λ (xs : List ℕ). xs ++ take limit left) o in
    let all : length left ≤ limit = omega (arith, ap length front, length-take {A = ℕ}) in
    sym (front ∙ take_all limit left all)

-- what was read is told of the answer, where that is Ok: then the read was
pub judged_told : {E V : Type 0} (read : Result ℕ E) (r : Result V FileFault) (G : Type 0) (P Q : V → Type 0)
    → OnOk read G → OnOk read (IfOk r P) → OnErr read (IsFailure r) → (G → (v : V) → P v → Q v) → IfOk r Q
judged_told read (Err fault) G P Q told whole failed h = tt
judged_told (Ok n) (Ok v) G P Q told whole failed h = h told v whole
judged_told (Err e) (Ok v) G P Q told whole failed h = absurd failed
