-- The number that decimal digits write, digit by digit.
use Rattle.std.proofs.Common.{◌≡◌, ℕ, suc, ◌+◌, ◌-◌, ◌*◌, ◌≤◌, ◌<◌, List, [], ◌∷◌, length, drop, get_or, drop-cons, Option, None, SomeIff, arith}
use Rattle.std.specs.List.{fold}

-- one digit more
abbrev pub and_digit : ℕ → ℕ → ℕ
and_digit number digit = 10 * number + (digit - 48)

-- more digits write no lesser number
pub le-fold : (number : ℕ) (digits : List ℕ) → number ≤ fold and_digit number digits
le-fold number [] = omega arith
le-fold number (digit ∷ digits) = omega (arith, le-fold (and_digit number digit) digits)

-- the digits from place i on write no lesser number than the one at place i
pub le-fold-drop : (number : ℕ) (digits : List ℕ) (i : ℕ) → i < length digits → 10 * number + (get_or digits i 0 - 48) ≤ fold and_digit number (drop i digits)
le-fold-drop number digits i lt =
    rw (drop-cons digits i 0 lt) (le-fold (and_digit number (get_or digits i 0)) (drop (suc i) digits))

-- no value where it would pass the limit
pub none_above : (r : Option ℕ) (limit value : ℕ) → r ≡ None → limit ≤ value → SomeIff r (value < limit) value
none_above r limit value e above = rw e (λ below. absurd (omega arith))
