-- A list in pages of 64 values.
use Rattle.std.specs.Prelude.{◌≡◌, ℕ, ◌-◌, ◌<◌, min, List, [], ◌∷◌, length}
use Rattle.std.specs.List.{flat_map}

-- the values of the pages, one page after another
abbrev pub values_of : {V : Type 0} → List (List V) → List V
values_of pages = flat_map (λ page. page) pages

-- so many values in pages of 64, the last page of 1 to 64
abbrev pub IsPaged : {V : Type 0} → ℕ → List (List V) → Type 0
IsPaged n [] = n ≡ 0
IsPaged n (page ∷ rest) = (0 < n) × (length page ≡ min n 64) × IsPaged (n - 64) rest
