-- Sums and lists over the first n indices.
use Rattle.std.specs.Prelude.{ℕ, zero, suc, ◌+◌, List, map}
use Rattle.std.specs.List.{range_with_len}

-- f 0 + f 1 + .. + f (n - 1)
unfoldable pub sum_below : ℕ → (ℕ → ℕ) → ℕ
sum_below zero f = 0
sum_below (suc n) f = sum_below n f + f n

-- the list f 0, f 1, .., f (n - 1)
unfoldable pub table : ℕ → (ℕ → ℕ) → List ℕ
table n f = map f (range_with_len 0 n)
