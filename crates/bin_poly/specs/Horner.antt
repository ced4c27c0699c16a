-- Sums in the nested form of Horner's rule.
use Rattle.std.specs.Prelude.{ℕ, zero, suc, ◌+◌, ◌*◌}

-- f k + g k * (f (k + 1) + g (k + 1) * ( .. )), with m of the numbers f
unfoldable pub nested : (f g : ℕ → ℕ) → (m k : ℕ) → ℕ
nested f g zero k = 0
nested f g (suc m) k = f k + g k * nested f g m (k + 1)

-- the value at x of the polynomial with the m coefficients f k, f (k + 1), ..
abbrev pub horner : (f : ℕ → ℕ) → (x m k : ℕ) → ℕ
horner f x m k = nested f (λ i. x) m k
