-- Bounds of the numbers between passes.
use Rattle.std.proofs.Common.{◌≡◌, ℕ, zero, suc, ◌+◌, ◌*◌, ◌<◌, ◌≤◌, List, arith}
use Rattle.std.proofs.lemmas.Nat.{mul-add-lt}
use Rattle.std.proofs.Math.Nat.{mul-le-mul}
use Rattle.psi_residue.specs.Polynomials.{IsPolynomial}

-- a polynomial modulo a smaller number
pub IsPolynomial_wider : (low high : ℕ) (xs : List ℕ) → low ≤ high → IsPolynomial low xs → IsPolynomial high xs
IsPolynomial_wider low high xs le h = record { size = h.size; below = λ i lt. omega (arith, h.below i lt) }

-- l rows of 4·g places, where l·g is 256
pub forward_bound : (q l g : ℕ) → q < 1099511627776 → l * g ≡ 256 → l < 257
forward_bound q zero g lt rows = omega arith
forward_bound q (suc l) zero lt rows = absurd (omega arith)
forward_bound q (suc l) (suc g) lt rows = omega (arith, mul-le-mul {n₁ = suc l} {m₁ = 1} {n₂ = suc l} {m₂ = suc g} (omega arith) (omega arith))

pub forward_wide : (q l : ℕ) → q < 1099511627776 → l < 257 → 4 * l * q ≤ 1152921504606846976
forward_wide q l lt rows = omega (arith, mul-le-mul {n₁ = l} {m₁ = q} {n₂ = 256} {m₂ = 1099511627776} (omega arith) (omega arith))

-- four times the modulus more stay below the next bound
pub forward_more : (q l x : ℕ) → 0 < l → x < 4 * l * q → x + 4 * q + 1 ≤ 16 * l * q
forward_more q l x positive lt = omega (arith, mul-le-mul {n₁ = 1} {m₁ = q} {n₂ = l} {m₂ = q} (omega arith) (omega arith))

-- the first of four places, h apart
pub first_inside : (j h r l : ℕ) → j < l → r < h → l * h ≡ 1024 → 4 * (j * h) + r < 4096
first_inside j h r l j_lt r_lt size = omega (arith, mul-add-lt j h r l j_lt r_lt)

pub positive_places : (l g : ℕ) → l * g ≡ 256 → 0 < 4 * g
positive_places l zero rows = absurd (omega arith)
positive_places l (suc g) rows = omega arith
