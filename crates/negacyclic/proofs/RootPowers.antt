-- Sums over the powers of a number whose n-th power is -1.
use Rattle.std.proofs.Common.{◌≡◌, ℕ, zero, suc, ◌+◌, ◌*◌, ◌/◌, ◌%◌, ◌^◌, ◌<◌, refl, ap, ◌∙◌, sym, inl, inr, arith}
use Rattle.std.proofs.lemmas.Bool.{cases_eq}
use Rattle.std.proofs.lemmas.Nat.{mul-mod_first, pow-mod, mul-pow, pow-add}
use Rattle.std.proofs.Math.Nat.{pow-succ', pow-zero}
use Rattle.psi_residue.specs.Sums.{sum_below}
use Rattle.psi_residue.proofs.Sums.{sum_below-same, sum_below-times, sum_below-split}
use Rattle.psi_residue.proofs.Congruences.{times_multiple}
use Rattle.psi_residue.proofs.Powers.{pow-pow, odd_power}

-- the sum of the first 2n powers of z is 1 + z^n times that of the first n
doubled : (n d w : ℕ) → sum_below (n + n) (λ i. w ^ (d * i)) ≡ (w ^ (d * n) + 1) * sum_below n (λ i. w ^ (d * i))
doubled n d w =
    sum_below-split n n (λ i. w ^ (d * i))
    ∙ ap (λ (u : ℕ). sum_below n (λ i. w ^ (d * i)) + u)
    (sum_below-same n (λ i. w ^ (d * (n + i))) (λ i. w ^ (d * n) * w ^ (d * i)) (λ i lt. parts i) ∙ sum_below-times n (w ^ (d * n)) (λ i. w ^ (d * i)))
    ∙ collected (sum_below n (λ i. w ^ (d * i))) (w ^ (d * n))
  where
    parts : (i : ℕ) → w ^ (d * (n + i)) ≡ w ^ (d * n) * w ^ (d * i)
    parts i = let e : d * (n + i) ≡ d * n + d * i = omega arith in ap (λ (j : ℕ). w ^ j) e ∙ pow-add w (d * n) (d * i)

    collected : (s u : ℕ) → s + u * s ≡ (u + 1) * s
    collected s u = omega arith

two_halves : (k : ℕ) → 2 ^ suc k ≡ 2 ^ k + 2 ^ k
two_halves k = let e = pow-succ' 2 k in omega (arith, e)

-- where the n-th power of w is -1, for n a power of two, the first n powers of w^(2d) have the sum 0, for each d from 1 to n - 1
pub powers_vanish : (m k w d : ℕ) → (w ^ 2 ^ k + 1) % m ≡ 0 → 0 < d → d < 2 ^ k → sum_below (2 ^ k) (λ i. w ^ (2 * d * i)) % m ≡ 0
powers_vanish m zero w d h positive below = let one : 2 ^ 0 ≡ 1 = refl in absurd (omega arith)
powers_vanish m (suc k) w d h positive below =
    ap (λ (j : ℕ). sum_below j (λ i. w ^ (2 * d * i)) % m) (two_halves k)
    ∙ ap (λ (u : ℕ). u % m) (doubled (2 ^ k) (2 * d) w)
    ∙ elim (cases_eq (d % 2) 1) [
      | inl odd ↦
          let d-is : 2 * (d / 2) + 1 ≡ d = omega arith in
          ap (λ (u : ℕ). u % m) (turned (w ^ (2 * d * 2 ^ k) + 1) (sum_below (2 ^ k) (λ i. w ^ (2 * d * i))))
          ∙ times_multiple m (sum_below (2 ^ k) (λ i. w ^ (2 * d * i))) (w ^ (2 * d * 2 ^ k) + 1)
          (ap (λ (u : ℕ). (u + 1) % m) (as_power (2 ^ k) (2 ^ suc k) (two_halves k) ∙ ap (λ (j : ℕ). (w ^ 2 ^ suc k) ^ j) (sym d-is))
          ∙ odd_power m (w ^ 2 ^ suc k) (d / 2) h)
      | inr even ↦
          let d-is : 2 * (d / 2) ≡ d = omega arith in
          times_multiple m (w ^ (2 * d * 2 ^ k) + 1) (sum_below (2 ^ k) (λ i. w ^ (2 * d * i)))
          (ap (λ (u : ℕ). u % m) (sum_below-same (2 ^ k) (λ i. w ^ (2 * d * i)) (λ i. (w ^ 2) ^ (2 * (d / 2) * i)) (λ i lt. squared (d / 2) d-is i))
          ∙ powers_vanish m k (w ^ 2) (d / 2) (square_h (2 ^ k) (2 ^ suc k) (two_halves k) h) (omega arith) (let e = two_halves k in omega (arith, e)))
    ]
  where
    turned : (a b : ℕ) → a * b ≡ b * a
    turned a b = omega arith

    as_power : (n n2 : ℕ) → n2 ≡ n + n → w ^ (2 * d * n) ≡ (w ^ n2) ^ d
    as_power n n2 e =
        let product : (n + n) * d ≡ 2 * d * n = omega arith in
        sym (pow-pow w n2 d ∙ ap (λ (j : ℕ). w ^ (j * d)) e ∙ ap (λ (j : ℕ). w ^ j) product)

    squared : (half : ℕ) → 2 * half ≡ d → (i : ℕ) → w ^ (2 * d * i) ≡ (w ^ 2) ^ (2 * half * i)
    squared half e i =
        let exponent : 2 * (2 * half * i) ≡ 2 * (2 * half) * i = omega arith in
        sym (pow-pow w 2 (2 * half * i) ∙ ap (λ (j : ℕ). w ^ j) exponent ∙ ap (λ (j : ℕ). w ^ (2 * j * i)) e)

    square_h : (n n2 : ℕ) → n2 ≡ n + n → (w ^ n2 + 1) % m ≡ 0 → ((w ^ 2) ^ n + 1) % m ≡ 0
    square_h n n2 e h2 =
        let exponent : 2 * n ≡ n + n = omega arith in
        ap (λ (u : ℕ). (u + 1) % m) (pow-pow w 2 n ∙ ap (λ (j : ℕ). w ^ j) (exponent ∙ sym e)) ∙ h2

-- the excess of the power of x over that of its inverse is left
pub balanced : (m x y a b d : ℕ) → (x * y) % m ≡ 1 % m → a ≡ b + d → (x ^ a * y ^ b) % m ≡ x ^ d % m
balanced m x y a b d inverse e =
    ap (λ (u : ℕ). u % m) (ap (λ (u : ℕ). u * y ^ b) (ap (λ (j : ℕ). x ^ j) e ∙ pow-add x b d) ∙ regrouped (x ^ b) (x ^ d) (y ^ b) ∙ ap (λ (u : ℕ). u * x ^ d) (sym (mul-pow x y b)))
    ∙ sym (mul-mod_first ((x * y) ^ b) (x ^ d) m)
    ∙ ap (λ (u : ℕ). (u * x ^ d) % m) (sym (pow-mod (x * y) b m) ∙ ap (λ (u : ℕ). u ^ b % m) inverse ∙ pow-mod 1 b m)
    ∙ mul-mod_first (1 ^ b) (x ^ d) m
    ∙ ap (λ (u : ℕ). u % m) (ap (λ (u : ℕ). u * x ^ d) (one b) ∙ times_one (x ^ d))
  where
    regrouped : (p q r : ℕ) → p * q * r ≡ p * r * q
    regrouped p q r = omega arith

    one : (b : ℕ) → 1 ^ b ≡ 1
    one zero = pow-zero 1
    one (suc b) = let e2 = pow-succ' 1 b in let before = one b in omega (arith, e2, before)

    times_one : (u : ℕ) → 1 * u ≡ u
    times_one u = omega arith
