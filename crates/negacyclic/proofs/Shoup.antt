-- Products with a factor whose scaled quotient is known: the quotient of the product is right or one too small.
use Rattle.std.proofs.Common.{◌≡◌, ℕ, ◌+◌, ◌-◌, ◌*◌, ◌/◌, ◌%◌, ◌<◌, ◌≤◌, ap, ◌∙◌, sym, arith}
use Rattle.std.proofs.Math.Nat.{mul-le-mul, div-add-mod, mod-lt, mod-eq_of_lt, lt_of_mul-lt-mul_right, le_of_mul-le-mul_right, add-mul-mod_self_left}

-- the whole, written out
whole : (b q w x s e h r : ℕ) → q * s + e ≡ w * b → b * h + r ≡ x * s → x * w * b ≡ h * q * b + (q * r + x * e)
whole b q w x s e h r first second =
    regroup x w b
    ∙ ap (λ (u : ℕ). x * u) (sym first)
    ∙ parted x q s e
    ∙ ap (λ (u : ℕ). q * u + x * e) (sym second)
    ∙ turned q b h r x e
  where
    regroup : (x w b : ℕ) → x * w * b ≡ x * (w * b)
    regroup x w b = omega arith

    parted : (x q s e : ℕ) → x * (q * s + e) ≡ q * (x * s) + x * e
    parted x q s e = omega arith

    turned : (q b h r x e : ℕ) → q * (b * h + r) + x * e ≡ h * q * b + (q * r + x * e)
    turned q b h r x e = omega arith

pub quotient_below : (b q w x s : ℕ) → 0 < b → 0 < q → s ≡ w * b / q → x * s / b * q ≤ x * w
quotient_below b q w x s positive q_positive s-is =
    let h : ℕ = x * s / b in
    let e : ℕ = w * b % q in
    let r : ℕ = x * s % b in
    let first : q * s + e ≡ w * b = ap (λ (u : ℕ). q * u + e) s-is ∙ div-add-mod (w * b) q in
    let all = whole b q w x s e h r first (div-add-mod (x * s) b) in
    let le : h * q * b ≤ x * w * b = omega (arith, all) in
    le_of_mul-le-mul_right {m = h * q} {n = x * w} {k = b} le positive

pub rest_below : (b q w x s : ℕ) → 0 < b → 0 < q → x < b → s ≡ w * b / q → x * w < x * s / b * q + 2 * q
rest_below b q w x s positive q_positive x_lt s-is =
    let h : ℕ = x * s / b in
    let e : ℕ = w * b % q in
    let r : ℕ = x * s % b in
    let first : q * s + e ≡ w * b = ap (λ (u : ℕ). q * u + e) s-is ∙ div-add-mod (w * b) q in
    let all = whole b q w x s e h r first (div-add-mod (x * s) b) in
    let e_lt : e < q = mod-lt (w * b) q_positive in
    let r_lt : r < b = mod-lt (x * s) positive in
    let one : q * (r + 1) ≤ q * b = mul-le-mul {n₁ = q} {m₁ = r + 1} {n₂ = q} {m₂ = b} (omega arith) (omega arith) in
    let two : x * e ≤ b * q = mul-le-mul {n₁ = x} {m₁ = e} {n₂ = b} {m₂ = q} (omega arith) (omega arith) in
    let lt : x * w * b < (h * q + 2 * q) * b = omega (arith, all, one, two) in
    lt_of_mul-lt-mul_right b {m = x * w} {n = h * q + 2 * q} lt

-- what is left is congruent to the product
pub rest_same : (q p h : ℕ) → h * q ≤ p → (p - h * q) % q ≡ p % q
rest_same q p h le =
    let e : p ≡ p - h * q + q * h = omega arith in
    sym (ap (λ (u : ℕ). u % q) e ∙ add-mul-mod_self_left (p - h * q) q h)

-- one subtraction reduces a number below twice the modulus
pub reduced_once : (q x y : ℕ) → q ≤ x → x < 2 * q → x % q ≡ y % q → x - q ≡ y % q
reduced_once q x y le lt e =
    let whole : x ≡ x - q + q * 1 = omega arith in
    let below : x - q < q = omega arith in
    sym (mod-eq_of_lt below) ∙ sym (ap (λ (u : ℕ). u % q) whole ∙ add-mul-mod_self_left (x - q) q 1) ∙ e

-- the difference of two numbers that leave 64 bits, where it fits itself
pub wrapped : (p t : ℕ) → t ≤ p → p < t + 18446744073709551616 → (p % 18446744073709551616 + (18446744073709551616 - t % 18446744073709551616)) % 18446744073709551616 ≡ p - t
wrapped p t le lt = omega arith
