-- Powers: of powers, of minus one, and one step of square and multiply.
use Rattle.std.proofs.Common.{◌≡◌, ◌≢◌, ℕ, zero, suc, ◌+◌, ◌*◌, ◌/◌, ◌%◌, ◌^◌, ap, ◌∙◌, sym, arith}
use Rattle.std.proofs.lemmas.Nat.{mul-mod_first, mul-mod_second, pow-mod, mul-pow, pow-add}
use Rattle.std.proofs.Math.Nat.{mul_assoc, pow-zero, pow-succ'}
use Rattle.psi_residue.proofs.Congruences.{add_multiple, times_multiple}

pub pow-more : (x k : ℕ) → x ^ (k + 1) ≡ x * x ^ k
pow-more x k = let e : k + 1 ≡ suc k = omega arith in ap (λ (j : ℕ). x ^ j) e ∙ pow-succ' x k

-- a power of a power
pub pow-pow : (x a b : ℕ) → (x ^ a) ^ b ≡ x ^ (a * b)
pow-pow x a zero = let e : a * 0 ≡ 0 = omega arith in pow-zero (x ^ a) ∙ sym (ap (λ (j : ℕ). x ^ j) e ∙ pow-zero x)
pow-pow x a (suc b) =
    let e : a * suc b ≡ a + a * b = omega arith in
    pow-succ' (x ^ a) b ∙ ap (λ (u : ℕ). x ^ a * u) (pow-pow x a b) ∙ sym (ap (λ (j : ℕ). x ^ j) e ∙ pow-add x a (a * b))

-- an odd power of -1 is -1
pub odd_power : (m y j : ℕ) → (y + 1) % m ≡ 0 → (y ^ (2 * j + 1) + 1) % m ≡ 0
odd_power m y zero e =
    let z : 2 * 0 + 1 ≡ 0 + 1 = omega arith in
    let one : y * 1 ≡ y = omega arith in
    ap (λ (u : ℕ). (u + 1) % m) (ap (λ (j : ℕ). y ^ j) z ∙ pow-more y 0 ∙ ap (λ (u : ℕ). y * u) (pow-zero y) ∙ one) ∙ e
odd_power m y (suc j) e =
    let z : 2 * suc j + 1 ≡ 2 * j + 1 + 1 + 1 = omega arith in
    ap (λ (u : ℕ). (u + 1) % m) (ap (λ (i : ℕ). y ^ i) z ∙ pow-more y (2 * j + 1 + 1) ∙ ap (λ (u : ℕ). y * u) (pow-more y (2 * j + 1)))
    ∙ step (y ^ (2 * j + 1))
    ∙ odd_power m y j e
  where
    step : (w : ℕ) → (y * (y * w) + 1) % m ≡ (w + 1) % m
    step w =
        let whole : y * (y * w) + 1 + w * (y + 1) ≡ w + 1 + y * w * (y + 1) = omega arith in
        sym (add_multiple m (y * (y * w) + 1) (w * (y + 1)) (times_multiple m w (y + 1) e))
        ∙ ap (λ (u : ℕ). u % m) whole
        ∙ add_multiple m (w + 1) (y * w * (y + 1)) (times_multiple m (y * w) (y + 1) e)

-- the n-th power of an odd power of a number whose n-th power is -1
pub odd_root : (m n x j : ℕ) → (x ^ n + 1) % m ≡ 0 → ((x ^ (2 * j + 1)) ^ n + 1) % m ≡ 0
odd_root m n x j e =
    let z : (2 * j + 1) * n ≡ n * (2 * j + 1) = omega arith in
    ap (λ (u : ℕ). (u + 1) % m) (pow-pow x (2 * j + 1) n ∙ ap (λ (u : ℕ). x ^ u) z ∙ sym (pow-pow x n (2 * j + 1))) ∙ odd_power m (x ^ n) j e

-- ---- square and multiply

-- the power of a square
square-pow : (s h : ℕ) → (s * s) ^ h ≡ s ^ (h + h)
square-pow s h = mul-pow s s h ∙ sym (pow-add s h h)

halve_even : (m p s h : ℕ) → (p * (s * s % m) ^ h) % m ≡ (p * s ^ (h + h)) % m
halve_even m p s h =
    sym (mul-mod_second p ((s * s % m) ^ h) m)
    ∙ ap (λ (u : ℕ). (p * u) % m) (pow-mod (s * s) h m ∙ ap (λ (u : ℕ). u % m) (square-pow s h))
    ∙ mul-mod_second p (s ^ (h + h)) m

halve_odd : (m p s h : ℕ) → (p * s % m * (s * s % m) ^ h) % m ≡ (p * s ^ (h + h + 1)) % m
halve_odd m p s h =
    mul-mod_first (p * s) ((s * s % m) ^ h) m
    ∙ halve_even m (p * s) s h
    ∙ ap (λ (u : ℕ). u % m) (mul_assoc p s (s ^ (h + h)) ∙ ap (λ (u : ℕ). p * u) (sym (pow-more s (h + h))))

-- an even exponent is halved by squaring
pub step_even : (m p s e q : ℕ) → e % 2 ≢ 1 → q ≡ s * s % m → (p * q ^ (e / 2)) % m ≡ (p * s ^ e) % m
step_even m p s e q even q-is =
    let e-is : e / 2 + e / 2 ≡ e = omega arith in
    rw q-is (halve_even m p s (e / 2) ∙ ap (λ (k : ℕ). (p * s ^ k) % m) e-is)

-- an odd exponent also multiplies
pub step_odd : (m p s e q r : ℕ) → e % 2 ≡ 1 → q ≡ s * s % m → r ≡ p * s % m → (r * q ^ (e / 2)) % m ≡ (p * s ^ e) % m
step_odd m p s e q r odd q-is r-is =
    let e-is : e / 2 + e / 2 + 1 ≡ e = omega arith in
    rw (q-is, r-is) (halve_odd m p s (e / 2) ∙ ap (λ (k : ℕ). (p * s ^ k) % m) e-is)
