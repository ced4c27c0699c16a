-- Each number from 1 to 65536 has an inverse modulo the plaintext modulus: Fermat's little theorem, by descent to smaller numbers.
use Rattle.std.proofs.Common.{◌≡◌, ℕ, zero, suc, ◌+◌, ◌-◌, ◌*◌, ◌/◌, ◌%◌, ◌^◌, ◌<◌, ◌≤◌, Bool, true, eqb, ◌&&◌, refl, ap, ◌∙◌, sym, inl, inr, arith}
use Rattle.std.specs.Int.{◌∣◌}
use Rattle.std.proofs.lemmas.Bool.{cases_lt, and_parts, eqb-true}
use Rattle.std.proofs.lemmas.Nat.{mul-mod, mul-mod_first, mul-mod_second, mul-le, mul-pow, pow-mod, pow-add}
use Rattle.std.proofs.lemmas.Nat.Gcd.{dvd_of_mod-eq-zero}
use Rattle.std.proofs.Math.Nat.{div-add-mod, mod-eq_of_lt, add-mul-mod_self_left, mul_comm, pow-zero, pow-succ'}
use Rattle.psi_residue.specs.Numbers.{plain_modulus}
use Rattle.psi_residue.specs.Interpolation.{inverse_of}
use Rattle.psi_residue.proofs.Inverses.{one_from_divisor}
use Rattle.psi_residue.proofs.Congruences.{times_congruent}

-- the power that Fermat's theorem says is 1
unfoldable raised : ℕ → ℕ
raised a = a ^ 65536 % 65537

-- k squarings modulo the plaintext modulus
square : ℕ → ℕ
square b = b * b % 65537

squared : ℕ → ℕ → ℕ
squared zero a = a % 65537
squared (suc k) a = square (squared k a)

squared-is : (k a : ℕ) → squared k a ≡ a ^ (2 ^ k) % 65537
unfolding squared square
squared-is zero a = sym (ap (λ (e : ℕ). a ^ e % 65537) (pow-zero 2) ∙ ap (λ (u : ℕ). u % 65537) first)
  where
    step : 1 ≡ suc 0
    step = omega arith

    one : a * 1 ≡ a
    one = omega arith

    first : a ^ 1 ≡ a
    first = ap (λ (e : ℕ). a ^ e) step ∙ pow-succ' a 0 ∙ ap (λ (u : ℕ). a * u) (pow-zero a) ∙ one
squared-is (suc k) a =
    ap (λ (u : ℕ). u * u % 65537) (squared-is k a)
    ∙ sym (mul-mod (a ^ (2 ^ k)) (a ^ (2 ^ k)) 65537)
    ∙ ap (λ (u : ℕ). u % 65537) (sym (pow-add a (2 ^ k) (2 ^ k)))
    ∙ ap (λ (e : ℕ). a ^ e % 65537) (doubled (2 ^ k) ∙ sym (pow-succ' 2 k))
  where
    doubled : (u : ℕ) → u + u ≡ 2 * u
    doubled u = omega arith

-- after 16 squarings the numbers from 1 to k are 1
all_one : ℕ → Bool
all_one zero = true
all_one (suc k) = all_one k && eqb (squared 16 (k + 1)) 1

one_among : (k a : ℕ) → all_one k ≡ true → 0 < a → a ≤ k → squared 16 a ≡ 1
unfolding all_one
one_among zero a h positive le = absurd (omega arith)
one_among (suc k) a h positive le =
    let parts = and_parts (all_one k) (eqb (squared 16 (k + 1)) 1) h in
    elim (cases_lt k a) [
      | inl last ↦ let same : a ≡ k + 1 = omega arith in ap (squared 16) same ∙ eqb-true (squared 16 (k + 1)) 1 parts.1
      | inr before ↦ one_among k a parts.0 positive before
    ]

few_are_one : all_one 256 ≡ true
unfolding all_one squared square
few_are_one = refl

one_if_small : (a : ℕ) → 0 < a → a ≤ 256 → raised a ≡ 1
unfolding raised
one_if_small a positive le = sym (squared-is 16 a) ∙ one_among 256 a few_are_one positive le

raised-product : (a b : ℕ) → (raised a * raised b) % 65537 ≡ raised (a * b)
unfolding raised
raised-product a b = sym (mul-mod (a ^ 65536) (b ^ 65536) 65537) ∙ sym (ap (λ (u : ℕ). u % 65537) (mul-pow a b 65536))

-- the squares of two numbers with the sum 0 are congruent
same_squares : (m a b : ℕ) → a + b ≡ m → (a * a) % m ≡ (b * b) % m
same_squares m a b e =
    let left : a * a + b * (a + b) ≡ b * b + a * (a + b) = omega arith in
    let whole : a * a + b * m ≡ b * b + a * m = ap (λ (u : ℕ). a * a + b * u) (sym e) ∙ left ∙ ap (λ (u : ℕ). b * b + a * u) e in
    sym (multiple (a * a) b) ∙ ap (λ (u : ℕ). u % m) whole ∙ multiple (b * b) a
  where
    multiple : (x y : ℕ) → (x + y * m) % m ≡ x % m
    multiple x y = ap (λ (u : ℕ). (x + u) % m) (mul_comm y m) ∙ add-mul-mod_self_left x m y

raised-square : (a : ℕ) → raised a ≡ (a * a) ^ 32768 % 65537
unfolding raised
raised-square a = ap (λ (u : ℕ). u % 65537) (pow-add a 32768 32768 ∙ sym (mul-pow a a 32768))

raised-opposite : (a b : ℕ) → a + b ≡ 65537 → raised a ≡ raised b
raised-opposite a b e =
    raised-square a
    ∙ sym (pow-mod (a * a) 32768 65537)
    ∙ ap (λ (u : ℕ). u ^ 32768 % 65537) (same_squares 65537 a b e)
    ∙ pow-mod (b * b) 32768 65537
    ∙ sym (raised-square b)

raised-below : (a : ℕ) → raised a < 65537
unfolding raised
raised-below a = omega arith

quotient_positive : (a q r : ℕ) → a * q + r ≡ 65537 → r < a → a < 65537 → 0 < q
quotient_positive a zero r e lt small = absurd (omega arith)
quotient_positive a (suc q) r e lt small = omega arith

quotient_small : (a q r : ℕ) → a * q + r ≡ 65537 → 257 ≤ a → q < a
quotient_small a q r e large =
    elim (cases_lt q 257) [
      | inl small ↦ omega arith
      | inr too_large ↦ let product : 257 * 257 ≤ a * q = mul-le 257 257 a q large too_large in absurd (omega arith)
    ]

rest_positive : (a : ℕ) → 257 ≤ a → a < 65537 → 0 < 65537 % a
rest_positive a large small =
    elim (cases_lt 0 (65537 % a)) [
      | inl positive ↦ positive
      | inr none ↦
          let divides : a ∣ 65537 = dvd_of_mod-eq-zero a (omega arith) in
          let one : a ≡ 1 = one_from_divisor a divides small in
          absurd (omega arith)
    ]

one_up_to : (n a : ℕ) → a ≤ n → 0 < a → a < 65537 → raised a ≡ 1
one_up_to zero a le positive small = absurd (omega arith)
one_up_to (suc n) a le positive small =
    elim (cases_lt 256 a) [
      | inr few ↦ one_if_small a positive few
      | inl large ↦
          let whole : a * (65537 / a) + 65537 % a ≡ 65537 = div-add-mod 65537 a in
          let rest_small : 65537 % a < a = omega arith in
          let rest_some = rest_positive a large small in
          let quotient_some = quotient_positive a (65537 / a) (65537 % a) whole rest_small small in
          let quotient_less = quotient_small a (65537 / a) (65537 % a) whole large in
          let quotient_one = one_up_to n (65537 / a) (omega arith) quotient_some (omega arith) in
          let rest_one = one_up_to n (65537 % a) (omega arith) rest_some (omega arith) in
          sym (mod-eq_of_lt (raised-below a))
          ∙ ap (λ (u : ℕ). u % 65537) (sym (times_one (raised a)))
          ∙ ap (λ (u : ℕ). (raised a * u) % 65537) (sym quotient_one)
          ∙ raised-product a (65537 / a)
          ∙ raised-opposite (a * (65537 / a)) (65537 % a) whole
          ∙ rest_one
    ]
  where
    times_one : (x : ℕ) → x * 1 ≡ x
    times_one x = omega arith

-- the inverse is one
pub inverse_of-inverts : (a : ℕ) → 0 < a → a < plain_modulus → (a * inverse_of a) % plain_modulus ≡ 1
unfolding inverse_of raised
inverse_of-inverts a positive small =
    let step : 65536 ≡ suc 65535 = omega arith in
    mul-mod_second a (a ^ 65535) 65537
    ∙ ap (λ (u : ℕ). u % 65537) (sym (pow-succ' a 65535))
    ∙ ap (λ (u : ℕ). a ^ u % 65537) (sym step)
    ∙ one_up_to a a (omega arith) positive small

-- a product that is 0 modulo the plaintext modulus has a factor that is
pub no_zero_divisor : (a b : ℕ) → (a * b) % plain_modulus ≡ 0 → 0 < a % plain_modulus → b % plain_modulus ≡ 0
no_zero_divisor a b e positive = by_inverse (inverse_of (a % 65537)) (inverse_of-inverts (a % 65537) positive (omega arith))
  where
    turned : (w : ℕ) → a * w * b ≡ w * (a * b)
    turned w = omega arith

    none : (w : ℕ) → w * 0 ≡ 0
    none w = omega arith

    one : (x : ℕ) → 1 * x ≡ x
    one x = omega arith

    by_inverse : (w : ℕ) → (a % 65537 * w) % 65537 ≡ 1 → b % 65537 ≡ 0
    by_inverse w h =
        ap (λ (u : ℕ). u % 65537) (sym (one b))
        ∙ ap (λ (u : ℕ). (u * b) % 65537) (sym h ∙ mul-mod_first a w 65537)
        ∙ mul-mod_first (a * w) b 65537
        ∙ ap (λ (u : ℕ). u % 65537) (turned w)
        ∙ times_congruent 65537 w (a * b) 0 e
        ∙ ap (λ (u : ℕ). u % 65537) (none w)

-- numbers below the modulus with a difference of 0 are one number
pub same_from_difference : (a b : ℕ) → a < plain_modulus → b < plain_modulus → (a + (plain_modulus - b)) % plain_modulus ≡ 0 → a ≡ b
same_from_difference a b a-small b-small e = omega arith

-- numbers that are not 0 modulo the plaintext modulus have a product that is not
pub nonzero_product : (a b : ℕ) → 0 < a % plain_modulus → 0 < b % plain_modulus → 0 < (a * b) % plain_modulus
nonzero_product a b a-positive b-positive =
    elim (cases_lt 0 ((a * b) % 65537)) [
      | inl positive ↦ positive
      | inr none ↦ let b-none : b % 65537 ≡ 0 = no_zero_divisor a b (omega arith) a-positive in absurd (omega arith)
    ]

-- the difference of two numbers below the modulus that differ is not 0
pub difference-positive : (x a : ℕ) → x < 65537 → a < 65537 → (x ≡ a → ⊥) → 0 < (x + (65537 - a)) % 65537
difference-positive x a x-small a-small other =
    elim (cases_lt 0 ((x + (65537 - a)) % 65537)) [
      | inl positive ↦ positive
      | inr none ↦ absurd (other (same_from_difference x a x-small a-small (omega arith)))
    ]
