-- Numbers that are congruent modulo m: their sums and products, and sums of congruent terms.
use Rattle.std.proofs.Common.{◌≡◌, ◌≢◌, ℕ, zero, suc, ◌+◌, ◌*◌, ◌/◌, ◌%◌, ◌<◌, refl, ap, ◌∙◌, sym, inl, inr, arith}
use Rattle.std.proofs.lemmas.Bool.{cases_eq}
use Rattle.std.proofs.lemmas.Nat.{mul-mod_first, mul-mod_second}
use Rattle.std.proofs.Math.Nat.{add-mod-mod, mod-add-mod, div-add-mod, add-mul-mod_self_left, zero-mod}
use Rattle.psi_residue.specs.Sums.{sum_below}

-- ---- sums and products of two

pub sum_congruent : (m a b c d : ℕ) → a % m ≡ b % m → c % m ≡ d % m → (a + c) % m ≡ (b + d) % m
sum_congruent m a b c d e f =
    sym (mod-add-mod a m c)
    ∙ ap (λ (u : ℕ). (u + c) % m) e
    ∙ mod-add-mod b m c
    ∙ sym (add-mod-mod b c m)
    ∙ ap (λ (u : ℕ). (b + u) % m) f
    ∙ add-mod-mod b d m

pub plus_congruent : (m c a b : ℕ) → a % m ≡ b % m → (c + a) % m ≡ (c + b) % m
plus_congruent m c a b e = sum_congruent m c c a b refl e

pub times_congruent : (m c a b : ℕ) → a % m ≡ b % m → (c * a) % m ≡ (c * b) % m
times_congruent m c a b e = sym (mul-mod_second c a m) ∙ ap (λ (u : ℕ). (c * u) % m) e ∙ mul-mod_second c b m

-- with the common factor behind
pub times_congruent_right : (m c a b : ℕ) → a % m ≡ b % m → (a * c) % m ≡ (b * c) % m
times_congruent_right m c a b e = sym (mul-mod_first a c m) ∙ ap (λ (u : ℕ). (u * c) % m) e ∙ mul-mod_first b c m

pub product_congruent : (m a b c d : ℕ) → a % m ≡ b % m → c % m ≡ d % m → (a * c) % m ≡ (b * d) % m
product_congruent m a b c d e f = times_congruent_right m c a b e ∙ times_congruent m b c d f

-- residues in a sum with a multiple
pub reduced_inside : (m a c b : ℕ) → (a % m + c * (b % m)) % m ≡ (a + c * b) % m
reduced_inside m a c b = mod-add-mod a m (c * (b % m)) ∙ plus_congruent m a (c * (b % m)) (c * b) (mul-mod_second c b m)

-- ---- multiples of the modulus

-- a term that m divides adds nothing
pub add_multiple : (m x z : ℕ) → z % m ≡ 0 → (x + z) % m ≡ x % m
add_multiple m x z e = let none : x + 0 ≡ x = omega arith in plus_congruent m x z 0 (e ∙ sym (zero-mod m)) ∙ ap (λ (u : ℕ). u % m) none

-- a product of a number that m divides
pub times_multiple : (m c z : ℕ) → z % m ≡ 0 → (c * z) % m ≡ 0
times_multiple m c z e =
    let none : c * 0 ≡ 0 = omega arith in
    times_congruent m c z 0 (e ∙ sym (zero-mod m)) ∙ ap (λ (u : ℕ). u % m) none ∙ zero-mod m

-- a number that is -1 modulo m times x, and x, are 0 together
pub minus_one-times : (m c x y : ℕ) → (c + 1) % m ≡ 0 → (y + c * x + x) % m ≡ y % m
minus_one-times m c x y e =
    let whole : y + c * x + x ≡ y + x * (c + 1) = omega arith in
    ap (λ (u : ℕ). u % m) whole ∙ add_multiple m y (x * (c + 1)) (times_multiple m x (c + 1) e)

-- ---- terms that both sides have

-- equal sums with one term in common have equal other terms, modulo m
pub cancel : (k x y c : ℕ) → (x + c) % suc k ≡ (y + c) % suc k → x % suc k ≡ y % suc k
cancel k x y c e = sym (padded x) ∙ ap (λ (u : ℕ). (u + k * c) % suc k) e ∙ padded y
  where
    padded : (z : ℕ) → ((z + c) % suc k + k * c) % suc k ≡ z % suc k
    padded z =
        let whole : z + c + k * c ≡ z + suc k * c = omega arith in
        mod-add-mod (z + c) (suc k) (k * c) ∙ ap (λ (u : ℕ). u % suc k) whole ∙ add-mul-mod_self_left z (suc k) c

pub cancel_term : (m x y c : ℕ) → 0 < m → (x + c) % m ≡ (y + c) % m → x % m ≡ y % m
cancel_term zero x y c positive e = absurd (omega arith)
cancel_term (suc k) x y c positive e = cancel k x y c e

-- two numbers that are -1
pub minus_one-same : (m c d : ℕ) → 0 < m → (c + 1) % m ≡ 0 → (d + 1) % m ≡ 0 → c % m ≡ d % m
minus_one-same m c d positive e f = cancel_term m c d 1 positive (e ∙ sym f)

-- ---- congruent numbers as equal ones

-- two numbers with one residue differ by multiples of the modulus
pub mod-witness : (m x y : ℕ) → x % m ≡ y % m → x + m * (y / m) ≡ y + m * (x / m)
mod-witness m x y e =
    let left : m * (x / m) + x % m ≡ x = div-add-mod x m in
    let right : m * (y / m) + y % m ≡ y = div-add-mod y m in
    omega arith

pub mod-from_witness : (m x y a b : ℕ) → x + m * a ≡ y + m * b → x % m ≡ y % m
mod-from_witness m x y a b e = sym (add-mul-mod_self_left x m a) ∙ ap (λ (u : ℕ). u % m) e ∙ add-mul-mod_self_left y m b

-- ---- sums below n

-- terms that are congruent have congruent sums
pub sum_below-mod : (m n : ℕ) (f g : ℕ → ℕ) → ((i : ℕ) → i < n → f i % m ≡ g i % m) → sum_below n f % m ≡ sum_below n g % m
unfolding sum_below
sum_below-mod m zero f g h = refl
sum_below-mod m (suc n) f g h =
    sum_congruent m (sum_below n f) (sum_below n g) (f n) (g n) (sum_below-mod m n f g (λ i lt. h i (omega arith))) (h n (omega arith))

-- terms that m divides
pub sum_below-vanishing : (m n : ℕ) (f : ℕ → ℕ) → ((i : ℕ) → i < n → f i % m ≡ 0) → sum_below n f % m ≡ 0
unfolding sum_below
sum_below-vanishing m zero f h = zero-mod m
sum_below-vanishing m (suc n) f h =
    add_multiple m (sum_below n f) (f n) (h n (omega arith))
    ∙ sum_below-vanishing m n f (λ i lt. h i (omega arith))

-- m divides all terms but one
pub sum_below-one : (m n l : ℕ) (f : ℕ → ℕ) → l < n → ((j : ℕ) → j < n → j ≢ l → f j % m ≡ 0) → sum_below n f % m ≡ f l % m
unfolding sum_below
sum_below-one m zero l f lt h = absurd (omega arith)
sum_below-one m (suc n) l f lt h =
    elim (cases_eq l n) [
      | inl last ↦
          sym (mod-add-mod (sum_below n f) m (f n))
          ∙ ap (λ (u : ℕ). (u + f n) % m) (sum_below-vanishing m n f (λ j below. h j (omega arith) (λ e. omega arith)))
          ∙ ap (λ (u : ℕ). u % m) (nothing-added (f n))
          ∙ ap (λ (j : ℕ). f j % m) (sym last)
      | inr other ↦
          add_multiple m (sum_below n f) (f n) (h n (omega arith) (λ e. other (sym e)))
          ∙ sum_below-one m n l f (omega arith) (λ j below ne. h j (omega arith) ne)
    ]
  where
    nothing-added : (u : ℕ) → 0 + u ≡ u
    nothing-added u = omega arith
