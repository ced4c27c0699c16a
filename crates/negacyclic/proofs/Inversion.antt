-- Values at the odd powers of a root of -1, and coefficients from such values, undo each other (the finite Fourier transform).
use Rattle.std.proofs.Common.{◌≡◌, ◌≢◌, ℕ, ◌+◌, ◌-◌, ◌*◌, ◌%◌, ◌^◌, ◌<◌, ap, ◌∙◌, sym, inl, inr, arith}
use Rattle.std.proofs.lemmas.Bool.{cases_lt}
use Rattle.std.proofs.lemmas.Nat.{mul-mod_first, mul-mod_second, pow-add}
use Rattle.std.proofs.Math.Nat.{pow-zero}
use Rattle.psi_residue.specs.Sums.{sum_below}
use Rattle.psi_residue.specs.Slots.{value_at_odd, coefficient_from}
use Rattle.psi_residue.proofs.Sums.{sum_below-same, sum_below-times, sum_below-constant, sum_below-swap}
use Rattle.psi_residue.proofs.Congruences.{times_multiple, sum_below-mod, sum_below-one}
use Rattle.negacyclic.proofs.RootPowers.{powers_vanish, balanced}

-- the power of two n = 2^k, two inverse numbers whose n-th powers are -1, and the inverse of n, all modulo m
pub record IsTransform (m k x y c : ℕ) : Type 0 where
  pub forward : (x ^ 2 ^ k + 1) % m ≡ 0
  pub backward : (y ^ 2 ^ k + 1) % m ≡ 0
  pub inverse : (x * y) % m ≡ 1 % m
  pub scaled : (c * 2 ^ k) % m ≡ 1 % m

-- ---- orthogonality

-- the powers at two slots, one d past the other
slots_apart : (m k x y b d : ℕ) → (x * y) % m ≡ 1 % m → (x ^ 2 ^ k + 1) % m ≡ 0 → 0 < d → d < 2 ^ k → sum_below (2 ^ k) (λ i. x ^ ((2 * (b + d) + 1) * i) * y ^ ((2 * b + 1) * i)) % m ≡ 0
slots_apart m k x y b d inverse forward positive lt =
    sum_below-mod m (2 ^ k) (λ i. x ^ ((2 * (b + d) + 1) * i) * y ^ ((2 * b + 1) * i)) (λ i. x ^ (2 * d * i)) (λ i below. balanced m x y ((2 * (b + d) + 1) * i) ((2 * b + 1) * i) (2 * d * i) inverse (exponents i))
    ∙ powers_vanish m k x d forward positive lt
  where
    exponents : (i : ℕ) → (2 * (b + d) + 1) * i ≡ (2 * b + 1) * i + 2 * d * i
    exponents i = omega arith

-- the powers at two coefficients, one d past the other
coefficients_apart : (m k x y b d : ℕ) → (x * y) % m ≡ 1 % m → (x ^ 2 ^ k + 1) % m ≡ 0 → 0 < d → d < 2 ^ k → sum_below (2 ^ k) (λ j. x ^ ((2 * j + 1) * (b + d)) * y ^ ((2 * j + 1) * b)) % m ≡ 0
coefficients_apart m k x y b d inverse forward positive lt =
    sum_below-mod m (2 ^ k) (λ j. x ^ ((2 * j + 1) * (b + d)) * y ^ ((2 * j + 1) * b)) (λ j. x ^ d * x ^ (2 * d * j)) (λ j below. term j)
    ∙ ap (λ (u : ℕ). u % m) (sum_below-times (2 ^ k) (x ^ d) (λ j. x ^ (2 * d * j)))
    ∙ times_multiple m (x ^ d) (sum_below (2 ^ k) (λ j. x ^ (2 * d * j))) (powers_vanish m k x d forward positive lt)
  where
    exponents : (j : ℕ) → (2 * j + 1) * (b + d) ≡ (2 * j + 1) * b + (d + 2 * d * j)
    exponents j = omega arith

    term : (j : ℕ) → (x ^ ((2 * j + 1) * (b + d)) * y ^ ((2 * j + 1) * b)) % m ≡ (x ^ d * x ^ (2 * d * j)) % m
    term j =
        balanced m x y ((2 * j + 1) * (b + d)) ((2 * j + 1) * b) (d + 2 * d * j) inverse (exponents j)
        ∙ ap (λ (u : ℕ). u % m) (pow-add x d (2 * d * j))

-- equal powers of two inverse numbers
together : (m n x y : ℕ) (a : ℕ → ℕ) → (x * y) % m ≡ 1 % m → sum_below n (λ i. x ^ a i * y ^ a i) % m ≡ n % m
together m n x y a inverse =
    sum_below-mod m n (λ i. x ^ a i * y ^ a i) (λ i. 1) (λ i lt. balanced m x y (a i) (a i) 0 inverse (none (a i)) ∙ ap (λ (u : ℕ). u % m) (pow-zero x))
    ∙ ap (λ (u : ℕ). u % m) (sum_below-constant n 1 ∙ times_one n)
  where
    none : (u : ℕ) → u ≡ u + 0
    none u = omega arith

    times_one : (u : ℕ) → u * 1 ≡ u
    times_one u = omega arith

turned : (a b : ℕ) → a * b ≡ b * a
turned a b = omega arith

turned_inverse : (m x y : ℕ) → (x * y) % m ≡ 1 % m → (y * x) % m ≡ 1 % m
turned_inverse m x y h = ap (λ (u : ℕ). u % m) (turned y x) ∙ h

slots_orthogonal : (m k x y c j l : ℕ) → IsTransform m k x y c → j < 2 ^ k → l < 2 ^ k → j ≢ l → sum_below (2 ^ k) (λ i. y ^ ((2 * j + 1) * i) * x ^ ((2 * l + 1) * i)) % m ≡ 0
slots_orthogonal m k x y c j l h j_lt l_lt ne =
    elim (cases_lt j l) [
      | inl before ↦
          let l-is : j + (l - j) ≡ l = omega arith in
          ap (λ (u : ℕ). u % m) (sum_below-same (2 ^ k) (λ i. y ^ ((2 * j + 1) * i) * x ^ ((2 * l + 1) * i)) (λ i. x ^ ((2 * l + 1) * i) * y ^ ((2 * j + 1) * i)) (λ i lt. turned (y ^ ((2 * j + 1) * i)) (x ^ ((2 * l + 1) * i))))
          ∙ sym (ap (λ (p : ℕ). sum_below (2 ^ k) (λ i. x ^ ((2 * p + 1) * i) * y ^ ((2 * j + 1) * i)) % m) l-is)
          ∙ slots_apart m k x y j (l - j) h.inverse h.forward (omega arith) (omega arith)
      | inr behind ↦
          let after : l < j = omega (arith, ne) in
          let j-is : l + (j - l) ≡ j = omega arith in
          sym (ap (λ (p : ℕ). sum_below (2 ^ k) (λ i. y ^ ((2 * p + 1) * i) * x ^ ((2 * l + 1) * i)) % m) j-is)
          ∙ slots_apart m k y x l (j - l) (turned_inverse m x y h.inverse) h.backward (omega arith) (omega arith)
    ]

coefficients_orthogonal : (m k x y c i l : ℕ) → IsTransform m k x y c → i < 2 ^ k → l < 2 ^ k → i ≢ l → sum_below (2 ^ k) (λ j. x ^ ((2 * j + 1) * i) * y ^ ((2 * j + 1) * l)) % m ≡ 0
coefficients_orthogonal m k x y c i l h i_lt l_lt ne =
    elim (cases_lt i l) [
      | inl before ↦
          let l-is : i + (l - i) ≡ l = omega arith in
          ap (λ (u : ℕ). u % m) (sum_below-same (2 ^ k) (λ j. x ^ ((2 * j + 1) * i) * y ^ ((2 * j + 1) * l)) (λ j. y ^ ((2 * j + 1) * l) * x ^ ((2 * j + 1) * i)) (λ j lt. turned (x ^ ((2 * j + 1) * i)) (y ^ ((2 * j + 1) * l))))
          ∙ sym (ap (λ (p : ℕ). sum_below (2 ^ k) (λ j. y ^ ((2 * j + 1) * p) * x ^ ((2 * j + 1) * i)) % m) l-is)
          ∙ coefficients_apart m k y x i (l - i) (turned_inverse m x y h.inverse) h.backward (omega arith) (omega arith)
      | inr behind ↦
          let after : l < i = omega (arith, ne) in
          let i-is : l + (i - l) ≡ i = omega arith in
          sym (ap (λ (p : ℕ). sum_below (2 ^ k) (λ j. x ^ ((2 * j + 1) * p) * y ^ ((2 * j + 1) * l)) % m) i-is)
          ∙ coefficients_apart m k x y l (i - l) h.inverse h.forward (omega arith) (omega arith)
    ]

-- ---- inversion

-- where the rows of a are orthogonal to b but row l, which has the product n with it, n times v_l is left
inverted : (m n l : ℕ) (v : ℕ → ℕ) (a : ℕ → ℕ → ℕ) (b : ℕ → ℕ) → l < n
    → ((j : ℕ) → j < n → j ≢ l → sum_below n (λ i. a j i * b i) % m ≡ 0)
    → sum_below n (λ i. a l i * b i) % m ≡ n % m
    → sum_below n (λ i. sum_below n (λ j. v j * a j i) * b i) % m ≡ (v l * n) % m
inverted m n l v a b lt others here =
    ap (λ (u : ℕ). u % m) (
    sum_below-same n (λ i. sum_below n (λ j. v j * a j i) * b i) (λ i. sum_below n (λ j. v j * (a j i * b i))) (λ i below. inside i)
    ∙ sum_below-swap n n (λ i j. v j * (a j i * b i))
    ∙ sum_below-same n (λ j. sum_below n (λ i. v j * (a j i * b i))) (λ j. v j * sum_below n (λ i. a j i * b i)) (λ j below. sum_below-times n (v j) (λ i. a j i * b i))
    )
    ∙ sum_below-one m n l (λ j. v j * sum_below n (λ i. a j i * b i)) lt (λ j below ne. times_multiple m (v j) (sum_below n (λ i. a j i * b i)) (others j below ne))
    ∙ sym (mul-mod_second (v l) (sum_below n (λ i. a l i * b i)) m)
    ∙ ap (λ (u : ℕ). (v l * u) % m) here
    ∙ mul-mod_second (v l) n m
  where
    regrouped : (p q r : ℕ) → p * (q * r) ≡ q * (r * p)
    regrouped p q r = omega arith

    inside : (i : ℕ) → sum_below n (λ j. v j * a j i) * b i ≡ sum_below n (λ j. v j * (a j i * b i))
    inside i =
        turned (sum_below n (λ j. v j * a j i)) (b i)
        ∙ sym (sum_below-times n (b i) (λ j. v j * a j i))
        ∙ sum_below-same n (λ j. b i * (v j * a j i)) (λ j. v j * (a j i * b i)) (λ j below. regrouped (b i) (v j) (a j i))

-- the inverse of n takes n away
scaled_back : (m n c u : ℕ) → (c * n) % m ≡ 1 % m → (c * (u * n)) % m ≡ u % m
scaled_back m n c u h =
    ap (λ (w : ℕ). w % m) (regrouped c u n)
    ∙ sym (mul-mod_second u (c * n) m)
    ∙ ap (λ (w : ℕ). (u * w) % m) h
    ∙ mul-mod_second u 1 m
    ∙ ap (λ (w : ℕ). w % m) (times_one u)
  where
    regrouped : (p q r : ℕ) → p * (q * r) ≡ q * (p * r)
    regrouped p q r = omega arith

    times_one : (u : ℕ) → u * 1 ≡ u
    times_one u = omega arith

-- the values of the polynomial with the given values at the odd powers of x are the given ones
pub value_of_coefficients : (m k x y c : ℕ) (v : ℕ → ℕ) (l : ℕ) → IsTransform m k x y c → l < 2 ^ k → value_at_odd m (2 ^ k) x (coefficient_from m (2 ^ k) y c v) l ≡ v l % m
unfolding value_at_odd coefficient_from
value_of_coefficients m k x y c v l h lt =
    sum_below-mod m (2 ^ k) (λ i. (c * sum i) % m * x ^ ((2 * l + 1) * i)) (λ i. c * (sum i * x ^ ((2 * l + 1) * i))) (λ i below. mul-mod_first (c * sum i) (x ^ ((2 * l + 1) * i)) m ∙ ap (λ (u : ℕ). u % m) (regrouped c (sum i) (x ^ ((2 * l + 1) * i))))
    ∙ ap (λ (u : ℕ). u % m) (sum_below-times (2 ^ k) c (λ i. sum i * x ^ ((2 * l + 1) * i)))
    ∙ sym (mul-mod_second c (sum_below (2 ^ k) (λ i. sum i * x ^ ((2 * l + 1) * i))) m)
    ∙ ap (λ (u : ℕ). (c * u) % m) (
    inverted m (2 ^ k) l v (λ j i. y ^ ((2 * j + 1) * i)) (λ i. x ^ ((2 * l + 1) * i)) lt
    (λ j below ne. slots_orthogonal m k x y c j l h below lt ne)
    (together m (2 ^ k) y x (λ i. (2 * l + 1) * i) (turned_inverse m x y h.inverse))
    )
    ∙ mul-mod_second c (v l * 2 ^ k) m
    ∙ scaled_back m (2 ^ k) c (v l) h.scaled
  where
    sum : ℕ → ℕ
    sum i = sum_below (2 ^ k) (λ j. v j * y ^ ((2 * j + 1) * i))

    regrouped : (p q r : ℕ) → p * q * r ≡ p * (q * r)
    regrouped p q r = omega arith

-- the coefficients of the polynomial with the values that a polynomial has at the odd powers of x are that polynomial's
pub coefficient_of_values : (m k x y c : ℕ) (p : ℕ → ℕ) (l : ℕ) → IsTransform m k x y c → l < 2 ^ k → coefficient_from m (2 ^ k) y c (value_at_odd m (2 ^ k) x p) l ≡ p l % m
unfolding value_at_odd coefficient_from
coefficient_of_values m k x y c p l h lt =
    sym (mul-mod_second c (sum_below (2 ^ k) (λ j. sum_below (2 ^ k) (λ i. p i * x ^ ((2 * j + 1) * i)) % m * y ^ ((2 * j + 1) * l))) m)
    ∙ ap (λ (u : ℕ). (c * u) % m) (
    sum_below-mod m (2 ^ k) (λ j. sum_below (2 ^ k) (λ i. p i * x ^ ((2 * j + 1) * i)) % m * y ^ ((2 * j + 1) * l)) (λ j. sum_below (2 ^ k) (λ i. p i * x ^ ((2 * j + 1) * i)) * y ^ ((2 * j + 1) * l)) (λ j below. mul-mod_first (sum_below (2 ^ k) (λ i. p i * x ^ ((2 * j + 1) * i))) (y ^ ((2 * j + 1) * l)) m)
    ∙ inverted m (2 ^ k) l p (λ i j. x ^ ((2 * j + 1) * i)) (λ j. y ^ ((2 * j + 1) * l)) lt
    (λ i below ne. coefficients_orthogonal m k x y c i l h below lt ne)
    (together m (2 ^ k) x y (λ j. (2 * j + 1) * l) h.inverse)
    )
    ∙ mul-mod_second c (p l * 2 ^ k) m
    ∙ scaled_back m (2 ^ k) c (p l) h.scaled
