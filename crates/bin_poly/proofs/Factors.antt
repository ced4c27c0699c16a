-- Products with (x - a), and quotients by it.
use Rattle.std.proofs.Common.{◌≡◌, ℕ, zero, suc, ◌+◌, ◌-◌, ◌*◌, ◌/◌, ◌%◌, ◌<◌, ◌≤◌, ◌⊎◌, refl, ap, ◌∙◌, sym, inl, inr, arith}
use Rattle.std.proofs.lemmas.Bool.{cases_lt}
use Rattle.std.proofs.Math.Nat.{div-add-mod, mod-eq_of_lt, mod-mod, add-mul-mod_self_left}
use Rattle.psi_residue.proofs.Congruences.{cancel, sum_congruent, times_congruent, plus_congruent, reduced_inside}
use Rattle.bin_poly.specs.Roots.{times_root_coefficient}
use Rattle.bin_poly.specs.Horner.{horner}
use Rattle.bin_poly.proofs.Horner.{nested-none, nested-more, nested-longer, horner-shifted}

pub times_none : (c : ℕ) → c * 0 ≡ 0
times_none c = omega arith

pub product-first : (a : ℕ) (f : ℕ → ℕ) → times_root_coefficient a f 0 ≡ (65537 - a) * f 0 % 65537
unfolding times_root_coefficient
product-first a f = refl

pub product-next : (a : ℕ) (f : ℕ → ℕ) (k : ℕ) → times_root_coefficient a f (k + 1) ≡ (f k + (65537 - a) * f (k + 1)) % 65537
unfolding times_root_coefficient
product-next a f k = let e : k + 1 ≡ suc k = omega arith in ap (times_root_coefficient a f) e ∙ ap (λ (j : ℕ). (f k + (65537 - a) * f j) % 65537) (sym e)

-- the coefficient as the loop has it, with the coefficient before
pub product-at : (a : ℕ) (f : ℕ → ℕ) (k low : ℕ) → (k ≡ 0 → low ≡ 0) → ((i : ℕ) → i + 1 ≡ k → low ≡ f i)
    → ((65537 - a) * f k + low) % 65537 ≡ times_root_coefficient a f k
unfolding times_root_coefficient
product-at a f zero low none one =
    let nothing : low ≡ 0 = none refl in
    let e : (65537 - a) * f 0 + 0 ≡ (65537 - a) * f 0 = omega arith in
    ap (λ (u : ℕ). ((65537 - a) * f 0 + u) % 65537) nothing ∙ ap (λ (u : ℕ). u % 65537) e
product-at a f (suc k) low none one =
    let before : low ≡ f k = one k (omega arith) in
    let e : (65537 - a) * f (suc k) + f k ≡ f k + (65537 - a) * f (suc k) = omega arith in
    ap (λ (u : ℕ). ((65537 - a) * f (suc k) + u) % 65537) before ∙ ap (λ (u : ℕ). u % 65537) e

-- a product taken away is the product with -a added
taken : (b a high low : ℕ) → b + a ≡ 65537 → (low + (65537 - high * a % 65537)) % 65537 ≡ (b * high + low) % 65537
taken b a high low e =
    let product : 65537 * (high * a / 65537) + high * a % 65537 ≡ high * a = div-add-mod (high * a) 65537 in
    let both : (b + a) * high ≡ 65537 * high = ap (λ (u : ℕ). u * high) e in
    let whole : low + (65537 - high * a % 65537) + 65537 * high ≡ b * high + low + 65537 * (high * a / 65537 + 1) = omega arith in
    sym (add-mul-mod_self_left (low + (65537 - high * a % 65537)) 65537 high)
    ∙ ap (λ (u : ℕ). u % 65537) whole
    ∙ add-mul-mod_self_left (b * high + low) 65537 (high * a / 65537 + 1)

-- the coefficient as the loop writes it
pub product-written : (a product high low k r : ℕ) (f : ℕ → ℕ) → a ≤ 65537 → high ≡ f k → (k ≡ 0 → low ≡ 0) → ((i : ℕ) → i + 1 ≡ k → low ≡ f i)
    → product ≡ high * a % 65537 → r ≡ (low + (65537 - product)) % 65537 → r ≡ times_root_coefficient a f k
product-written a product high low k r f small high-is none one product-is r-is =
    r-is
    ∙ ap (λ (u : ℕ). (low + (65537 - u)) % 65537) product-is
    ∙ taken (65537 - a) a high low (omega arith)
    ∙ ap (λ (u : ℕ). ((65537 - a) * u + low) % 65537) high-is
    ∙ product-at a f k low none one

pub product-below : (a : ℕ) (f : ℕ → ℕ) (k : ℕ) → times_root_coefficient a f k < 65537
unfolding times_root_coefficient
product-below a f zero = omega arith
product-below a f (suc k) = omega arith

pub product-same : (a : ℕ) (f g : ℕ → ℕ) (k : ℕ) → ((i : ℕ) → f i ≡ g i) → times_root_coefficient a f k ≡ times_root_coefficient a g k
unfolding times_root_coefficient
product-same a f g zero same = ap (λ (u : ℕ). (65537 - a) * u % 65537) (same 0)
product-same a f g (suc k) same =
    ap (λ (u : ℕ). (u + (65537 - a) * f (suc k)) % 65537) (same k)
    ∙ ap (λ (u : ℕ). (g k + (65537 - a) * u) % 65537) (same (suc k))

-- past the degree and one more the product is 0
pub product-past : (a : ℕ) (f : ℕ → ℕ) (n k : ℕ) → ((i : ℕ) → n ≤ i → f i ≡ 0) → n < k → times_root_coefficient a f k ≡ 0
unfolding times_root_coefficient
product-past a f n zero past lt = absurd (omega arith)
product-past a f n (suc k) past lt =
    ap (λ (u : ℕ). (u + (65537 - a) * f (suc k)) % 65537) (past k (omega arith))
    ∙ ap (λ (u : ℕ). (0 + (65537 - a) * u) % 65537) (past (suc k) (omega arith))
    ∙ ap (λ (u : ℕ). u % 65537) (none (65537 - a))
  where
    none : (c : ℕ) → 0 + c * 0 ≡ 0
    none c = omega arith

exchange-first : (c d p : ℕ) → c * (d * p % 65537) % 65537 ≡ d * (c * p % 65537) % 65537
exchange-first c d p =
    let e : c * (d * p) ≡ d * (c * p) = omega arith in
    times_congruent 65537 c (d * p % 65537) (d * p) (mod-mod (d * p) 65537)
    ∙ ap (λ (u : ℕ). u % 65537) e
    ∙ sym (times_congruent 65537 d (c * p % 65537) (c * p) (mod-mod (c * p) 65537))

exchange-second : (c d p q : ℕ) → (d * p % 65537 + c * ((p + d * q) % 65537)) % 65537 ≡ (c * p % 65537 + d * ((p + c * q) % 65537)) % 65537
exchange-second c d p q =
    let e : d * p + c * (p + d * q) ≡ c * p + d * (p + c * q) = omega arith in
    reduced_inside 65537 (d * p) c (p + d * q) ∙ ap (λ (u : ℕ). u % 65537) e ∙ sym (reduced_inside 65537 (c * p) d (p + c * q))

exchange-next : (c d p q r : ℕ)
    → ((p + d * q) % 65537 + c * ((q + d * r) % 65537)) % 65537 ≡ ((p + c * q) % 65537 + d * ((q + c * r) % 65537)) % 65537
exchange-next c d p q r =
    let e : p + d * q + c * (q + d * r) ≡ p + c * q + d * (q + c * r) = omega arith in
    reduced_inside 65537 (p + d * q) c (q + d * r) ∙ ap (λ (u : ℕ). u % 65537) e ∙ sym (reduced_inside 65537 (p + c * q) d (q + c * r))

-- the coefficients that were written, and those past them
pub product-whole : (a : ℕ) (f g : ℕ → ℕ) (n : ℕ) → ((i : ℕ) → n ≤ i → f i ≡ 0)
    → ((i : ℕ) → i < n + 1 → g i ≡ times_root_coefficient a f i) → ((i : ℕ) → n + 1 ≤ i → g i ≡ f i) → (k : ℕ) → g k ≡ times_root_coefficient a f k
product-whole a f g n past done left k =
    elim (cases_lt k (n + 1)) [
      | inl lt ↦ done k lt
      | inr ge ↦ left k ge ∙ past k (omega arith) ∙ sym (product-past a f n k past (omega arith))
    ]

-- the order of two factors does not matter
pub product-exchange : (a b : ℕ) (f : ℕ → ℕ) (k : ℕ)
    → times_root_coefficient a (times_root_coefficient b f) k ≡ times_root_coefficient b (times_root_coefficient a f) k
unfolding times_root_coefficient
product-exchange a b f zero = exchange-first (65537 - a) (65537 - b) (f 0)
product-exchange a b f (suc zero) = exchange-second (65537 - a) (65537 - b) (f 0) (f 1)
product-exchange a b f (suc (suc k)) = exchange-next (65537 - a) (65537 - b) (f k) (f (suc k)) (f (suc (suc k)))

-- the value of the product is (x - a) times that of the polynomial
pub product-value : (a : ℕ) (f : ℕ → ℕ) (x n : ℕ) → ((i : ℕ) → n ≤ i → f i ≡ 0)
    → horner (times_root_coefficient a f) x (n + 1) 0 % 65537 ≡ ((x + (65537 - a)) * horner f x n 0) % 65537
product-value a f x n past =
    ap (λ (u : ℕ). u % 65537) (nested-more (times_root_coefficient a f) (λ i. x) n 0)
    ∙ sum_congruent 65537 (times_root_coefficient a f 0) ((65537 - a) * f 0)
    (x * horner (times_root_coefficient a f) x n (0 + 1)) (x * (horner f x n 0 + (65537 - a) * horner f x n (0 + 1)))
    (ap (λ (u : ℕ). u % 65537) (product-first a f) ∙ mod-mod ((65537 - a) * f 0) 65537)
    (times_congruent 65537 x (horner (times_root_coefficient a f) x n (0 + 1)) (horner f x n 0 + (65537 - a) * horner f x n (0 + 1))
    (horner-shifted 65537 (65537 - a) x f (times_root_coefficient a f) n 0 next))
    ∙ ap (λ (u : ℕ). u % 65537) (regrouped (65537 - a) (f 0) (horner f x n 0) (horner f x n (0 + 1)))
    ∙ ap (λ (u : ℕ). (x * horner f x n 0 + (65537 - a) * u) % 65537) (sym (nested-more f (λ i. x) n 0) ∙ nested-longer f (λ i. x) n 1 0 (λ i low. past i (omega arith)))
    ∙ ap (λ (u : ℕ). u % 65537) (joined (65537 - a) (horner f x n 0))
  where
    next : (i : ℕ) → times_root_coefficient a f (i + 1) % 65537 ≡ (f i + (65537 - a) * f (i + 1)) % 65537
    next i = ap (λ (u : ℕ). u % 65537) (product-next a f i) ∙ mod-mod (f i + (65537 - a) * f (i + 1)) 65537

    regrouped : (c p u v : ℕ) → c * p + x * (u + c * v) ≡ x * u + c * (p + x * v)
    regrouped c p u v = omega arith

    joined : (c u : ℕ) → x * u + c * u ≡ (x + c) * u
    joined c u = omega arith

-- two polynomials that are 0 from n on, with one product, are congruent
product-decides-below : (a : ℕ) (f g : ℕ → ℕ) (n : ℕ) → f n % 65537 ≡ g n % 65537
    → ((i : ℕ) → times_root_coefficient a f i ≡ times_root_coefficient a g i)
    → (j k : ℕ) → k + j ≡ n → f k % 65537 ≡ g k % 65537
product-decides-below a f g n last same zero k e =
    let at : n ≡ k = omega arith in
    ap (λ (u : ℕ). f u % 65537) (sym at) ∙ last ∙ ap (λ (u : ℕ). g u % 65537) at
product-decides-below a f g n last same (suc j) k e =
    let c : ℕ = 65537 - a in
    let next = product-decides-below a f g n last same j (k + 1) (omega arith) in
    let here : (f k + (65537 - a) * f (k + 1)) % 65537 ≡ (g k + (65537 - a) * g (k + 1)) % 65537
    = sym (product-next a f k) ∙ same (k + 1) ∙ product-next a g k in
    cancel 65536 (f k) (g k) ((65537 - a) * f (k + 1))
    (here ∙ plus_congruent 65537 (g k) ((65537 - a) * g (k + 1)) ((65537 - a) * f (k + 1)) (times_congruent 65537 (65537 - a) (g (k + 1)) (f (k + 1)) (sym next)))

-- a polynomial is decided by its product with (x - a)
pub product-decides : (a : ℕ) (f g : ℕ → ℕ) (n : ℕ) → ((i : ℕ) → n ≤ i → f i ≡ 0) → ((i : ℕ) → n ≤ i → g i ≡ 0)
    → ((i : ℕ) → f i < 65537) → ((i : ℕ) → g i < 65537)
    → ((i : ℕ) → times_root_coefficient a f i ≡ times_root_coefficient a g i) → (k : ℕ) → f k ≡ g k
product-decides a f g n f-past g-past f-below g-below same k =
    elim (cases_lt k n) [
      | inl lt ↦
          let last : f n % 65537 ≡ g n % 65537 = ap (λ (u : ℕ). u % 65537) (f-past n (omega arith) ∙ sym (g-past n (omega arith))) in
          let e : k + (n - k) ≡ n = omega arith in
          sym (mod-eq_of_lt (f-below k)) ∙ product-decides-below a f g n last same (n - k) k e ∙ mod-eq_of_lt (g-below k)
      | inr ge ↦ f-past k ge ∙ sym (g-past k ge)
    ]

-- coefficient k of the quotient by (x - a) of the polynomial with the n coefficients f, by synthetic division
unfoldable pub quotient : (a : ℕ) → (ℕ → ℕ) → (n k : ℕ) → ℕ
quotient a f n k = horner f a (n - (k + 1)) (k + 1) % 65537

pub quotient-below : (a : ℕ) (f : ℕ → ℕ) (n k : ℕ) → quotient a f n k < 65537
unfolding quotient
quotient-below a f n k = omega arith

pub quotient-is : (a : ℕ) (f : ℕ → ℕ) (n k : ℕ) → quotient a f n k ≡ horner f a (n - (k + 1)) (k + 1) % 65537
unfolding quotient
quotient-is a f n k = refl

pub quotient-past : (a : ℕ) (f : ℕ → ℕ) (n k : ℕ) → n ≤ k + 1 → quotient a f n k ≡ 0
unfolding quotient
quotient-past a f n k le =
    let none : n - (k + 1) ≡ 0 = omega arith in
    ap (λ (m : ℕ). horner f a m (k + 1) % 65537) none ∙ ap (λ (u : ℕ). u % 65537) (nested-none f (λ i. a) (k + 1))

-- the value from coefficient k on, less the root's part
quotient-step : (a : ℕ) → a ≤ 65537 → (f : ℕ → ℕ) (m k : ℕ)
    → (horner f a (m + 1) k % 65537 + (65537 - a) * (horner f a m (k + 1) % 65537)) % 65537 ≡ f k % 65537
quotient-step a small f m k =
    reduced_inside 65537 (horner f a (m + 1) k) (65537 - a) (horner f a m (k + 1))
    ∙ ap (λ (u : ℕ). (u + (65537 - a) * horner f a m (k + 1)) % 65537) (nested-more f (λ i. a) m k)
    ∙ ap (λ (u : ℕ). u % 65537) (joined (65537 - a) (omega arith) (horner f a m (k + 1)))
    ∙ add-mul-mod_self_left (f k) 65537 (horner f a m (k + 1))
  where
    joined : (c : ℕ) → a + c ≡ 65537 → (u : ℕ) → f k + a * u + c * u ≡ f k + 65537 * u
    joined c e u =
        let product : (a + c) * u ≡ 65537 * u = ap (λ (w : ℕ). w * u) e in
        omega arith

-- where a is a root, the quotient times (x - a) is the polynomial
pub quotient-divides : (a : ℕ) → a ≤ 65537 → (f : ℕ → ℕ) (n : ℕ) → ((i : ℕ) → n ≤ i → f i ≡ 0) → horner f a n 0 % 65537 ≡ 0
    → (k : ℕ) → times_root_coefficient a (quotient a f n) k ≡ f k % 65537
quotient-divides a small f zero past root k =
    product-past-all k ∙ sym (ap (λ (u : ℕ). u % 65537) (past k (omega arith)))
  where
    nothing : (i : ℕ) → quotient a f 0 i ≡ 0
    nothing i = quotient-past a f 0 i (omega arith)

    product-past-all : (k : ℕ) → times_root_coefficient a (quotient a f 0) k ≡ 0
    product-past-all zero = product-first a (quotient a f 0) ∙ ap (λ (u : ℕ). (65537 - a) * u % 65537) (nothing 0) ∙ ap (λ (u : ℕ). u % 65537) (times_none (65537 - a))
    product-past-all (suc k) = product-past a (quotient a f 0) 0 (suc k) (λ i low. nothing i) (omega arith)
quotient-divides a small f (suc n) past root zero =
    let none : suc n - (0 + 1) ≡ n = omega arith in
    let shape : suc n ≡ n + 1 = omega arith in
    let is_root : horner f a (n + 1) 0 % 65537 ≡ 0 = ap (λ (m : ℕ). horner f a m 0 % 65537) (sym shape) ∙ root in
    product-first a (quotient a f (suc n))
    ∙ ap (λ (u : ℕ). (65537 - a) * u % 65537) (quotient-is a f (suc n) 0 ∙ ap (λ (m : ℕ). horner f a m (0 + 1) % 65537) none)
    ∙ with_zero ((65537 - a) * (horner f a n (0 + 1) % 65537))
    ∙ ap (λ (u : ℕ). (u + (65537 - a) * (horner f a n (0 + 1) % 65537)) % 65537) (sym is_root)
    ∙ quotient-step a small f n 0
  where
    with_zero : (u : ℕ) → u % 65537 ≡ (0 + u) % 65537
    with_zero u = omega arith
quotient-divides a small f (suc n) past root (suc k) =
    let shape : suc k ≡ k + 1 = omega arith in
    ap (times_root_coefficient a (quotient a f (suc n))) shape
    ∙ product-next a (quotient a f (suc n)) k
    ∙ ap (λ (u : ℕ). (u + (65537 - a) * quotient a f (suc n) (k + 1)) % 65537) (quotient-is a f (suc n) k)
    ∙ by_place (cases_lt k n)
    ∙ ap (λ (j : ℕ). f j % 65537) (sym shape)
  where
    none : (c : ℕ) → 0 + c * 0 ≡ 0
    none c = omega arith

    by_place : (k < n) ⊎ (n ≤ k)
        → (horner f a (suc n - (k + 1)) (k + 1) % 65537 + (65537 - a) * quotient a f (suc n) (k + 1)) % 65537 ≡ f (k + 1) % 65537
    by_place (inl lt) =
        let upper : suc n - (k + 1) ≡ n - (k + 1) + 1 = omega arith in
        let lower : suc n - (k + 1 + 1) ≡ n - (k + 1) = omega arith in
        ap (λ (m : ℕ). (horner f a m (k + 1) % 65537 + (65537 - a) * quotient a f (suc n) (k + 1)) % 65537) upper
        ∙ ap (λ (u : ℕ). (horner f a (n - (k + 1) + 1) (k + 1) % 65537 + (65537 - a) * u) % 65537)
        (quotient-is a f (suc n) (k + 1) ∙ ap (λ (m : ℕ). horner f a m (k + 1 + 1) % 65537) lower)
        ∙ quotient-step a small f (n - (k + 1)) (k + 1)
    by_place (inr ge) =
        let upper : suc n - (k + 1) ≡ 0 = omega arith in
        ap (λ (m : ℕ). (horner f a m (k + 1) % 65537 + (65537 - a) * quotient a f (suc n) (k + 1)) % 65537) upper
        ∙ ap (λ (u : ℕ). (u % 65537 + (65537 - a) * quotient a f (suc n) (k + 1)) % 65537) (nested-none f (λ i. a) (k + 1))
        ∙ ap (λ (u : ℕ). (0 + (65537 - a) * u) % 65537) (quotient-past a f (suc n) (k + 1) (omega arith))
        ∙ ap (λ (u : ℕ). u % 65537) (none (65537 - a))
        ∙ ap (λ (u : ℕ). u % 65537) (sym (past (k + 1) (omega arith)))
