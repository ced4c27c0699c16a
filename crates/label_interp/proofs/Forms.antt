-- Newton's form: one point more, and its brackets opened from within.
use Rattle.std.proofs.Common.{◌≡◌, ℕ, zero, suc, ◌+◌, ◌-◌, ◌*◌, ◌%◌, ◌<◌, ◌≤◌, List, length, map, slice_index, get_or, set, eqb, ◌⊎◌, refl, ap, subst, ◌∙◌, sym, inl, inr, arith}
use Rattle.std.specs.List.{All, IsDistinct}
use Rattle.std.proofs.lemmas.Bool.{cases_lt, cases_eq, eqb-false}
use Rattle.std.proofs.lemmas.Nat.{mul-mod_second}
use Rattle.std.proofs.lemmas.List.{get_or-set_same, get_or-set_other, length-map}
use Rattle.std.proofs.Math.ListN.{get_or-map}
use Rattle.std.proofs.lemmas.Map.Keys.{apart_from_distinct}
use Rattle.std.proofs.Math.Nat.{mod-eq_of_lt, mod_self, add-mul-mod_self_left, mod-mod}
use Rattle.bin_poly.specs.Horner.{nested, horner}
use Rattle.psi_residue.proofs.Congruences.{sum_congruent, product_congruent, times_congruent, plus_congruent}
use Rattle.bin_poly.proofs.Units.{nonzero_product, difference-positive}
use Rattle.bin_poly.proofs.Horner.{nested-none, nested-more, nested-congruent}
use Rattle.label_interp.specs.Points.{place_at, value_of, newton_value, product_from, newton_product}

zero_times : (u : ℕ) → 0 * u % 65537 ≡ 0
zero_times u = let e : 0 * u ≡ 0 = omega arith in ap (λ (v : ℕ). v % 65537) e

times_zero : (u : ℕ) → u * 0 % 65537 ≡ 0
times_zero u = let e : u * 0 ≡ 0 = omega arith in ap (λ (v : ℕ). v % 65537) e

plus_zero : (u : ℕ) → u + 0 ≡ u
plus_zero u = omega arith

-- a point's first number among the first numbers
pub place-mapped : (points : List (ℕ × ℕ)) (i : ℕ) → get_or (map (λ p. p.0) points) i 0 ≡ place_at points i
place-mapped points i = get_or-map (λ (p : ℕ × ℕ). p.0) points i (0, 0)

pub product-none : (g : ℕ → ℕ) (k : ℕ) → product_from g 0 k ≡ 1
unfolding product_from
product-none g k = refl

pub product-more : (g : ℕ → ℕ) (m k : ℕ) → product_from g (m + 1) k ≡ g k * product_from g m (k + 1)
unfolding product_from
product-more g m k = let e : m + 1 ≡ suc m = omega arith in ap (λ (n : ℕ). product_from g n k) e

-- one coefficient more
pub nested-last : (c g : ℕ → ℕ) (m k : ℕ) → nested c g (m + 1) k ≡ nested c g m k + c (k + m) * product_from g m k
nested-last c g zero k =
    let shape : k ≡ k + 0 = omega arith in
    let before : nested c g (0 + 1) k ≡ c k + g k * nested c g 0 (k + 1) = nested-more c g 0 k in
    let inner : g k * nested c g 0 (k + 1) ≡ g k * 0 = ap (λ (u : ℕ). g k * u) (nested-none c g (k + 1)) in
    let outer : nested c g 0 k ≡ 0 = nested-none c g k in
    let last : c (k + 0) * product_from g 0 k ≡ c k * 1 = ap (λ (j : ℕ). c j * product_from g 0 k) (sym shape) ∙ ap (λ (u : ℕ). c k * u) (product-none g k) in
    omega (arith, before, inner, outer, last)
nested-last c g (suc m) k =
    let shape : suc m ≡ m + 1 = omega arith in
    let place : k + 1 + m ≡ k + suc m = omega arith in
    ap (λ (n : ℕ). nested c g (n + 1) k) shape
    ∙ nested-more c g (m + 1) k
    ∙ ap (λ (u : ℕ). c k + g k * u) (nested-last c g m (k + 1))
    ∙ ap (λ (j : ℕ). c k + g k * (nested c g m (k + 1) + c j * product_from g m (k + 1))) place
    ∙ regrouped (c k) (g k) (nested c g m (k + 1)) (c (k + suc m)) (product_from g m (k + 1))
    ∙ sym (ap (λ (u : ℕ). u + c (k + suc m) * (g k * product_from g m (k + 1))) (nested-more c g m k))
    ∙ sym (ap (λ (u : ℕ). nested c g (m + 1) k + c (k + suc m) * u) (product-more g m k))
    ∙ sym (ap (λ (n : ℕ). nested c g n k + c (k + suc m) * product_from g n k) shape)
  where
    regrouped : (p q a d b : ℕ) → p + q * (a + d * b) ≡ p + q * a + d * (q * b)
    regrouped p q a d b = omega arith

-- factors that are not 0 have a product that is not
pub product-positive : (g : ℕ → ℕ) (m k : ℕ) → ((i : ℕ) → k ≤ i → i < k + m → 0 < g i % 65537) → 0 < product_from g m k % 65537
unfolding product_from
product-positive g zero k each = omega arith
product-positive g (suc m) k each =
    nonzero_product (g k) (product_from g m (k + 1)) (each k (omega arith) (omega arith))
    (product-positive g m (k + 1) (λ i low high. each i (omega arith) (omega arith)))

-- one factor that is 0 makes the product 0
pub product-zero : (g : ℕ → ℕ) (m k i : ℕ) → k ≤ i → i < k + m → g i % 65537 ≡ 0 → product_from g m k % 65537 ≡ 0
unfolding product_from
product-zero g zero k i low high none = absurd (omega arith)
product-zero g (suc m) k i low high none =
    elim (cases_eq i k) [
      | inl same ↦
          product_congruent 65537 (g k) 0 (product_from g m (k + 1)) (product_from g m (k + 1)) (ap (λ (j : ℕ). g j % 65537) (sym same) ∙ none) refl
          ∙ zero_times (product_from g m (k + 1))
      | inr other ↦
          times_congruent 65537 (g k) (product_from g m (k + 1)) 0 (product-zero g m (k + 1) i (omega (arith, other)) (omega arith) none)
          ∙ times_zero (g k)
    ]

-- the coefficient with which the form takes a value
pub coefficient-takes : (y v p s q w r : ℕ) → y < 65537 → s < 65537 → s ≡ v % 65537 → q ≡ p % 65537 → (q * w) % 65537 ≡ 1
    → r ≡ ((y + (65537 - s)) * w + 0) % 65537 → (v + r * p) % 65537 ≡ y
coefficient-takes y v p s q w r y-small s-small s-is q-is inverts r-is =
    sum_congruent 65537 v s (r * p) (y + (65537 - s)) (sym (ap (λ (u : ℕ). u % 65537) s-is ∙ mod-mod v 65537)) product
    ∙ ap (λ (u : ℕ). u % 65537) whole
    ∙ add-mul-mod_self_left y 65537 1
    ∙ mod-eq_of_lt y-small
  where
    whole : s + (y + (65537 - s)) ≡ y + 65537 * 1
    whole = omega arith

    regrouped : (d : ℕ) → (d * w + 0) * q ≡ d * (q * w)
    regrouped d = omega arith

    one : (d : ℕ) → d * 1 ≡ d
    one d = omega arith

    product : (r * p) % 65537 ≡ (y + (65537 - s)) % 65537
    product =
        product_congruent 65537 r ((y + (65537 - s)) * w + 0) p q
        (ap (λ (u : ℕ). u % 65537) r-is ∙ mod-mod ((y + (65537 - s)) * w + 0) 65537)
        (sym (ap (λ (u : ℕ). u % 65537) q-is ∙ mod-mod p 65537))
        ∙ ap (λ (u : ℕ). u % 65537) (regrouped (y + (65537 - s)))
        ∙ times_congruent 65537 (y + (65537 - s)) (q * w) 1 inverts
        ∙ ap (λ (u : ℕ). u % 65537) (one (y + (65537 - s)))

-- the first numbers of two points differ
pub places-differ : (points : List (ℕ × ℕ)) (i j : ℕ) → IsDistinct eqb (map (λ p. p.0) points) → i < j → j < length points
    → place_at points i ≡ place_at points j → ⊥
places-differ points i j distinct lt within same =
    eqb-false (get_or (map (λ p. p.0) points) i 0) (get_or (map (λ p. p.0) points) j 0)
    (apart_from_distinct eqb (map (λ p. p.0) points) i j 0 distinct lt (omega (arith, length-map points (λ (p : ℕ × ℕ). p.0))))
    (place-mapped points i ∙ same ∙ sym (place-mapped points j))

-- the product of the differences to the points before is not 0
pub newton_product-positive : (points : List (ℕ × ℕ)) (i : ℕ) → i < length points
    → All (λ p. (p.0 < 65537) × (p.1 < 65537)) points → IsDistinct eqb (map (λ p. p.0) points)
    → 0 < newton_product points (place_at points i) i 0 % 65537
newton_product-positive points i within below distinct =
    product-positive (λ l. place_at points i + (65537 - place_at points l)) i 0 (λ l low high.
    difference-positive (place_at points i) (place_at points l) ((below i (0, 0) within).0) ((below l (0, 0) (omega arith)).0)
    (λ same. places-differ points l i distinct (omega arith) within (sym same)))

-- one point more
pub form-step : (points : List (ℕ × ℕ)) (c : List ℕ) (i r : ℕ) → i < length points → i < length c
    → All (λ p. (p.0 < 65537) × (p.1 < 65537)) points
    → (newton_value points (slice_index c) (place_at points i) i 0 + r * newton_product points (place_at points i) i 0) % 65537 ≡ value_of points i
    → ((j : ℕ) → j < i → newton_value points (slice_index c) (place_at points j) i 0 % 65537 ≡ value_of points j)
    → (j : ℕ) → j < i + 1 → newton_value points (slice_index (set c i r)) (place_at points j) (i + 1) 0 % 65537 ≡ value_of points j
form-step points c i r within room below takes before j lt =
    ap (λ (u : ℕ). u % 65537) (nested-last (slice_index (set c i r)) (λ l. place_at points j + (65537 - place_at points l)) i 0)
    ∙ sum_congruent 65537 (newton_value points (slice_index (set c i r)) (place_at points j) i 0) (newton_value points (slice_index c) (place_at points j) i 0)
    (slice_index (set c i r) (0 + i) * newton_product points (place_at points j) i 0) (r * newton_product points (place_at points j) i 0)
    (nested-congruent 65537 (slice_index (set c i r)) (slice_index c) (λ l. place_at points j + (65537 - place_at points l)) i 0
    (λ l low high. ap (λ (u : ℕ). u % 65537) (get_or-set_other c i l r 0 (λ same. absurd (omega (arith, same))))))
    (ap (λ (u : ℕ). (u * newton_product points (place_at points j) i 0) % 65537) written)
    ∙ by_place (cases_lt j i)
  where
    shape : 0 + i ≡ i
    shape = omega arith

    written : slice_index (set c i r) (0 + i) ≡ r
    written = ap (slice_index (set c i r)) shape ∙ get_or-set_same c i r 0 room

    by_place : (j < i) ⊎ (i ≤ j) → (newton_value points (slice_index c) (place_at points j) i 0 + r * newton_product points (place_at points j) i 0) % 65537 ≡ value_of points j
    by_place (inl less) =
        let own : place_at points j + (65537 - place_at points j) ≡ 65537 = omega (arith, (below j (0, 0) (omega arith)).0) in
        let none = product-zero (λ l. place_at points j + (65537 - place_at points l)) i 0 j (omega arith) (omega arith) (ap (λ (u : ℕ). u % 65537) own ∙ mod_self 65537) in
        plus_congruent 65537 (newton_value points (slice_index c) (place_at points j) i 0) (r * newton_product points (place_at points j) i 0) 0
        (times_congruent 65537 r (newton_product points (place_at points j) i 0) 0 none ∙ times_zero r)
        ∙ ap (λ (u : ℕ). u % 65537) (plus_zero (newton_value points (slice_index c) (place_at points j) i 0))
        ∙ before j less
    by_place (inr ge) =
        let same : j ≡ i = omega arith in
        ap (λ (l : ℕ). (newton_value points (slice_index c) (place_at points l) i 0 + r * newton_product points (place_at points l) i 0) % 65537) same
        ∙ takes
        ∙ sym (ap (value_of points) same)

-- one bracket opened
pub bracket-opened : (n x c : ℕ) (f h : ℕ → ℕ) (m k : ℕ) → ((i : ℕ) → k ≤ i → i < k + m → h i % n ≡ (c * f (i + 1) + f i) % n) → h (k + m) ≡ f (k + m)
    → horner h x (m + 1) k % n ≡ (f k + (x + c) * horner f x m (k + 1)) % n
bracket-opened n x c f h zero k each last =
    let shape : k + 0 ≡ k = omega arith in
    let here : h k ≡ f k = sym (ap h shape) ∙ last ∙ ap f shape in
    ap (λ (u : ℕ). u % n)
    (nested-more h (λ i. x) 0 k
    ∙ ap (λ (u : ℕ). h k + x * u) (nested-none h (λ i. x) (k + 1))
    ∙ ap (λ (u : ℕ). u + x * 0) here
    ∙ zeros (f k)
    ∙ sym (ap (λ (u : ℕ). f k + (x + c) * u) (nested-none f (λ i. x) (k + 1))))
  where
    zeros : (p : ℕ) → p + x * 0 ≡ p + (x + c) * 0
    zeros p = omega arith
bracket-opened n x c f h (suc m) k each last =
    let shape : suc m ≡ m + 1 = omega arith in
    let place : k + 1 + m ≡ k + suc m = omega arith in
    ap (λ (j : ℕ). horner h x (j + 1) k % n) shape
    ∙ ap (λ (u : ℕ). u % n) (nested-more h (λ i. x) (m + 1) k)
    ∙ sum_congruent n (h k) (c * f (k + 1) + f k) (x * horner h x (m + 1) (k + 1)) (x * (f (k + 1) + (x + c) * horner f x m (k + 1 + 1)))
    (each k (omega arith) (omega arith))
    (times_congruent n x (horner h x (m + 1) (k + 1)) (f (k + 1) + (x + c) * horner f x m (k + 1 + 1))
    (bracket-opened n x c f h m (k + 1) (λ i low high. each i (omega arith) (omega arith)) (ap h place ∙ last ∙ sym (ap f place))))
    ∙ ap (λ (u : ℕ). u % n) (regrouped (f k) (f (k + 1)) (horner f x m (k + 1 + 1)) ∙ sym (ap (λ (u : ℕ). f k + (x + c) * u) (nested-more f (λ i. x) m (k + 1))))
    ∙ sym (ap (λ (j : ℕ). (f k + (x + c) * horner f x j (k + 1)) % n) shape)
  where
    regrouped : (p q b : ℕ) → c * q + p + x * (q + (x + c) * b) ≡ p + (x + c) * (q + x * b)
    regrouped p q b = omega arith

-- the values of the polynomial within the bracket that is opened next
pub expand-step : (points : List (ℕ × ℕ)) (form before after : List ℕ) (whole i : ℕ) → i < whole
    → ((k : ℕ) → i ≤ k → k + 1 < whole → slice_index after k ≡ ((65537 - place_at points i) * slice_index before (k + 1) + slice_index before k) % 65537)
    → ((k : ℕ) → whole ≤ k + 1 → slice_index after k ≡ slice_index before k)
    → slice_index before i ≡ slice_index form i
    → ((x : ℕ) → horner (slice_index before) x (whole - (i + 1)) (i + 1) % 65537 ≡ newton_value points (slice_index form) x (whole - (i + 1)) (i + 1) % 65537)
    → (x : ℕ) → horner (slice_index after) x (whole - i) i % 65537 ≡ newton_value points (slice_index form) x (whole - i) i % 65537
expand-step points form before after whole i within opened kept here values x =
    let m : ℕ = whole - (i + 1) in
    let shape : whole - (i + 1) + 1 ≡ whole - i = omega arith in
    sym (ap (λ (j : ℕ). horner (slice_index after) x j i % 65537) shape)
    ∙ bracket-opened 65537 x (65537 - place_at points i) (slice_index before) (slice_index after) (whole - (i + 1)) i
    (λ k low high. ap (λ (u : ℕ). u % 65537) (opened k low (omega arith)) ∙ mod-mod ((65537 - place_at points i) * slice_index before (k + 1) + slice_index before k) 65537)
    (kept (i + (whole - (i + 1))) (omega arith))
    ∙ sum_congruent 65537 (slice_index before i) (slice_index form i)
    ((x + (65537 - place_at points i)) * horner (slice_index before) x (whole - (i + 1)) (i + 1))
    ((x + (65537 - place_at points i)) * newton_value points (slice_index form) x (whole - (i + 1)) (i + 1))
    (ap (λ (u : ℕ). u % 65537) here)
    (times_congruent 65537 (x + (65537 - place_at points i)) (horner (slice_index before) x (whole - (i + 1)) (i + 1))
    (newton_value points (slice_index form) x (whole - (i + 1)) (i + 1)) (values x))
    ∙ ap (λ (u : ℕ). u % 65537) (sym (nested-more (slice_index form) (λ l. x + (65537 - place_at points l)) (whole - (i + 1)) i))
    ∙ ap (λ (j : ℕ). newton_value points (slice_index form) x j i % 65537) shape

-- the coefficients stay below the modulus
pub expand-below : (points : List (ℕ × ℕ)) (before after : List ℕ) (whole i : ℕ)
    → ((k : ℕ) → i ≤ k → k + 1 < whole → slice_index after k ≡ ((65537 - place_at points i) * slice_index before (k + 1) + slice_index before k) % 65537)
    → ((k : ℕ) → k < i → slice_index after k ≡ slice_index before k)
    → ((k : ℕ) → whole ≤ k + 1 → slice_index after k ≡ slice_index before k)
    → ((k : ℕ) → k < whole → slice_index before k < 65537) → (k : ℕ) → k < whole → slice_index after k < 65537
expand-below points before after whole i opened low high below k lt =
    elim (cases_lt k i) [
      | inl less ↦ subst (λ (u : ℕ). u < 65537) (sym (low k less)) (below k lt)
      | inr ge ↦ elim (cases_lt (k + 1) whole) [
        | inl within ↦ subst (λ (u : ℕ). u < 65537) (sym (opened k ge within)) (reduced ((65537 - place_at points i) * slice_index before (k + 1) + slice_index before k))
        | inr last ↦ subst (λ (u : ℕ). u < 65537) (sym (high k last)) (below k lt)
      ]
    ]
  where
    reduced : (u : ℕ) → u % 65537 < 65537
    reduced u = omega arith

-- all brackets opened
pub expand-done : (points : List (ℕ × ℕ)) (form out : List ℕ) (x whole i : ℕ) → i ≤ 0
    → horner (slice_index out) x (whole - i) i % 65537 ≡ newton_value points (slice_index form) x (whole - i) i % 65537
    → horner (slice_index out) x whole 0 % 65537 ≡ newton_value points (slice_index form) x whole 0 % 65537
expand-done points form out x whole i end values =
    let none : i ≡ 0 = omega arith in
    let all : whole - 0 ≡ whole = omega arith in
    let at_none = subst (λ (j : ℕ). horner (slice_index out) x (whole - j) j % 65537 ≡ newton_value points (slice_index form) x (whole - j) j % 65537) none values in
    subst (λ (m : ℕ). horner (slice_index out) x m 0 % 65537 ≡ newton_value points (slice_index form) x m 0 % 65537) all at_none

-- one factor and one coefficient more, downwards
pub product-step : (g : ℕ → ℕ) (whole k product : ℕ) → 0 < k → k ≤ whole → product ≡ product_from g (whole - k) k % 65537
    → (product * g (k - 1) + 0) % 65537 ≡ product_from g (whole - (k - 1)) (k - 1) % 65537
product-step g whole k product some within is =
    let shape : k ≡ k - 1 + 1 = omega arith in
    let more : whole - k + 1 ≡ whole - (k - 1) = omega arith in
    ap (λ (u : ℕ). (u * g (k - 1) + 0) % 65537) is
    ∙ ap (λ (u : ℕ). u % 65537) (turned (product_from g (whole - k) k % 65537) (g (k - 1)))
    ∙ mul-mod_second (g (k - 1)) (product_from g (whole - k) k) 65537
    ∙ ap (λ (j : ℕ). (g (k - 1) * product_from g (whole - k) j) % 65537) shape
    ∙ ap (λ (u : ℕ). u % 65537) (sym (product-more g (whole - k) (k - 1)))
    ∙ ap (λ (m : ℕ). product_from g m (k - 1) % 65537) more
  where
    turned : (u v : ℕ) → u * v + 0 ≡ v * u
    turned u v = omega arith

pub product-start : (g : ℕ → ℕ) (whole k : ℕ) → whole ≤ k → 1 ≡ product_from g (whole - k) k % 65537
product-start g whole k le =
    let none : whole - k ≡ 0 = omega arith in
    sym (ap (λ (m : ℕ). product_from g m k % 65537) none ∙ ap (λ (u : ℕ). u % 65537) (product-none g k))

-- the coefficient that was written is below the modulus, as those before
pub form-below : (c : List ℕ) (i r : ℕ) → i < length c → r < 65537 → ((k : ℕ) → k < i → slice_index c k < 65537)
    → (k : ℕ) → k < i + 1 → slice_index (set c i r) k < 65537
form-below c i r within small below k lt =
    elim (cases_eq k i) [
      | inl same ↦ subst (λ (u : ℕ). u < 65537) (sym (ap (slice_index (set c i r)) same ∙ get_or-set_same c i r 0 within)) small
      | inr other ↦ subst (λ (u : ℕ). u < 65537) (sym (get_or-set_other c i k r 0 other)) (below k (omega (arith, other)))
    ]

-- at the end of a loop down to 0
pub down_to_zero : (f : ℕ → ℕ → ℕ) (whole k v : ℕ) → k ≤ 0 → v ≡ f (whole - k) k % 65537 → v ≡ f whole 0 % 65537
down_to_zero f whole k v end is =
    let none : k ≡ 0 = omega arith in
    let all : whole - 0 ≡ whole = omega arith in
    is ∙ ap (λ (j : ℕ). f (whole - j) j % 65537) none ∙ ap (λ (m : ℕ). f m 0 % 65537) all
