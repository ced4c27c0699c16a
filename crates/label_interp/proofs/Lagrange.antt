-- Lagrange's formula: its polynomial takes the second numbers at the first.
use Rattle.std.proofs.Common.{◌≡◌, ℕ, zero, suc, ◌+◌, ◌-◌, ◌*◌, ◌%◌, ◌<◌, ◌≤◌, List, [], ◌∷◌, ◌++◌, length, map, take, drop, get_or, eqb, false, refl, ap, subst, ◌∙◌, sym, arith}
use Rattle.std.specs.List.{AllByRecursion, IsDistinct, enumerate_from, sum_by}
use Rattle.std.proofs.lemmas.Bool.{eqb-false}
use Rattle.std.proofs.lemmas.List.{length-map}
use Rattle.std.proofs.lemmas.List.FromFn.{length-enumerate_from, get_or-enumerate_from}
use Rattle.std.proofs.lemmas.List.Sums.{sum_by-cons}
use Rattle.std.proofs.Math.Nat.{mod-eq_of_lt, mod-mod}
use Rattle.psi_residue.specs.RootPolynomials.{root_coefficient, root_value}
use Rattle.psi_residue.specs.Interpolation.{inverse_of, others, lagrange_coefficient, interpolated}
use Rattle.bin_poly.specs.Horner.{horner}
use Rattle.psi_residue.proofs.Congruences.{sum_congruent, times_congruent}
use Rattle.bin_poly.proofs.Units.{inverse_of-inverts, nonzero_product, difference-positive}
use Rattle.bin_poly.proofs.Horner.{nested-past, nested-add, nested-times, nested-congruent}
use Rattle.bin_poly.proofs.Products.{own-factor, root_value-at_root, root_value-below, coefficient-past, horner-product}
use Rattle.label_interp.specs.Points.{place_at, value_of}
use Rattle.label_interp.proofs.Forms.{place-mapped}

others-next : (a : ℕ) (xs : List ℕ) (i : ℕ) → others (a ∷ xs) (suc i) ≡ a ∷ others xs i
others-next a xs i = let shape : suc i + 1 ≡ suc (i + 1) = omega arith in ap (λ (j : ℕ). (a ∷ take i xs) ++ drop j (a ∷ xs)) shape

others-length : (xs : List ℕ) (i : ℕ) → i < length xs → length (others xs i) + 1 ≡ length xs
others-length [] i lt = absurd (omega arith)
others-length (a ∷ xs) zero lt = let e : length xs + 1 ≡ suc (length xs) = omega arith in e
others-length (a ∷ xs) (suc i) lt =
    let before = others-length xs i (omega arith) in
    let here = ap (λ (ys : List ℕ). length ys) (others-next a xs i) in
    omega (arith, before, here)

-- the product of (x - a) is not 0 at another number than the roots
root_value-elsewhere : (roots : List ℕ) (x : ℕ) → x < 65537 → AllByRecursion (λ a. a < 65537) roots → AllByRecursion (λ a. eqb x a ≡ false) roots → 0 < root_value roots x % 65537
root_value-elsewhere [] x x-small small other = omega arith
root_value-elsewhere (a ∷ roots) x x-small small other =
    let positive = nonzero_product (x + (65537 - a)) (root_value roots x) (difference-positive x a x-small small.0 (eqb-false x a other.0))
    (root_value-elsewhere roots x x-small small.1 other.1) in
    subst (λ (u : ℕ). 0 < u) (sym (mod-mod ((x + (65537 - a)) * root_value roots x) 65537)) positive

-- the others' product is 0 at each of the others
others-at_other : (xs : List ℕ) (i j : ℕ) → AllByRecursion (λ a. a < 65537) xs → i < length xs → j < length xs → (j ≡ i → ⊥) → root_value (others xs i) (get_or xs j 0) ≡ 0
others-at_other [] i j small i-lt j-lt other = absurd (omega arith)
others-at_other (a ∷ xs) zero zero small i-lt j-lt other = absurd (other refl)
others-at_other (a ∷ xs) zero (suc j) small i-lt j-lt other = root_value-at_root xs j small.1 (omega arith)
others-at_other (a ∷ xs) (suc i) zero small i-lt j-lt other =
    ap (λ (ys : List ℕ). root_value ys a) (others-next a xs i) ∙ own-factor a small.0 (root_value (others xs i) a)
others-at_other (a ∷ xs) (suc i) (suc j) small i-lt j-lt other =
    let x : ℕ = get_or xs j 0 in
    let none : (x + (65537 - a)) * 0 ≡ 0 = omega arith in
    ap (λ (ys : List ℕ). root_value ys x) (others-next a xs i)
    ∙ ap (λ (u : ℕ). (x + (65537 - a)) * u % 65537) (others-at_other xs i j small.1 (omega arith) (omega arith) (λ same. other (ap (λ (k : ℕ). suc k) same)))
    ∙ ap (λ (u : ℕ). u % 65537) none

element-other : (a : ℕ) (xs : List ℕ) (i : ℕ) → AllByRecursion (λ b. eqb a b ≡ false) xs → i < length xs → a ≡ get_or xs i 0 → ⊥
element-other a [] i all lt = absurd (omega arith)
element-other a (b ∷ xs) zero all lt = eqb-false a b all.0
element-other a (b ∷ xs) (suc i) all lt = element-other a xs i all.1 (omega arith)

element-small : (xs : List ℕ) (i : ℕ) → AllByRecursion (λ a. a < 65537) xs → i < length xs → get_or xs i 0 < 65537
element-small [] i small lt = absurd (omega arith)
element-small (a ∷ xs) zero small lt = small.0
element-small (a ∷ xs) (suc i) small lt = element-small xs i small.1 (omega arith)

-- and not 0 at the one that was left out
others-at_own : (xs : List ℕ) (i : ℕ) → AllByRecursion (λ a. a < 65537) xs → IsDistinct eqb xs → i < length xs → 0 < root_value (others xs i) (get_or xs i 0) % 65537
unfolding IsDistinct
others-at_own [] i small distinct lt = absurd (omega arith)
others-at_own (a ∷ xs) zero small distinct lt = root_value-elsewhere xs a small.0 small.1 distinct.0
others-at_own (a ∷ xs) (suc i) small distinct lt =
    let x : ℕ = get_or xs i 0 in
    let positive = nonzero_product (x + (65537 - a)) (root_value (others xs i) x)
    (difference-positive x a (element-small xs i small.1 (omega arith)) small.0 (λ same. element-other a xs i distinct.0 (omega arith) (sym same)))
    (others-at_own xs i small.1 distinct.1 (omega arith)) in
    subst (λ (u : ℕ). 0 < u % 65537) (sym (ap (λ (ys : List ℕ). root_value ys x) (others-next a xs i)))
    (subst (λ (u : ℕ). 0 < u) (sym (mod-mod ((x + (65537 - a)) * root_value (others xs i) x) 65537)) positive)

-- the value of one root's polynomial
lagrange-value : (xs : List ℕ) (i a x n : ℕ) → i < length xs → n ≡ length xs
    → horner (lagrange_coefficient xs i a) x n 0 % 65537 ≡ (inverse_of (root_value (others xs i) a) * root_value (others xs i) x) % 65537
unfolding lagrange_coefficient
lagrange-value xs i a x n within count =
    let w : ℕ = inverse_of (root_value (others xs i) a) in
    let few : length (others xs i) < n = omega (arith, others-length xs i within) in
    nested-congruent 65537 (lagrange_coefficient xs i a) (λ k. w * root_coefficient (others xs i) k) (λ k. x) n 0
    (λ k low high. mod-mod (root_coefficient (others xs i) k * w) 65537 ∙ ap (λ (u : ℕ). u % 65537) (turned (root_coefficient (others xs i) k) w))
    ∙ ap (λ (u : ℕ). u % 65537) (nested-times w (root_coefficient (others xs i)) (λ k. x) n 0)
    ∙ times_congruent 65537 w (horner (root_coefficient (others xs i)) x n 0) (root_value (others xs i) x)
    (horner-product (others xs i) x n few ∙ sym (mod-eq_of_lt (root_value-below (others xs i) x)))
  where
    turned : (p q : ℕ) → p * q ≡ q * p
    turned p q = omega arith

lagrange-past : (xs : List ℕ) (i a k : ℕ) → i < length xs → length xs ≤ k → lagrange_coefficient xs i a k ≡ 0
unfolding lagrange_coefficient
lagrange-past xs i a k within past =
    let few : length (others xs i) < k = omega (arith, others-length xs i within) in
    ap (λ (u : ℕ). u * inverse_of (root_value (others xs i) a) % 65537) (coefficient-past (others xs i) k few)
    ∙ none (inverse_of (root_value (others xs i) a))
  where
    none : (w : ℕ) → 0 * w % 65537 ≡ 0
    none w = let e : 0 * w ≡ 0 = omega arith in ap (λ (u : ℕ). u % 65537) e

-- the term of a point, by its number, its place and its value
term : List ℕ → ℕ × (ℕ × ℕ) → ℕ → ℕ
term xs p k = p.1.1 * lagrange_coefficient xs p.0 p.1.0 k

term-value : (xs : List ℕ) (i a y x n : ℕ) → i < length xs → n ≡ length xs
    → horner (term xs (i, (a, y))) x n 0 % 65537 ≡ (y * (inverse_of (root_value (others xs i) a) * root_value (others xs i) x)) % 65537
unfolding term
term-value xs i a y x n within count =
    ap (λ (u : ℕ). u % 65537) (nested-times y (lagrange_coefficient xs i a) (λ k. x) n 0)
    ∙ times_congruent 65537 y (horner (lagrange_coefficient xs i a) x n 0) (inverse_of (root_value (others xs i) a) * root_value (others xs i) x)
    (lagrange-value xs i a x n within count)

term-own : (xs : List ℕ) (i y n : ℕ) → AllByRecursion (λ a. a < 65537) xs → IsDistinct eqb xs → i < length xs → n ≡ length xs → y < 65537
    → horner (term xs (i, (get_or xs i 0, y))) (get_or xs i 0) n 0 % 65537 ≡ y
term-own xs i y n small distinct within count y-small =
    let v : ℕ = root_value (others xs i) (get_or xs i 0) in
    let v-small : v < 65537 = root_value-below (others xs i) (get_or xs i 0) in
    let positive : 0 < v = subst (λ (u : ℕ). 0 < u) (mod-eq_of_lt v-small) (others-at_own xs i small distinct within) in
    term-value xs i (get_or xs i 0) y (get_or xs i 0) n within count
    ∙ times_congruent 65537 y (inverse_of v * v) 1 (ap (λ (u : ℕ). u % 65537) (turned (inverse_of v) v) ∙ inverse_of-inverts v positive v-small)
    ∙ ap (λ (u : ℕ). u % 65537) (one y)
    ∙ mod-eq_of_lt y-small
  where
    turned : (p q : ℕ) → p * q ≡ q * p
    turned p q = omega arith

    one : (u : ℕ) → u * 1 ≡ u
    one u = omega arith

term-other : (xs : List ℕ) (i j a y n : ℕ) → AllByRecursion (λ b. b < 65537) xs → i < length xs → j < length xs → (j ≡ i → ⊥) → n ≡ length xs
    → horner (term xs (i, (a, y))) (get_or xs j 0) n 0 % 65537 ≡ 0
term-other xs i j a y n small within j-within other count =
    let w : ℕ = inverse_of (root_value (others xs i) a) in
    let none : y * (w * 0) ≡ 0 = omega arith in
    term-value xs i a y (get_or xs j 0) n within count
    ∙ ap (λ (u : ℕ). (y * (w * u)) % 65537) (others-at_other xs i j small within j-within other)
    ∙ ap (λ (u : ℕ). u % 65537) none

-- a sum whose terms are all 0, and one whose terms are 0 but one
no_term : {Z : Type 0} (g : Z → ℕ) (zs : List Z) (d : Z) → ((i : ℕ) → i < length zs → g (get_or zs i d) % 65537 ≡ 0) → sum_by g zs % 65537 ≡ 0
no_term g [] d none = refl
no_term g (z ∷ zs) d none =
    ap (λ (u : ℕ). u % 65537) (sum_by-cons g z zs)
    ∙ sum_congruent 65537 (g z) 0 (sum_by g zs) 0 (none 0 (omega arith)) (no_term g zs d (λ i lt. none (suc i) (omega arith)))

one_term : {Z : Type 0} (g : Z → ℕ) (zs : List Z) (j : ℕ) (d : Z) → j < length zs
    → ((i : ℕ) → i < length zs → (j ≡ i → ⊥) → g (get_or zs i d) % 65537 ≡ 0) → sum_by g zs % 65537 ≡ g (get_or zs j d) % 65537
one_term g [] j d within none = absurd (omega arith)
one_term g (z ∷ zs) zero d within none =
    let alone : g z + 0 ≡ g z = omega arith in
    ap (λ (u : ℕ). u % 65537) (sum_by-cons g z zs)
    ∙ sum_congruent 65537 (g z) (g z) (sum_by g zs) 0 refl (no_term g zs d (λ i lt. none (suc i) (omega arith) (λ same. absurd (omega (arith, same)))))
    ∙ ap (λ (u : ℕ). u % 65537) alone
one_term g (z ∷ zs) (suc j) d within none =
    let rest : 0 + sum_by g zs ≡ sum_by g zs = omega arith in
    ap (λ (u : ℕ). u % 65537) (sum_by-cons g z zs)
    ∙ sum_congruent 65537 (g z) 0 (sum_by g zs) (sum_by g zs) (none 0 (omega arith) (λ same. absurd (omega (arith, same)))) refl
    ∙ ap (λ (u : ℕ). u % 65537) rest
    ∙ one_term g zs j d (omega arith) (λ i lt other. none (suc i) (omega arith) (λ same. other (omega (arith, same))))

-- the value of a sum of polynomials
horner-of_sum : {Z : Type 0} (f : Z → ℕ → ℕ) (zs : List Z) (x n : ℕ) → horner (λ k. sum_by (λ z. f z k) zs) x n 0 ≡ sum_by (λ z. horner (f z) x n 0) zs
horner-of_sum f [] x n = nested-past (λ k. sum_by (λ z. f z k) []) (λ k. x) n 0 (λ i low. refl)
horner-of_sum f (z ∷ zs) x n =
    ap (λ (h : ℕ → ℕ). horner h x n 0) (λ i k. sum_by-cons (λ z. f z k) z zs i)
    ∙ nested-add (f z) (λ k. sum_by (λ z. f z k) zs) (λ k. x) n 0
    ∙ ap (λ (u : ℕ). horner (f z) x n 0 + u) (horner-of_sum f zs x n)
    ∙ sym (sum_by-cons (λ z. horner (f z) x n 0) z zs)

pub interpolated-below : (points : List (ℕ × ℕ)) (k : ℕ) → interpolated points k < 65537
unfolding interpolated
interpolated-below points k = omega arith

-- point i among the numbered points
numbered : (points : List (ℕ × ℕ)) (i : ℕ) → i < length points → get_or (enumerate_from 0 points) i (0, (0, 0)) ≡ (i, get_or points i (0, 0))
numbered points i within = let shape : 0 + i ≡ i = omega arith in get_or-enumerate_from 0 points i (0, (0, 0)) within ∙ ap (λ (j : ℕ). (j, get_or points i (0, 0))) shape

pub interpolated-past : (points : List (ℕ × ℕ)) (k : ℕ) → length points ≤ k → interpolated points k ≡ 0
unfolding interpolated
interpolated-past points k past =
    no_term (λ p. p.1.1 * lagrange_coefficient xs p.0 p.1.0 k) (enumerate_from 0 points) (0, (0, 0)) none
  where
    xs : List ℕ
    xs = map (λ p. p.0) points

    many : length xs ≡ length points
    many = length-map points (λ (p : ℕ × ℕ). p.0)

    none : (i : ℕ) → i < length (enumerate_from 0 points) → (λ (p : ℕ × (ℕ × ℕ)). p.1.1 * lagrange_coefficient xs p.0 p.1.0 k) (get_or (enumerate_from 0 points) i (0, (0, 0))) % 65537 ≡ 0
    none i lt =
        let within : i < length points = omega (arith, length-enumerate_from 0 points) in
        let y : ℕ = value_of points i in
        let zero_term : y * 0 ≡ 0 = omega arith in
        ap (λ (p : ℕ × (ℕ × ℕ)). (p.1.1 * lagrange_coefficient xs p.0 p.1.0 k) % 65537) (numbered points i within)
        ∙ ap (λ (u : ℕ). (y * u) % 65537) (lagrange-past xs i (place_at points i) k (omega (arith, many)) (omega (arith, many)))
        ∙ ap (λ (u : ℕ). u % 65537) zero_term

-- Lagrange's polynomial takes each second number at its first
pub interpolated-takes : (points : List (ℕ × ℕ)) (j : ℕ) → j < length points → AllByRecursion (λ a. a < 65537) (map (λ p. p.0) points)
    → IsDistinct eqb (map (λ p. p.0) points) → value_of points j < 65537
    → horner (interpolated points) (place_at points j) (length points) 0 % 65537 ≡ value_of points j
unfolding interpolated term
interpolated-takes points j within small distinct y-small =
    nested-congruent 65537 (interpolated points) (λ k. sum_by (λ p. term xs p k) zs) (λ k. place_at points j) n 0 (λ k low high. mod-mod (sum_by (λ p. term xs p k) zs) 65537)
    ∙ ap (λ (u : ℕ). u % 65537) (horner-of_sum (term xs) zs (place_at points j) n)
    ∙ one_term (λ p. horner (term xs p) (place_at points j) n 0) zs j (0, (0, 0)) (omega (arith, many-numbered)) none
    ∙ ap (λ (p : ℕ × (ℕ × ℕ)). horner (term xs p) (place_at points j) n 0 % 65537) (numbered points j within)
    ∙ ap (λ (a : ℕ). horner (term xs (j, (a, value_of points j))) a n 0 % 65537) (sym (place-mapped points j))
    ∙ term-own xs j (value_of points j) n small distinct (omega (arith, many)) (sym many) y-small
  where
    n : ℕ
    n = length points

    xs : List ℕ
    xs = map (λ p. p.0) points

    zs : List (ℕ × (ℕ × ℕ))
    zs = enumerate_from 0 points

    many : length xs ≡ length points
    many = length-map points (λ (p : ℕ × ℕ). p.0)

    many-numbered : length zs ≡ length points
    many-numbered = length-enumerate_from 0 points

    none : (i : ℕ) → i < length zs → (j ≡ i → ⊥) → horner (term xs (get_or zs i (0, (0, 0)))) (place_at points j) n 0 % 65537 ≡ 0
    none i lt other =
        let i-within : i < length points = omega (arith, many-numbered) in
        ap (λ (p : ℕ × (ℕ × ℕ)). horner (term xs p) (place_at points j) n 0 % 65537) (numbered points i i-within)
        ∙ ap (λ (a : ℕ). horner (term xs (i, (place_at points i, value_of points i))) a n 0 % 65537) (sym (place-mapped points j))
        ∙ term-other xs i j (place_at points i) (value_of points i) n small (omega (arith, many)) (omega (arith, many)) other (sym many)
