-- The values of products and sums of polynomials at a number whose power of the degree is c.
use Rattle.std.proofs.Common.{◌≡◌, ℕ, zero, suc, ◌+◌, ◌*◌, ◌%◌, ◌^◌, ◌<◌, refl, ap, ◌∙◌, sym, arith}
use Rattle.std.proofs.Math.Nat.{pow-zero, pow-suc, mod-mod}
use Rattle.psi_residue.specs.Sums.{sum_below}
use Rattle.psi_residue.specs.Slots.{value_at_odd}
use Rattle.psi_residue.proofs.Sums.{sum_below-suc, sum_below-first, sum_below-same, sum_below-times, sum_below-times_right, sum_below-add, sum_below-swap}
use Rattle.psi_residue.proofs.Congruences.{sum_congruent, times_congruent, times_congruent_right, product_congruent, sum_below-mod}
use Rattle.psi_residue.proofs.Powers.{pow-pow}
use Rattle.negacyclic.proofs.Ring.{rotated, turned, ring}

-- the value of the polynomial f of n coefficients at y
unfoldable pub value : (n y : ℕ) → (ℕ → ℕ) → ℕ
value n y f = sum_below n (λ i. f i * y ^ i)

value-rotated : (m top c y : ℕ) (f : ℕ → ℕ) → y ^ suc top % m ≡ c % m → value (suc top) y (rotated top c f) % m ≡ (y * value (suc top) y f) % m
unfolding value rotated
value-rotated m top c y f root =
    ap (λ (u : ℕ). u % m) left
    ∙ sum_congruent m (f top * c) (f top * y ^ suc top) (sum_below top (λ i. f i * y ^ suc i)) (sum_below top (λ i. f i * y ^ suc i)) (times_congruent m (f top) c (y ^ suc top) (sym root)) refl
    ∙ ap (λ (u : ℕ). u % m) (sym right)
  where
    left : sum_below (suc top) (λ i. rotated top c f i * y ^ i) ≡ f top * c + sum_below top (λ i. f i * y ^ suc i)
    left =
        let first = sum_below-first top (λ i. rotated top c f i * y ^ i) in
        let one : y ^ 0 ≡ 1 = pow-zero y in
        let product : c * f top * y ^ 0 ≡ c * f top * 1 = ap (λ (u : ℕ). c * f top * u) one in
        omega (arith, first, product)

    regroup : (a b : ℕ) → y * (a * b) ≡ a * (b * y)
    regroup a b = omega arith

    right : y * sum_below (suc top) (λ i. f i * y ^ i) ≡ f top * y ^ suc top + sum_below top (λ i. f i * y ^ suc i)
    right =
        let inside = sym (sum_below-times (suc top) y (λ i. f i * y ^ i)) in
        let same = sum_below-same (suc top) (λ i. y * (f i * y ^ i)) (λ i. f i * y ^ suc i)
        (λ i lt. regroup (f i) (y ^ i) ∙ ap (λ (u : ℕ). f i * u) (sym (pow-suc y i))) in
        let last = sum_below-suc top (λ i. f i * y ^ suc i) in
        omega (arith, inside, same, last)

value-turned : (m top c y i : ℕ) (f : ℕ → ℕ) → y ^ suc top % m ≡ c % m → value (suc top) y (turned top c i f) % m ≡ (y ^ i * value (suc top) y f) % m
unfolding turned
value-turned m top c y zero f root = ap (λ (u : ℕ). u % m) (once (y ^ 0) (value (suc top) y f) (pow-zero y))
  where
    once : (w x : ℕ) → w ≡ 1 → x ≡ w * x
    once w x e = rw e (omega arith)
value-turned m top c y (suc i) f root =
    value-rotated m top c y (turned top c i f) root
    ∙ times_congruent m y (value (suc top) y (turned top c i f)) (y ^ i * value (suc top) y f) (value-turned m top c y i f root)
    ∙ ap (λ (u : ℕ). u % m) (regroup (y ^ i) (value (suc top) y f) ∙ ap (λ (u : ℕ). u * value (suc top) y f) (sym (pow-suc y i)))
  where
    regroup : (a b : ℕ) → y * (a * b) ≡ a * y * b
    regroup a b = omega arith

-- the value of a product is the product of the values
pub value-ring : (m top c y : ℕ) (p f : ℕ → ℕ) → y ^ suc top % m ≡ c % m
    → value (suc top) y (ring top c p f) % m ≡ (value (suc top) y p * value (suc top) y f) % m
unfolding ring value
value-ring m top c y p f root =
    ap (λ (u : ℕ). u % m)
    (sum_below-same (suc top) (λ k. ring top c p f k * y ^ k) (λ k. sum_below (suc top) (λ i. p i * turned top c i f k * y ^ k))
    (λ k lt. sym (sum_below-times_right (suc top) (y ^ k) (λ i. p i * turned top c i f k)))
    ∙ sum_below-swap (suc top) (suc top) (λ k i. p i * turned top c i f k * y ^ k)
    ∙ sum_below-same (suc top) (λ i. sum_below (suc top) (λ k. p i * turned top c i f k * y ^ k)) (λ i. p i * value (suc top) y (turned top c i f)) (λ i lt. inner i))
    ∙ sum_below-mod m (suc top) (λ i. p i * value (suc top) y (turned top c i f)) (λ i. p i * y ^ i * value (suc top) y f) (λ i lt. outer i)
    ∙ ap (λ (u : ℕ). u % m) (sum_below-times_right (suc top) (value (suc top) y f) (λ i. p i * y ^ i))
  where
    regroup : (a b d : ℕ) → a * b * d ≡ a * (b * d)
    regroup a b d = omega arith

    inner : (i : ℕ) → sum_below (suc top) (λ k. p i * turned top c i f k * y ^ k) ≡ p i * value (suc top) y (turned top c i f)
    inner i =
        sum_below-same (suc top) (λ k. p i * turned top c i f k * y ^ k) (λ k. p i * (turned top c i f k * y ^ k)) (λ k lt. regroup (p i) (turned top c i f k) (y ^ k))
        ∙ sum_below-times (suc top) (p i) (λ k. turned top c i f k * y ^ k)

    outer : (i : ℕ) → (p i * value (suc top) y (turned top c i f)) % m ≡ (p i * y ^ i * value (suc top) y f) % m
    outer i =
        times_congruent m (p i) (value (suc top) y (turned top c i f)) (y ^ i * value (suc top) y f) (value-turned m top c y i f root)
        ∙ ap (λ (u : ℕ). u % m) (sym (regroup (p i) (y ^ i) (value (suc top) y f)))

pub value-mod : (m n y : ℕ) (f g : ℕ → ℕ) → ((i : ℕ) → i < n → f i % m ≡ g i % m) → value n y f % m ≡ value n y g % m
unfolding value
value-mod m n y f g h = sum_below-mod m n (λ i. f i * y ^ i) (λ i. g i * y ^ i) (λ i lt. times_congruent_right m (y ^ i) (f i) (g i) (h i lt))

pub value-plus : (n y : ℕ) (f g : ℕ → ℕ) → value n y (λ i. f i + g i) ≡ value n y f + value n y g
unfolding value
value-plus n y f g =
    sum_below-same n (λ i. (f i + g i) * y ^ i) (λ i. f i * y ^ i + g i * y ^ i) (λ i lt. apart (f i) (g i) (y ^ i))
    ∙ sum_below-add n (λ i. f i * y ^ i) (λ i. g i * y ^ i)
  where
    apart : (a b d : ℕ) → (a + b) * d ≡ a * d + b * d
    apart a b d = omega arith

pub value-sum : (n y count : ℕ) (h : ℕ → ℕ → ℕ) → value n y (λ i. sum_below count (λ k. h k i)) ≡ sum_below count (λ k. value n y (h k))
unfolding value
value-sum n y count h =
    sum_below-same n (λ i. sum_below count (λ k. h k i) * y ^ i) (λ i. sum_below count (λ k. h k i * y ^ i)) (λ i lt. sym (sum_below-times_right count (y ^ i) (λ k. h k i)))
    ∙ sum_below-swap n count (λ i k. h k i * y ^ i)

-- the values of a sum of products
pub value-evaluated : (m top c y count : ℕ) (p u : ℕ → ℕ → ℕ) (f g : ℕ → ℕ) → y ^ suc top % m ≡ c % m
    → ((i : ℕ) → i < suc top → g i % m ≡ (sum_below count (λ k. ring top c (p k) (u k) i) + f i) % m)
    → value (suc top) y g % m ≡ (sum_below count (λ k. value (suc top) y (p k) % m * (value (suc top) y (u k) % m)) + value (suc top) y f % m) % m
value-evaluated m top c y count p u f g root h =
    value-mod m (suc top) y g (λ i. sum_below count (λ k. ring top c (p k) (u k) i) + f i) h
    ∙ ap (λ (w : ℕ). w % m)
    (value-plus (suc top) y (λ i. sum_below count (λ k. ring top c (p k) (u k) i)) f
    ∙ ap (λ (w : ℕ). w + value (suc top) y f) (value-sum (suc top) y count (λ k. ring top c (p k) (u k))))
    ∙ sum_congruent m (sum_below count (λ k. value (suc top) y (ring top c (p k) (u k))))
    (sum_below count (λ k. value (suc top) y (p k) % m * (value (suc top) y (u k) % m)))
    (value (suc top) y f) (value (suc top) y f % m)
    (sum_below-mod m count (λ k. value (suc top) y (ring top c (p k) (u k))) (λ k. value (suc top) y (p k) % m * (value (suc top) y (u k) % m)) (λ k lt. each k))
    (sym (mod-mod (value (suc top) y f) m))
  where
    each : (k : ℕ) → value (suc top) y (ring top c (p k) (u k)) % m ≡ (value (suc top) y (p k) % m * (value (suc top) y (u k) % m)) % m
    each k =
        value-ring m top c y (p k) (u k) root
        ∙ product_congruent m (value (suc top) y (p k)) (value (suc top) y (p k) % m) (value (suc top) y (u k)) (value (suc top) y (u k) % m)
        (sym (mod-mod (value (suc top) y (p k)) m)) (sym (mod-mod (value (suc top) y (u k)) m))

-- the value at an odd power, as the slots are defined
pub odd-value : (m n x : ℕ) (p : ℕ → ℕ) (j : ℕ) → value_at_odd m n x p j ≡ value n (x ^ (2 * j + 1)) p % m
unfolding value_at_odd value
odd-value m n x p j =
    ap (λ (u : ℕ). u % m)
    (sum_below-same n (λ i. p i * x ^ ((2 * j + 1) * i)) (λ i. p i * (x ^ (2 * j + 1)) ^ i)
    (λ i lt. ap (λ (u : ℕ). p i * u) (sym (pow-pow x (2 * j + 1) i))))
