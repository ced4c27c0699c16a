-- The ring of polynomials modulo x^n = c, as functions from the index to the coefficient: all its laws hold exactly, for each number c.
-- The degree n is one more than the greatest index, `top`.
use Rattle.std.proofs.Common.{◌≡◌, ℕ, zero, suc, ◌+◌, ◌-◌, ◌*◌, ◌%◌, ◌<◌, ◌≤◌, refl, ap, ◌∙◌, sym, arith}
use Rattle.std.proofs.lemmas.Nat.{mul-le}
use Rattle.psi_residue.specs.Sums.{sum_below}
use Rattle.psi_residue.proofs.Sums.{sum_below-suc, sum_below-first, sum_below-same, sum_below-nothing, sum_below-bound, sum_below-times, sum_below-times_right, sum_below-add, sum_below-split, sum_below-swap, sum_below-backwards}
use Rattle.psi_residue.proofs.Congruences.{product_congruent, times_congruent_right, sum_below-mod}

-- the polynomial x·f
unfoldable pub rotated : (top c : ℕ) → (ℕ → ℕ) → ℕ → ℕ
rotated top c f zero = c * f top
rotated top c f (suc k) = f k

-- the polynomial x^i·f
unfoldable pub turned : (top c i : ℕ) → (ℕ → ℕ) → ℕ → ℕ
turned top c zero f k = f k
turned top c (suc i) f k = rotated top c (turned top c i f) k

-- the product p·f
unfoldable pub ring : (top c : ℕ) → (ℕ → ℕ) → (ℕ → ℕ) → ℕ → ℕ
ring top c p f k = sum_below (suc top) (λ i. p i * turned top c i f k)

rotated-same : (top c : ℕ) (f g : ℕ → ℕ) → ((k : ℕ) → k ≤ top → f k ≡ g k) → (k : ℕ) → k ≤ top → rotated top c f k ≡ rotated top c g k
unfolding rotated
rotated-same top c f g h zero le = ap (λ (u : ℕ). c * u) (h top (omega arith))
rotated-same top c f g h (suc k) le = h k (omega arith)

-- x^i·f is linear in f
turned-plus : (top c i : ℕ) (f g : ℕ → ℕ) (k : ℕ) → turned top c i (λ l. f l + g l) k ≡ turned top c i f k + turned top c i g k
unfolding turned rotated
turned-plus top c zero f g k = refl
turned-plus top c (suc i) f g zero = let before = turned-plus top c i f g top in ap (λ (u : ℕ). c * u) before ∙ spread_out c (turned top c i f top) (turned top c i g top)
  where
    spread_out : (c x y : ℕ) → c * (x + y) ≡ c * x + c * y
    spread_out c x y = omega arith
turned-plus top c (suc i) f g (suc k) = turned-plus top c i f g k

turned-times : (top c i w : ℕ) (f : ℕ → ℕ) (k : ℕ) → turned top c i (λ l. w * f l) k ≡ w * turned top c i f k
unfolding turned rotated
turned-times top c zero w f k = refl
turned-times top c (suc i) w f zero = let before = turned-times top c i w f top in ap (λ (u : ℕ). c * u) before ∙ regroup c w (turned top c i f top)
  where
    regroup : (c w x : ℕ) → c * (w * x) ≡ w * (c * x)
    regroup c w x = omega arith
turned-times top c (suc i) w f (suc k) = turned-times top c i w f k

-- x^i·f below its front, and at its front, where f comes round
turned-low : (top c i : ℕ) (f : ℕ → ℕ) (k : ℕ) → i ≤ k → turned top c i f k ≡ f (k - i)
unfolding turned rotated
turned-low top c zero f k le = let e : k ≡ k - 0 = omega arith in ap f e
turned-low top c (suc i) f zero le = absurd (omega arith)
turned-low top c (suc i) f (suc k) le = let e : k - i ≡ suc k - suc i = omega arith in turned-low top c i f k (omega arith) ∙ ap f e

turned-high : (top c i : ℕ) (f : ℕ → ℕ) (k : ℕ) → k < i → i ≤ suc top → k ≤ top → turned top c i f k ≡ c * f (k + suc top - i)
unfolding turned rotated
turned-high top c zero f k lt le within = absurd (omega arith)
turned-high top c (suc i) f zero lt le within =
    let e : top - i ≡ 0 + suc top - suc i = omega arith in
    ap (λ (u : ℕ). c * u) (turned-low top c i f top (omega arith) ∙ ap f e)
turned-high top c (suc i) f (suc k) lt le within =
    let e : k + suc top - i ≡ suc k + suc top - suc i = omega arith in
    turned-high top c i f k (omega arith) (omega arith) (omega arith) ∙ ap (λ (u : ℕ). c * f u) e

-- (x·p)·f = x·(p·f)
ring-rotated_first : (top c : ℕ) (p f : ℕ → ℕ) (k : ℕ) → k ≤ top → ring top c (rotated top c p) f k ≡ sum_below (suc top) (λ i. p i * turned top c (suc i) f k)
unfolding ring rotated turned
ring-rotated_first top c p f k le =
    sum_below-first top (λ i. rotated top c p i * turned top c i f k)
    ∙ front
    ∙ sym (sum_below-suc top (λ i. p i * turned top c (suc i) f k))
  where
    comes_round : turned top c (suc top) f k ≡ c * f k
    comes_round =
        let e : k + suc top - suc top ≡ k = omega arith in
        turned-high top c (suc top) f k (omega arith) (omega arith) le ∙ ap (λ (u : ℕ). c * f u) e

    front : rotated top c p 0 * turned top c 0 f k + sum_below top (λ i. rotated top c p (suc i) * turned top c (suc i) f k)
        ≡ sum_below top (λ i. p i * turned top c (suc i) f k) + p top * turned top c (suc top) f k
    front =
        let product : p top * turned top c (suc top) f k ≡ p top * (c * f k) = ap (λ (u : ℕ). p top * u) comes_round in
        let swapped : p top * (c * f k) ≡ c * p top * f k = omega arith in
        omega (arith, product, swapped)

ring-rotated_second : (top c : ℕ) (p f : ℕ → ℕ) (k : ℕ) → rotated top c (ring top c p f) k ≡ sum_below (suc top) (λ i. p i * turned top c (suc i) f k)
unfolding ring rotated turned
ring-rotated_second top c p f zero =
    let regroup : (i : ℕ) → c * (p i * turned top c i f top) ≡ p i * (c * turned top c i f top) = λ i. omega arith in
    sym (sum_below-times (suc top) c (λ i. p i * turned top c i f top))
    ∙ sum_below-same (suc top) (λ i. c * (p i * turned top c i f top)) (λ i. p i * (c * turned top c i f top)) (λ i lt. regroup i)
ring-rotated_second top c p f (suc k) = refl

-- (x^i·p)·f = x^i·(p·f)
ring-turned : (top c i : ℕ) (p f : ℕ → ℕ) (k : ℕ) → k ≤ top → turned top c i (ring top c p f) k ≡ ring top c (turned top c i p) f k
unfolding turned
ring-turned top c zero p f k le = refl
ring-turned top c (suc i) p f k le =
    rotated-same top c (turned top c i (ring top c p f)) (ring top c (turned top c i p) f) (ring-turned top c i p f) k le
    ∙ ring-rotated_second top c (turned top c i p) f k
    ∙ sym (ring-rotated_first top c (turned top c i p) f k le)

-- (p·f)·g = p·(f·g)
pub ring-assoc : (top c : ℕ) (p f g : ℕ → ℕ) (k : ℕ) → k ≤ top → ring top c (ring top c p f) g k ≡ ring top c p (ring top c f g) k
unfolding ring
ring-assoc top c p f g k le =
    sum_below-same (suc top) (λ j. ring top c p f j * turned top c j g k) (λ j. sum_below (suc top) (λ i. p i * turned top c i f j * turned top c j g k))
    (λ j lt. sym (sum_below-times_right (suc top) (turned top c j g k) (λ i. p i * turned top c i f j)))
    ∙ sum_below-swap (suc top) (suc top) (λ j i. p i * turned top c i f j * turned top c j g k)
    ∙ sum_below-same (suc top) (λ i. sum_below (suc top) (λ j. p i * turned top c i f j * turned top c j g k)) (λ i. p i * turned top c i (ring top c f g) k)
    (λ i lt. inner i)
  where
    inner : (i : ℕ) → sum_below (suc top) (λ j. p i * turned top c i f j * turned top c j g k) ≡ p i * turned top c i (ring top c f g) k
    inner i =
        let regroup : (j : ℕ) → p i * turned top c i f j * turned top c j g k ≡ p i * (turned top c i f j * turned top c j g k) = λ j. omega arith in
        sum_below-same (suc top) (λ j. p i * turned top c i f j * turned top c j g k) (λ j. p i * (turned top c i f j * turned top c j g k)) (λ j lt. regroup j)
        ∙ sum_below-times (suc top) (p i) (λ j. turned top c i f j * turned top c j g k)
        ∙ ap (λ (u : ℕ). p i * u) (sym (ring-turned top c i f g k le))

-- the sum of polynomials times one
pub ring-sum : (top c d : ℕ) (p : ℕ → ℕ → ℕ) (f : ℕ → ℕ) (k : ℕ)
    → ring top c (λ i. sum_below d (λ j. p j i)) f k ≡ sum_below d (λ j. ring top c (p j) f k)
unfolding ring
ring-sum top c d p f k =
    sum_below-same (suc top) (λ i. sum_below d (λ j. p j i) * turned top c i f k) (λ i. sum_below d (λ j. p j i * turned top c i f k))
    (λ i lt. sym (sum_below-times_right d (turned top c i f k) (λ j. p j i)))
    ∙ sum_below-swap (suc top) d (λ i j. p j i * turned top c i f k)

-- the product is linear in its second factor
pub ring-plus : (top c : ℕ) (p f g : ℕ → ℕ) (k : ℕ) → ring top c p (λ l. f l + g l) k ≡ ring top c p f k + ring top c p g k
unfolding ring
ring-plus top c p f g k =
    sum_below-same (suc top) (λ i. p i * turned top c i (λ l. f l + g l) k) (λ i. p i * turned top c i f k + p i * turned top c i g k) (λ i lt. each i)
    ∙ sum_below-add (suc top) (λ i. p i * turned top c i f k) (λ i. p i * turned top c i g k)
  where
    spread_out : (c x y : ℕ) → c * (x + y) ≡ c * x + c * y
    spread_out c x y = omega arith

    each : (i : ℕ) → p i * turned top c i (λ l. f l + g l) k ≡ p i * turned top c i f k + p i * turned top c i g k
    each i = ap (λ (u : ℕ). p i * u) (turned-plus top c i f g k) ∙ spread_out (p i) (turned top c i f k) (turned top c i g k)

pub ring-times : (top c : ℕ) (p : ℕ → ℕ) (w : ℕ) (f : ℕ → ℕ) (k : ℕ) → ring top c p (λ l. w * f l) k ≡ w * ring top c p f k
unfolding ring
ring-times top c p w f k =
    sum_below-same (suc top) (λ i. p i * turned top c i (λ l. w * f l) k) (λ i. w * (p i * turned top c i f k)) (λ i lt. each i)
    ∙ sum_below-times (suc top) w (λ i. p i * turned top c i f k)
  where
    regroup : (c w x : ℕ) → c * (w * x) ≡ w * (c * x)
    regroup c w x = omega arith

    each : (i : ℕ) → p i * turned top c i (λ l. w * f l) k ≡ w * (p i * turned top c i f k)
    each i = ap (λ (u : ℕ). p i * u) (turned-times top c i w f k) ∙ regroup (p i) w (turned top c i f k)

-- factors that agree modulo m have products that agree
turned-mod : (m top c d i : ℕ) (f g : ℕ → ℕ) → c % m ≡ d % m → ((k : ℕ) → k ≤ top → f k % m ≡ g k % m)
    → (k : ℕ) → k ≤ top → turned top c i f k % m ≡ turned top d i g k % m
unfolding turned rotated
turned-mod m top c d zero f g e h k le = h k le
turned-mod m top c d (suc i) f g e h zero le = product_congruent m c d (turned top c i f top) (turned top d i g top) e (turned-mod m top c d i f g e h top (omega arith))
turned-mod m top c d (suc i) f g e h (suc k) le = turned-mod m top c d i f g e h k (omega arith)

pub ring-mod : (m top c d : ℕ) (p q f g : ℕ → ℕ) → c % m ≡ d % m → ((k : ℕ) → k ≤ top → p k % m ≡ q k % m) → ((k : ℕ) → k ≤ top → f k % m ≡ g k % m)
    → (k : ℕ) → k ≤ top → ring top c p f k % m ≡ ring top d q g k % m
unfolding ring
ring-mod m top c d p q f g e hp hf k le =
    sum_below-mod m (suc top) (λ i. p i * turned top c i f k) (λ i. q i * turned top d i g k)
    (λ i lt. product_congruent m (p i) (q i) (turned top c i f k) (turned top d i g k) (hp i (omega arith)) (turned-mod m top c d i f g e hf k le))

-- where nothing changes its sign, coefficients are bounded
turned-bound : (top i bound : ℕ) (f : ℕ → ℕ) → ((k : ℕ) → k ≤ top → f k ≤ bound) → (k : ℕ) → k ≤ top → turned top 1 i f k ≤ bound
unfolding turned rotated
turned-bound top zero bound f h k le = h k le
turned-bound top (suc i) bound f h zero le = let before = turned-bound top i bound f h top (omega arith) in omega (arith, before)
turned-bound top (suc i) bound f h (suc k) le = turned-bound top i bound f h k (omega arith)

pub ring-bound : (top a b : ℕ) (p f : ℕ → ℕ) → ((k : ℕ) → k ≤ top → p k ≤ a) → ((k : ℕ) → k ≤ top → f k ≤ b)
    → (k : ℕ) → k ≤ top → ring top 1 p f k ≤ suc top * (a * b)
unfolding ring
ring-bound top a b p f hp hf k le =
    sum_below-bound (suc top) (a * b) (λ i. p i * turned top 1 i f k)
    (λ i lt. mul-le (p i) (turned top 1 i f k) a b (hp i (omega arith)) (turned-bound top i b f hf k le))

-- ---- products with no x^n = c

-- the sum of a_i * b_j over i + j = s
unfoldable pub spread : (a b : ℕ → ℕ) → ℕ → ℕ
spread a b s = sum_below (s + 1) (λ i. a i * b (s - i))

-- the factors may be exchanged
pub spread-comm : (a b : ℕ → ℕ) (s : ℕ) → spread a b s ≡ spread b a s
unfolding spread
spread-comm a b s =
    sum_below-same (s + 1) (λ i. a i * b (s - i)) (λ i. b (s + 1 - (i + 1)) * a (s - (s + 1 - (i + 1)))) (λ i lt. swapped i lt)
    ∙ sum_below-backwards (s + 1) (λ i. b i * a (s - i))
  where
    swapped : (i : ℕ) → i < s + 1 → a i * b (s - i) ≡ b (s + 1 - (i + 1)) * a (s - (s + 1 - (i + 1)))
    swapped i lt =
        let left : s - i ≡ s + 1 - (i + 1) = omega arith in
        let right : i ≡ s - (s + 1 - (i + 1)) = omega arith in
        let first = ap b left in
        let second = ap a right in
        let product : a i * b (s - i) ≡ a (s - (s + 1 - (i + 1))) * b (s + 1 - (i + 1)) = λ j. second j * first j in
        omega (arith, product)

-- the product of a sum is the sum of the products
pub spread-plus : (a b f : ℕ → ℕ) (s : ℕ) → spread (λ i. a i + b i) f s ≡ spread a f s + spread b f s
unfolding spread
spread-plus a b f s =
    sum_below-same (s + 1) (λ i. (a i + b i) * f (s - i)) (λ i. a i * f (s - i) + b i * f (s - i)) (λ i lt. parted (a i) (b i) (f (s - i)))
    ∙ sum_below-add (s + 1) (λ i. a i * f (s - i)) (λ i. b i * f (s - i))
  where
    parted : (u v y : ℕ) → (u + v) * y ≡ u * y + v * y
    parted u v y = omega arith

-- first factors that agree modulo m have products that agree
pub spread-mod : (m : ℕ) (a b f : ℕ → ℕ) (s : ℕ) → ((i : ℕ) → a i % m ≡ b i % m) → spread a f s % m ≡ spread b f s % m
unfolding spread
spread-mod m a b f s h =
    sum_below-mod m (s + 1) (λ i. a i * f (s - i)) (λ i. b i * f (s - i)) (λ i lt. times_congruent_right m (f (s - i)) (a i) (b i) (h i))

-- a term of that sum
abbrev part : (a b : ℕ → ℕ) → (s i : ℕ) → ℕ
part a b s i = a i * b (s - i)

-- a term of the product
abbrev term : (top c : ℕ) (a b : ℕ → ℕ) → (k i : ℕ) → ℕ
term top c a b k i = a i * turned top c i b k

-- the product's terms up to its index, and those behind, where b comes round
terms-low : (top c : ℕ) (a b : ℕ → ℕ) (k : ℕ) → sum_below (k + 1) (term top c a b k) ≡ sum_below (k + 1) (part a b k)
terms-low top c a b k = sum_below-same (k + 1) (term top c a b k) (part a b k) (λ i lt. ap (λ (u : ℕ). a i * u) (turned-low top c i b k (omega arith)))

terms-high : (top c : ℕ) (a b : ℕ → ℕ) (k rest : ℕ) → k + rest ≡ top
    → sum_below rest (λ i. term top c a b k (k + 1 + i)) ≡ c * sum_below rest (λ i. part a b (k + suc top) (k + 1 + i))
terms-high top c a b k rest e =
    sum_below-same rest (λ i. term top c a b k (k + 1 + i)) (λ i. c * part a b (k + suc top) (k + 1 + i)) each
    ∙ sum_below-times rest c (λ i. part a b (k + suc top) (k + 1 + i))
  where
    regroup : (w x : ℕ) → w * (c * x) ≡ c * (w * x)
    regroup w x = omega arith

    each : (i : ℕ) → i < rest → term top c a b k (k + 1 + i) ≡ c * part a b (k + suc top) (k + 1 + i)
    each i lt =
        ap (λ (u : ℕ). a (k + 1 + i) * u) (turned-high top c (k + 1 + i) b k (omega arith) (omega arith) (omega arith))
        ∙ regroup (a (k + 1 + i)) (b (k + suc top - (k + 1 + i)))

ring-parts : (top c : ℕ) (a b : ℕ → ℕ) (k rest : ℕ) → k + rest ≡ top
    → ring top c a b k ≡ sum_below (k + 1) (part a b k) + c * sum_below rest (λ i. part a b (k + suc top) (k + 1 + i))
unfolding ring
ring-parts top c a b k rest e =
    let degree : suc top ≡ k + 1 + rest = omega arith in
    let split = ap (λ (u : ℕ). sum_below u (term top c a b k)) degree ∙ sum_below-split (k + 1) rest (term top c a b k) in
    let low = terms-low top c a b k in
    let high = terms-high top c a b k rest e in
    omega (arith, split, low, high)

times_none : (x y : ℕ) → y ≡ 0 → x * y ≡ 0
times_none x y e = rw e (omega arith)

none_times : (x y : ℕ) → x ≡ 0 → x * y ≡ 0
none_times x y e = rw e (omega arith)

-- the sum over i + j = k + n has terms between, where neither index is past the end
parts-high : (top : ℕ) (a b : ℕ → ℕ) (k rest : ℕ) → k + rest ≡ top → ((i : ℕ) → top < i → a i ≡ 0) → ((i : ℕ) → top < i → b i ≡ 0)
    → sum_below (k + suc top + 1) (part a b (k + suc top)) ≡ sum_below rest (λ i. part a b (k + suc top) (k + 1 + i))
parts-high top a b k rest e za zb =
    let size : k + suc top + 1 ≡ k + 1 + (rest + (k + 1)) = omega arith in
    let split = ap (λ (u : ℕ). sum_below u (part a b (k + suc top))) size ∙ sum_below-split (k + 1) (rest + (k + 1)) (part a b (k + suc top)) in
    let again = sum_below-split rest (k + 1) (λ i. part a b (k + suc top) (k + 1 + i)) in
    let first = before in
    let last = behind in
    omega (arith, split, again, first, last)
  where
    before : sum_below (k + 1) (part a b (k + suc top)) ≡ 0
    before = sum_below-nothing (k + 1) (part a b (k + suc top)) (λ i lt. times_none (a i) (b (k + suc top - i)) (zb (k + suc top - i) (omega arith)))

    behind : sum_below (k + 1) (λ i. part a b (k + suc top) (k + 1 + (rest + i))) ≡ 0
    behind =
        sum_below-nothing (k + 1) (λ i. part a b (k + suc top) (k + 1 + (rest + i)))
        (λ i lt. none_times (a (k + 1 + (rest + i))) (b (k + suc top - (k + 1 + (rest + i)))) (za (k + 1 + (rest + i)) (omega arith)))

-- the sum over i + j = k and c times that over i + j = k + n are the product
pub spread-ring : (top c : ℕ) (a b : ℕ → ℕ) → ((i : ℕ) → top < i → a i ≡ 0) → ((i : ℕ) → top < i → b i ≡ 0)
    → (k : ℕ) → k ≤ top → spread a b k + c * spread a b (k + suc top) ≡ ring top c a b k
unfolding spread
spread-ring top c a b za zb k le =
    let rest : k + (top - k) ≡ top = omega arith in
    ap (λ (u : ℕ). sum_below (k + 1) (part a b k) + c * u) (parts-high top a b k (top - k) rest za zb)
    ∙ sym (ring-parts top c a b k (top - k) rest)
