-- A polynomial's parts: the coefficients r, r + s, r + 2s, .. as a polynomial, and its values at odd powers.
use Rattle.std.proofs.Common.{◌≡◌, ℕ, zero, suc, ◌+◌, ◌*◌, ◌%◌, ◌^◌, refl, ap, ◌∙◌, arith}
use Rattle.std.proofs.lemmas.Nat.{pow-add}
use Rattle.std.proofs.Math.Nat.{pow-zero}
use Rattle.psi_residue.specs.Slots.{value_at_odd}
use Rattle.psi_residue.specs.Sums.{sum_below}
use Rattle.psi_residue.proofs.Sums.{sum_below-same, sum_below-times}
use Rattle.psi_residue.proofs.Sums.{sum_below-suc}
use Rattle.psi_residue.proofs.Congruences.{sum_congruent, product_congruent, add_multiple, times_multiple, sum_below-mod}
use Rattle.negacyclic.proofs.MinusOnes.{turned_power, further_power}

-- the terms at even and at odd places
pub sum_below-pairs : (n : ℕ) (f : ℕ → ℕ) → sum_below (n + n) f ≡ sum_below n (λ i. f (i + i)) + sum_below n (λ i. f (i + i + 1))
unfolding sum_below
sum_below-pairs zero f = refl
sum_below-pairs (suc n) f =
    let e : suc n + suc n ≡ suc (suc (n + n)) = omega arith in
    let odd : suc (n + n) ≡ n + n + 1 = omega arith in
    let before = sum_below-pairs n f in
    let last = ap f odd in
    ap (λ (k : ℕ). sum_below k f) e ∙ omega (arith, before, last)

-- the value at the (2j + 1)-th power of x^s of the n coefficients of p from r on, each s further
unfoldable pub part : (p : ℕ → ℕ) → (x s n r j : ℕ) → ℕ
part p x s n r j = sum_below n (λ i. p (r + s * i) * x ^ (s * ((2 * j + 1) * i)))

-- a part is its even part, and its odd part times a power
pub part-halves : (p : ℕ → ℕ) (x h n r j : ℕ) → part p x h (n + n) r j ≡ part p x (h + h) n r j + x ^ (h * (2 * j + 1)) * part p x (h + h) n (r + h) j
unfolding part
part-halves p x h n r j =
    sum_below-pairs n (λ i. p (r + h * i) * x ^ (h * ((2 * j + 1) * i)))
    ∙ ap (λ (u : ℕ). u + sum_below n (λ i. p (r + h * (i + i + 1)) * x ^ (h * ((2 * j + 1) * (i + i + 1)))))
    (sum_below-same n (λ i. p (r + h * (i + i)) * x ^ (h * ((2 * j + 1) * (i + i)))) (λ i. p (r + (h + h) * i) * x ^ ((h + h) * ((2 * j + 1) * i))) (λ i lt. even i))
    ∙ ap (λ (u : ℕ). sum_below n (λ i. p (r + (h + h) * i) * x ^ ((h + h) * ((2 * j + 1) * i))) + u)
    (sum_below-same n (λ i. p (r + h * (i + i + 1)) * x ^ (h * ((2 * j + 1) * (i + i + 1)))) (λ i. x ^ (h * (2 * j + 1)) * (p (r + h + (h + h) * i) * x ^ ((h + h) * ((2 * j + 1) * i)))) (λ i lt. odd i)
    ∙ sum_below-times n (x ^ (h * (2 * j + 1))) (λ i. p (r + h + (h + h) * i) * x ^ ((h + h) * ((2 * j + 1) * i))))
  where
    even : (i : ℕ) → p (r + h * (i + i)) * x ^ (h * ((2 * j + 1) * (i + i))) ≡ p (r + (h + h) * i) * x ^ ((h + h) * ((2 * j + 1) * i))
    even i =
        let place : r + h * (i + i) ≡ r + (h + h) * i = omega arith in
        let power : h * ((2 * j + 1) * (i + i)) ≡ (h + h) * ((2 * j + 1) * i) = omega arith in
        ap (λ (u : ℕ). p u * x ^ (h * ((2 * j + 1) * (i + i)))) place ∙ ap (λ (u : ℕ). p (r + (h + h) * i) * x ^ u) power

    regrouped : (a b c : ℕ) → a * (b * c) ≡ b * (a * c)
    regrouped a b c = omega arith

    odd : (i : ℕ) → p (r + h * (i + i + 1)) * x ^ (h * ((2 * j + 1) * (i + i + 1))) ≡ x ^ (h * (2 * j + 1)) * (p (r + h + (h + h) * i) * x ^ ((h + h) * ((2 * j + 1) * i)))
    odd i =
        let place : r + h * (i + i + 1) ≡ r + h + (h + h) * i = omega arith in
        let power : h * ((2 * j + 1) * (i + i + 1)) ≡ h * (2 * j + 1) + (h + h) * ((2 * j + 1) * i) = omega arith in
        ap (λ (u : ℕ). p u * x ^ (h * ((2 * j + 1) * (i + i + 1)))) place
        ∙ ap (λ (u : ℕ). p (r + h + (h + h) * i) * u) (ap (λ (u : ℕ). x ^ u) power ∙ pow-add x (h * (2 * j + 1)) ((h + h) * ((2 * j + 1) * i)))
        ∙ regrouped (p (r + h + (h + h) * i)) (x ^ (h * (2 * j + 1))) (x ^ ((h + h) * ((2 * j + 1) * i)))

-- where x^(s * l) is minus one, the odd powers of x^s begin again after l
pub part-around : (q : ℕ) (p : ℕ → ℕ) (x s l n r j : ℕ) → (x ^ (s * l) + 1) % q ≡ 0 → part p x s n r (j + l) % q ≡ part p x s n r j % q
unfolding part
part-around q p x s l n r j minus_one =
    sum_below-mod q n (λ i. p (r + s * i) * x ^ (s * ((2 * (j + l) + 1) * i))) (λ i. p (r + s * i) * x ^ (s * ((2 * j + 1) * i)))
    (λ i lt. product_congruent q (p (r + s * i)) (p (r + s * i)) (x ^ (s * ((2 * (j + l) + 1) * i))) (x ^ (s * ((2 * j + 1) * i))) refl (around i))
  where
    around : (i : ℕ) → x ^ (s * ((2 * (j + l) + 1) * i)) % q ≡ x ^ (s * ((2 * j + 1) * i)) % q
    around i =
        let power : s * ((2 * (j + l) + 1) * i) ≡ s * ((2 * j + 1) * i) + 2 * i * (s * l) = omega arith in
        ap (λ (u : ℕ). x ^ u % q) power ∙ further_power q x (s * ((2 * j + 1) * i)) (s * l) i minus_one

-- the value half a turn on: the odd part is taken away
pub part-halves_around : (q : ℕ) (p : ℕ → ℕ) (x h n r j : ℕ) → (x ^ ((h + h) * n) + 1) % q ≡ 0
    → (part p x h (n + n) r (j + n) + x ^ (h * (2 * j + 1)) * part p x (h + h) n (r + h) j) % q ≡ part p x (h + h) n r j % q
part-halves_around q p x h n r j minus_one =
    let exact = part-halves p x h n r (j + n) in
    let even = part-around q p x (h + h) n n r j minus_one in
    let odd = part-around q p x (h + h) n n (r + h) j minus_one in
    ap (λ (u : ℕ). (u + x ^ (h * (2 * j + 1)) * part p x (h + h) n (r + h) j) % q) exact
    ∙ sum_congruent q
    (part p x (h + h) n r (j + n) + x ^ (h * (2 * (j + n) + 1)) * part p x (h + h) n (r + h) (j + n)) (part p x (h + h) n r j + x ^ (h * (2 * (j + n) + 1)) * part p x (h + h) n (r + h) j)
    (x ^ (h * (2 * j + 1)) * part p x (h + h) n (r + h) j) (x ^ (h * (2 * j + 1)) * part p x (h + h) n (r + h) j)
    (sum_congruent q (part p x (h + h) n r (j + n)) (part p x (h + h) n r j) (x ^ (h * (2 * (j + n) + 1)) * part p x (h + h) n (r + h) (j + n)) (x ^ (h * (2 * (j + n) + 1)) * part p x (h + h) n (r + h) j)
    even (product_congruent q (x ^ (h * (2 * (j + n) + 1))) (x ^ (h * (2 * (j + n) + 1))) (part p x (h + h) n (r + h) (j + n)) (part p x (h + h) n (r + h) j) refl odd))
    refl
    ∙ ap (λ (u : ℕ). u % q) (collected (part p x (h + h) n r j) (x ^ (h * (2 * (j + n) + 1))) (x ^ (h * (2 * j + 1))) (part p x (h + h) n (r + h) j))
    ∙ add_multiple q (part p x (h + h) n r j) (part p x (h + h) n (r + h) j * (x ^ (h * (2 * (j + n) + 1)) + x ^ (h * (2 * j + 1))))
    (times_multiple q (part p x (h + h) n (r + h) j) (x ^ (h * (2 * (j + n) + 1)) + x ^ (h * (2 * j + 1))) turned)
  where
    collected : (a v w b : ℕ) → a + v * b + w * b ≡ a + b * (v + w)
    collected a v w b = omega arith

    turned : (x ^ (h * (2 * (j + n) + 1)) + x ^ (h * (2 * j + 1))) % q ≡ 0
    turned =
        let power : h * (2 * (j + n) + 1) ≡ h * (2 * j + 1) + (h + h) * n = omega arith in
        ap (λ (u : ℕ). (x ^ u + x ^ (h * (2 * j + 1))) % q) power ∙ turned_power q x (h * (2 * j + 1)) ((h + h) * n) minus_one

-- a part of one coefficient is that coefficient
pub part-first : (p : ℕ → ℕ) (x s r j : ℕ) → part p x s 1 r j ≡ p r
unfolding part sum_below
part-first p x s r j =
    let place : r + s * 0 ≡ r = omega arith in
    let power : s * ((2 * j + 1) * 0) ≡ 0 = omega arith in
    let one = pow-zero x in
    sum_below-suc 0 (λ i. p (r + s * i) * x ^ (s * ((2 * j + 1) * i)))
    ∙ ap (λ (u : ℕ). 0 + p u * x ^ (s * ((2 * j + 1) * 0))) place
    ∙ ap (λ (u : ℕ). 0 + p r * u) (ap (λ (u : ℕ). x ^ u) power ∙ one)
    ∙ (let z : 0 + p r * 1 ≡ p r = omega arith in z)

-- the part of all coefficients is the value
pub part-whole : (q : ℕ) (p : ℕ → ℕ) (x n j : ℕ) → part p x 1 n 0 j % q ≡ value_at_odd q n x p j
unfolding part value_at_odd
part-whole q p x n j =
    ap (λ (u : ℕ). u % q)
    (sum_below-same n (λ i. p (0 + 1 * i) * x ^ (1 * ((2 * j + 1) * i))) (λ i. p i * x ^ ((2 * j + 1) * i)) (λ i lt. term i))
  where
    term : (i : ℕ) → p (0 + 1 * i) * x ^ (1 * ((2 * j + 1) * i)) ≡ p i * x ^ ((2 * j + 1) * i)
    term i =
        let place : 0 + 1 * i ≡ i = omega arith in
        let power : 1 * ((2 * j + 1) * i) ≡ (2 * j + 1) * i = omega arith in
        ap (λ (u : ℕ). p u * x ^ (1 * ((2 * j + 1) * i))) place ∙ ap (λ (u : ℕ). p i * x ^ u) power
