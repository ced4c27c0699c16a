-- What the list is between two passes, and that a pass leads from one such list to the next.
use Rattle.std.proofs.Common.{◌≡◌, ℕ, ◌+◌, ◌-◌, ◌*◌, ◌%◌, ◌^◌, ◌<◌, List, length, get_or, refl, ap, ◌∙◌, sym, arith}
use Rattle.std.proofs.lemmas.Nat.{mul-add-lt, pow-add, mul-pow, pow-mod}
use Rattle.std.proofs.Math.Nat.{mod-eq_of_lt}
use Rattle.psi_residue.specs.Polynomials.{IsPolynomial}
use Rattle.psi_residue.specs.Slots.{value_at_odd, coefficient_from}
use Rattle.psi_residue.specs.Sums.{table}
use Rattle.psi_residue.proofs.Sums.{same_as_table}
use Rattle.negacyclic.specs.Butterflies.{HasPowers, IsTable, ArePlaced, AreReplaced}
use Rattle.psi_residue.proofs.Congruences.{sum_congruent, product_congruent, times_multiple}
use Rattle.negacyclic.proofs.MinusOnes.{one_power}
use Rattle.negacyclic.proofs.Parts.{part, part-first, part-whole}
use Rattle.negacyclic.proofs.Shares.{share, share-first, share-whole}
use Rattle.negacyclic.proofs.Crossings.{AreFour, crossed_along, parts_crossed, uncrossed_along, shares_uncrossed}
use Rattle.negacyclic.proofs.Placing.{each_of_four}

-- ---- forward

-- l rows of s places: row j has the values at the j-th odd power of the s parts
pub record IsStage (q x : ℕ) (p : ℕ → ℕ) (l s : ℕ) (xs : List ℕ) : Type 0 where
  pub each : (j r : ℕ) → j < l → r < s → get_or xs (j * s + r) 0 % q ≡ part p x s l r j % q

at_same : (q : ℕ) (xs : List ℕ) (i k y : ℕ) → i ≡ k → get_or xs i 0 % q ≡ y % q → get_or xs k 0 % q ≡ y % q
at_same q xs i k y e h = ap (λ (u : ℕ). get_or xs u 0 % q) (sym e) ∙ h

pub stage-first : (q x : ℕ) (xs : List ℕ) → IsStage q x (λ i. get_or xs i 0) 1 4096 xs
stage-first q x xs = record {
  each = λ j r j_lt r_lt.
      let e : r ≡ j * 4096 + r = omega arith in
      at_same q xs r (j * 4096 + r) (part (λ i. get_or xs i 0) x 4096 1 r j) e (ap (λ (u : ℕ). u % q) (sym (part-first (λ i. get_or xs i 0) x 4096 r j)));
}

pub stage-passed : (q bound x : ℕ) (p : ℕ → ℕ) (l h : ℕ) (numbers from to : List ℕ) → 0 < q → l * h ≡ 1024 → (x ^ 4096 + 1) % q ≡ 0
    → HasPowers q x l (h + h) numbers → HasPowers q x (l + l) h numbers → IsStage q x p l (h + h + (h + h)) from → ArePlaced q bound l h numbers from to 1024
    → IsStage q x p (l + l + (l + l)) h to
stage-passed q bound x p l h numbers from to positive size minus_one powers finer stage placed = record {
  each = λ j r j_lt r_lt. each_of_four (λ i. get_or to (i * h + r) 0 % q ≡ part p x h (l + l + (l + l)) r i % q) l (λ i i_lt. quarter i r i_lt r_lt) j j_lt;
}
  where
    around : (x ^ ((h + h + (h + h)) * l) + 1) % q ≡ 0
    around =
        let power : (h + h + (h + h)) * l ≡ 4096 = omega (arith, size) in
        ap (λ (u : ℕ). (x ^ u + 1) % q) power ∙ minus_one

    read : (i r r' k : ℕ) → i < l → r' < h + h + (h + h) → i * (h + h + (h + h)) + r' ≡ k → get_or from k 0 % q ≡ part p x (h + h + (h + h)) l r' i % q
    read i r r' k i_lt r'_lt e = at_same q from (i * (h + h + (h + h)) + r') k (part p x (h + h + (h + h)) l r' i) e (stage.each i r' i_lt r'_lt)

    four : (i r : ℕ) → i < l → r < h → AreFour q
        (get_or to (i * h + r) 0) (get_or to (i * h + r + 1024) 0) (get_or to (i * h + r + 2048) 0) (get_or to (i * h + r + 3072) 0)
        (part p x h (l + l + (l + l)) r i) (part p x h (l + l + (l + l)) r (i + l)) (part p x h (l + l + (l + l)) r (i + (l + l))) (part p x h (l + l + (l + l)) r (i + l + (l + l)))
    four i r i_lt r_lt =
        let inside : i * h + r < 1024 = omega (arith, mul-add-lt i h r l i_lt r_lt) in
        let second : l + l + i ≡ 2 * l + i = omega arith in
        let third : l + l + (i + l) ≡ 3 * l + i = omega arith in
        crossed_along q (get_or numbers (l + i) 0) (get_or numbers (2 * l + i) 0) (get_or numbers (3 * l + i) 0)
        (get_or from (4 * (i * h) + r) 0) (get_or from (4 * (i * h) + r + h) 0) (get_or from (4 * (i * h) + r + 2 * h) 0) (get_or from (4 * (i * h) + r + 3 * h) 0)
        (get_or to (i * h + r) 0) (get_or to (i * h + r + 1024) 0) (get_or to (i * h + r + 2048) 0) (get_or to (i * h + r + 3072) 0)
        (x ^ ((h + h) * (2 * i + 1))) (x ^ (h * (2 * i + 1))) (x ^ (h * (2 * (i + l) + 1)))
        (part p x (h + h + (h + h)) l r i) (part p x (h + h + (h + h)) l (r + h) i) (part p x (h + h + (h + h)) l (r + (h + h)) i) (part p x (h + h + (h + h)) l (r + h + (h + h)) i)
        (part p x h (l + l + (l + l)) r i) (part p x h (l + l + (l + l)) r (i + l)) (part p x h (l + l + (l + l)) r (i + (l + l))) (part p x h (l + l + (l + l)) r (i + l + (l + l)))
        positive (placed.crossed i r i_lt r_lt inside) (parts_crossed q p x l h r i around)
        (powers.each i i_lt)
        (at_same q numbers (l + l + i) (2 * l + i) (x ^ (h * (2 * i + 1))) second (finer.each i (omega arith)))
        (at_same q numbers (l + l + (i + l)) (3 * l + i) (x ^ (h * (2 * (i + l) + 1))) third (finer.each (i + l) (omega arith)))
        (record {
          first = read i r r (4 * (i * h) + r) i_lt (omega arith) (omega arith);
          second = read i r (r + h) (4 * (i * h) + r + h) i_lt (omega arith) (omega arith);
          third = read i r (r + (h + h)) (4 * (i * h) + r + 2 * h) i_lt (omega arith) (omega arith);
          fourth = read i r (r + h + (h + h)) (4 * (i * h) + r + 3 * h) i_lt (omega arith) (omega arith);
        })

    quarter : (i r : ℕ) → i < l → r < h
        → (get_or to (i * h + r) 0 % q ≡ part p x h (l + l + (l + l)) r i % q) × (get_or to ((i + l) * h + r) 0 % q ≡ part p x h (l + l + (l + l)) r (i + l) % q) × (get_or to ((i + (l + l)) * h + r) 0 % q ≡ part p x h (l + l + (l + l)) r (i + (l + l)) % q) × (get_or to ((i + l + (l + l)) * h + r) 0 % q ≡ part p x h (l + l + (l + l)) r (i + l + (l + l)) % q)
    quarter i r i_lt r_lt =
        let all = four i r i_lt r_lt in
        let e1 : i * h + r + 1024 ≡ (i + l) * h + r = omega (arith, size) in
        let e2 : i * h + r + 2048 ≡ (i + (l + l)) * h + r = omega (arith, size) in
        let e3 : i * h + r + 3072 ≡ (i + l + (l + l)) * h + r = omega (arith, size) in (
          all.first,
          at_same q to (i * h + r + 1024) ((i + l) * h + r) (part p x h (l + l + (l + l)) r (i + l)) e1 all.second,
          at_same q to (i * h + r + 2048) ((i + (l + l)) * h + r) (part p x h (l + l + (l + l)) r (i + (l + l))) e2 all.third,
          at_same q to (i * h + r + 3072) ((i + l + (l + l)) * h + r) (part p x h (l + l + (l + l)) r (i + l + (l + l))) e3 all.fourth,
        )

-- the last stage, reduced, is the list of the values
pub stage-values : (q n x : ℕ) (p : ℕ → ℕ) (xs : List ℕ) → length xs ≡ n → ((i : ℕ) → i < n → get_or xs i 0 < q) → IsStage q x p n 1 xs → xs ≡ table n (value_at_odd q n x p)
stage-values q n x p xs len below stage =
    same_as_table n (value_at_odd q n x p) xs len
    (λ j lt.
    let e : j * 1 + 0 ≡ j = omega arith in
    sym (mod-eq_of_lt (below j lt)) ∙ at_same q xs (j * 1 + 0) j (part p x 1 n 0 j) e (stage.each j 0 lt (omega arith)) ∙ part-whole q p x n j)

-- ---- backward

-- l rows of s places: row j has the shares of the first s coefficients
pub record IsGathered (q y : ℕ) (v : ℕ → ℕ) (l s : ℕ) (xs : List ℕ) : Type 0 where
  pub each : (j r : ℕ) → j < l → r < s → get_or xs (j * s + r) 0 % q ≡ share v y l s r j % q

-- powers of x and of its inverse whose exponents add up to one where the power is minus one
opposite : (q x y e d n : ℕ) → (x * y) % q ≡ 1 % q → (x ^ n + 1) % q ≡ 0 → e + d ≡ n → (x ^ e + y ^ d) % q ≡ 0
opposite q x y e d n inverse minus_one sum =
    sum_congruent q (x ^ e) (x ^ e * (x ^ d * y ^ d)) (y ^ d) (y ^ d) (sym one) refl
    ∙ ap (λ (u : ℕ). u % q) (collected (x ^ e) (x ^ d) (y ^ d) ∙ ap (λ (u : ℕ). y ^ d * (u + 1)) (sym (pow-add x e d) ∙ ap (λ (u : ℕ). x ^ u) sum))
    ∙ times_multiple q (y ^ d) (x ^ n + 1) minus_one
  where
    collected : (a b c : ℕ) → a * (b * c) + c ≡ c * (a * b + 1)
    collected a b c = omega arith

    times_one : (u : ℕ) → u * 1 ≡ u
    times_one u = omega arith

    both : (x ^ d * y ^ d) % q ≡ 1 % q
    both = ap (λ (u : ℕ). u % q) (sym (mul-pow x y d)) ∙ sym (pow-mod (x * y) d q) ∙ ap (λ (u : ℕ). u ^ d % q) inverse ∙ pow-mod 1 d q ∙ ap (λ (u : ℕ). u % q) (one_power d)

    one : (x ^ e * (x ^ d * y ^ d)) % q ≡ x ^ e % q
    one = product_congruent q (x ^ e) (x ^ e) (x ^ d * y ^ d) 1 refl both ∙ ap (λ (u : ℕ). u % q) (times_one (x ^ e))

-- such exponents, from a place and the place that mirrors it
exponents : (s l k j n : ℕ) → l ≡ k + 1 + j → s * (l + l) ≡ n → s * (2 * k + 1) + (2 * j + 1) * s ≡ n
exponents s l k j n mirrored size = regrouped s k j ∙ sym (ap (λ (u : ℕ). s * (u + u)) mirrored) ∙ size
  where
    regrouped : (s k j : ℕ) → s * (2 * k + 1) + (2 * j + 1) * s ≡ s * (k + 1 + j + (k + 1 + j))
    regrouped s k j = omega arith

pub gathered-first : (q y : ℕ) (xs : List ℕ) → IsGathered q y (λ i. get_or xs i 0) 4096 1 xs
gathered-first q y xs = record {
  each = λ j r j_lt r_lt.
      let e : j ≡ j * 1 + r = omega arith in
      let r-is : 0 ≡ r = omega arith in
      at_same q xs j (j * 1 + r) (share (λ i. get_or xs i 0) y 4096 1 r j) e (ap (λ (u : ℕ). u % q) (sym (share-first (λ i. get_or xs i 0) y 4096 j) ∙ ap (λ (u : ℕ). share (λ i. get_or xs i 0) y 4096 1 u j) r-is));
}

pub gathered-passed : (q bound x y : ℕ) (v : ℕ → ℕ) (l h : ℕ) (numbers from to : List ℕ) → 0 < q → l * h ≡ 1024 → (x ^ 4096 + 1) % q ≡ 0 → (y ^ 4096 + 1) % q ≡ 0 → (x * y) % q ≡ 1 % q
    → HasPowers q x l (h + h) numbers → HasPowers q x (l + l) h numbers → IsGathered q y v (l + l + (l + l)) h from → AreReplaced q bound l h numbers from to 1024
    → IsGathered q y v l (h + h + (h + h)) to
gathered-passed q bound x y v l h numbers from to positive size minus_one turned inverse powers finer gathered replaced = record {
  each = λ j r j_lt r_lt. each_of_four (λ i. get_or to (j * (h + h + (h + h)) + i) 0 % q ≡ share v y l (h + h + (h + h)) i j % q) h (λ i i_lt. quarter j i j_lt i_lt) r r_lt;
}
  where
    around : (y ^ ((h + h + (h + h)) * l) + 1) % q ≡ 0
    around =
        let power : (h + h + (h + h)) * l ≡ 4096 = omega (arith, size) in
        ap (λ (u : ℕ). (y ^ u + 1) % q) power ∙ turned

    read : (j j' r k : ℕ) → j' < l + l + (l + l) → r < h → j' * h + r ≡ k → get_or from k 0 % q ≡ share v y (l + l + (l + l)) h r j' % q
    read j j' r k j'_lt r_lt e = at_same q from (j' * h + r) k (share v y (l + l + (l + l)) h r j') e (gathered.each j' r j'_lt r_lt)

    four : (j r k : ℕ) → j < l → r < h → l ≡ k + 1 + j → AreFour q
        (get_or to (4 * (j * h) + r) 0) (get_or to (4 * (j * h) + r + h) 0) (get_or to (4 * (j * h) + r + 2 * h) 0) (get_or to (4 * (j * h) + r + 3 * h) 0)
        (share v y l (h + h + (h + h)) r j) (share v y l (h + h + (h + h)) (r + h) j) (share v y l (h + h + (h + h)) (r + (h + h)) j) (share v y l (h + h + (h + h)) (r + h + (h + h)) j)
    four j r k j_lt r_lt mirrored =
        let inside : j * h + r < 1024 = omega (arith, mul-add-lt j h r l j_lt r_lt) in
        let first : l + k ≡ 2 * l - 1 - j = omega arith in
        let second : l + l + (l + k) ≡ 4 * l - 1 - j = omega arith in
        let third : l + l + k ≡ 3 * l - 1 - j = omega arith in
        let mirrored2 : l + l ≡ l + k + 1 + j = omega arith in
        let mirrored3 : l + l ≡ k + 1 + (j + l) = omega arith in
        let wide : (h + h) * (l + l) ≡ 4096 = omega (arith, size) in
        let narrow : h * (l + l + (l + l)) ≡ 4096 = omega (arith, size) in
        uncrossed_along q (get_or numbers (2 * l - 1 - j) 0) (get_or numbers (4 * l - 1 - j) 0) (get_or numbers (3 * l - 1 - j) 0)
        (get_or from (j * h + r) 0) (get_or from (j * h + r + 1024) 0) (get_or from (j * h + r + 2048) 0) (get_or from (j * h + r + 3072) 0)
        (get_or to (4 * (j * h) + r) 0) (get_or to (4 * (j * h) + r + h) 0) (get_or to (4 * (j * h) + r + 2 * h) 0) (get_or to (4 * (j * h) + r + 3 * h) 0)
        (x ^ ((h + h) * (2 * k + 1))) (x ^ (h * (2 * (l + k) + 1))) (x ^ (h * (2 * k + 1)))
        (share v y (l + l + (l + l)) h r j) (share v y (l + l + (l + l)) h r (j + l)) (share v y (l + l + (l + l)) h r (j + (l + l))) (share v y (l + l + (l + l)) h r (j + l + (l + l)))
        (share v y l (h + h + (h + h)) r j) (share v y l (h + h + (h + h)) (r + h) j) (share v y l (h + h + (h + h)) (r + (h + h)) j) (share v y l (h + h + (h + h)) (r + h + (h + h)) j)
        positive (replaced.uncrossed j r j_lt r_lt inside)
        (shares_uncrossed q v y l h r j (x ^ ((h + h) * (2 * k + 1))) (x ^ (h * (2 * (l + k) + 1))) (x ^ (h * (2 * k + 1))) positive around
        (opposite q x y ((h + h) * (2 * k + 1)) ((2 * j + 1) * (h + h)) 4096 inverse minus_one (exponents (h + h) l k j 4096 mirrored wide))
        (opposite q x y (h * (2 * (l + k) + 1)) ((2 * j + 1) * h) 4096 inverse minus_one (exponents h (l + l) (l + k) j 4096 mirrored2 narrow))
        (opposite q x y (h * (2 * k + 1)) ((2 * (j + l) + 1) * h) 4096 inverse minus_one (exponents h (l + l) k (j + l) 4096 mirrored3 narrow)))
        (at_same q numbers (l + k) (2 * l - 1 - j) (x ^ ((h + h) * (2 * k + 1))) first (powers.each k (omega arith)))
        (at_same q numbers (l + l + (l + k)) (4 * l - 1 - j) (x ^ (h * (2 * (l + k) + 1))) second (finer.each (l + k) (omega arith)))
        (at_same q numbers (l + l + k) (3 * l - 1 - j) (x ^ (h * (2 * k + 1))) third (finer.each k (omega arith)))
        (record {
          first = read j j r (j * h + r) (omega arith) r_lt (omega arith);
          second = read j (j + l) r (j * h + r + 1024) (omega arith) r_lt (omega (arith, size));
          third = read j (j + (l + l)) r (j * h + r + 2048) (omega arith) r_lt (omega (arith, size));
          fourth = read j (j + l + (l + l)) r (j * h + r + 3072) (omega arith) r_lt (omega (arith, size));
        })

    quarter : (j i : ℕ) → j < l → i < h
        → (get_or to (j * (h + h + (h + h)) + i) 0 % q ≡ share v y l (h + h + (h + h)) i j % q) × (get_or to (j * (h + h + (h + h)) + (i + h)) 0 % q ≡ share v y l (h + h + (h + h)) (i + h) j % q) × (get_or to (j * (h + h + (h + h)) + (i + (h + h))) 0 % q ≡ share v y l (h + h + (h + h)) (i + (h + h)) j % q) × (get_or to (j * (h + h + (h + h)) + (i + h + (h + h))) 0 % q ≡ share v y l (h + h + (h + h)) (i + h + (h + h)) j % q)
    quarter j i j_lt i_lt =
        let all = four j i (l - 1 - j) j_lt i_lt (omega arith) in
        let e0 : 4 * (j * h) + i ≡ j * (h + h + (h + h)) + i = omega arith in
        let e1 : 4 * (j * h) + i + h ≡ j * (h + h + (h + h)) + (i + h) = omega arith in
        let e2 : 4 * (j * h) + i + 2 * h ≡ j * (h + h + (h + h)) + (i + (h + h)) = omega arith in
        let e3 : 4 * (j * h) + i + 3 * h ≡ j * (h + h + (h + h)) + (i + h + (h + h)) = omega arith in (
          at_same q to (4 * (j * h) + i) (j * (h + h + (h + h)) + i) (share v y l (h + h + (h + h)) i j) e0 all.first,
          at_same q to (4 * (j * h) + i + h) (j * (h + h + (h + h)) + (i + h)) (share v y l (h + h + (h + h)) (i + h) j) e1 all.second,
          at_same q to (4 * (j * h) + i + 2 * h) (j * (h + h + (h + h)) + (i + (h + h))) (share v y l (h + h + (h + h)) (i + (h + h)) j) e2 all.third,
          at_same q to (4 * (j * h) + i + 3 * h) (j * (h + h + (h + h)) + (i + h + (h + h))) (share v y l (h + h + (h + h)) (i + h + (h + h)) j) e3 all.fourth,
        )

-- the last list, scaled, is the list of the coefficients
pub gathered-coefficients : (q n y c : ℕ) (v : ℕ → ℕ) (xs out : List ℕ) → length out ≡ n → ((i : ℕ) → i < n → get_or out i 0 ≡ (get_or xs i 0 * c) % q) → IsGathered q y v 1 n xs → out ≡ table n (coefficient_from q n y c v)
gathered-coefficients q n y c v xs out len scaled gathered =
    same_as_table n (coefficient_from q n y c v) out len
    (λ r lt.
    let e : 0 * n + r ≡ r = omega arith in
    let turn : get_or xs r 0 * c ≡ c * get_or xs r 0 = omega arith in
    scaled r lt ∙ ap (λ (u : ℕ). u % q) turn
    ∙ product_congruent q c c (get_or xs r 0) (share v y 1 n r 0) refl (at_same q xs (0 * n + r) r (share v y 1 n r 0) e (gathered.each 0 r (omega arith) lt))
    ∙ share-whole q v y n r c)

-- ---- all passes

pub values_of_passes : (q x b1 b2 b3 b4 b5 b6 : ℕ) (numbers a first second third fourth fifth new : List ℕ) → 0 < q → (x ^ 4096 + 1) % q ≡ 0 → IsTable q x numbers
    → ArePlaced q b1 1 1024 numbers a first 1024 → ArePlaced q b2 4 256 numbers first second 1024 → ArePlaced q b3 16 64 numbers second third 1024
    → ArePlaced q b4 64 16 numbers third fourth 1024 → ArePlaced q b5 256 4 numbers fourth fifth 1024 → ArePlaced q b6 1024 1 numbers fifth new 1024
    → IsPolynomial q new → new ≡ table 4096 (value_at_odd q 4096 x (λ i. get_or a i 0))
values_of_passes q x b1 b2 b3 b4 b5 b6 numbers a first second third fourth fifth new positive minus_one powers p1 p2 p3 p4 p5 p6 reduced =
    let p : ℕ → ℕ = λ i. get_or a i 0 in
    let s1 = stage-passed q b1 x p 1 1024 numbers a first positive (omega arith) minus_one (powers.level 0 (omega arith)) (powers.level 1 (omega arith)) (stage-first q x a) p1 in
    let s2 = stage-passed q b2 x p 4 256 numbers first second positive (omega arith) minus_one (powers.level 2 (omega arith)) (powers.level 3 (omega arith)) s1 p2 in
    let s3 = stage-passed q b3 x p 16 64 numbers second third positive (omega arith) minus_one (powers.level 4 (omega arith)) (powers.level 5 (omega arith)) s2 p3 in
    let s4 = stage-passed q b4 x p 64 16 numbers third fourth positive (omega arith) minus_one (powers.level 6 (omega arith)) (powers.level 7 (omega arith)) s3 p4 in
    let s5 = stage-passed q b5 x p 256 4 numbers fourth fifth positive (omega arith) minus_one (powers.level 8 (omega arith)) (powers.level 9 (omega arith)) s4 p5 in
    let s6 = stage-passed q b6 x p 1024 1 numbers fifth new positive (omega arith) minus_one (powers.level 10 (omega arith)) (powers.level 11 (omega arith)) s5 p6 in
    stage-values q 4096 x p new reduced.size reduced.below s6

pub coefficients_of_passes : (q x y c b1 b2 b3 b4 b5 b6 : ℕ) (numbers a first second third fourth fifth sixth new : List ℕ) → 0 < q
    → (x ^ 4096 + 1) % q ≡ 0 → (y ^ 4096 + 1) % q ≡ 0 → (x * y) % q ≡ 1 % q → IsTable q x numbers
    → AreReplaced q b1 1024 1 numbers a first 1024 → AreReplaced q b2 256 4 numbers first second 1024 → AreReplaced q b3 64 16 numbers second third 1024
    → AreReplaced q b4 16 64 numbers third fourth 1024 → AreReplaced q b5 4 256 numbers fourth fifth 1024 → AreReplaced q b6 1 1024 numbers fifth sixth 1024
    → ((i : ℕ) → i < 4096 → get_or new i 0 ≡ (get_or sixth i 0 * c) % q) → length new ≡ 4096 → new ≡ table 4096 (coefficient_from q 4096 y c (λ i. get_or a i 0))
coefficients_of_passes q x y c b1 b2 b3 b4 b5 b6 numbers a first second third fourth fifth sixth new positive minus_one turned inverse powers p1 p2 p3 p4 p5 p6 scaled len =
    let v : ℕ → ℕ = λ i. get_or a i 0 in
    let s1 = gathered-passed q b1 x y v 1024 1 numbers a first positive (omega arith) minus_one turned inverse (powers.level 10 (omega arith)) (powers.level 11 (omega arith)) (gathered-first q y a) p1 in
    let s2 = gathered-passed q b2 x y v 256 4 numbers first second positive (omega arith) minus_one turned inverse (powers.level 8 (omega arith)) (powers.level 9 (omega arith)) s1 p2 in
    let s3 = gathered-passed q b3 x y v 64 16 numbers second third positive (omega arith) minus_one turned inverse (powers.level 6 (omega arith)) (powers.level 7 (omega arith)) s2 p3 in
    let s4 = gathered-passed q b4 x y v 16 64 numbers third fourth positive (omega arith) minus_one turned inverse (powers.level 4 (omega arith)) (powers.level 5 (omega arith)) s3 p4 in
    let s5 = gathered-passed q b5 x y v 4 256 numbers fourth fifth positive (omega arith) minus_one turned inverse (powers.level 2 (omega arith)) (powers.level 3 (omega arith)) s4 p5 in
    let s6 = gathered-passed q b6 x y v 1 1024 numbers fifth sixth positive (omega arith) minus_one turned inverse (powers.level 0 (omega arith)) (powers.level 1 (omega arith)) s5 p6 in
    gathered-coefficients q 4096 y c v sixth new len scaled s6
