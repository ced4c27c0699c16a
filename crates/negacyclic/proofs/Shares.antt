-- Shares of a polynomial's coefficients: the terms of the values j, j + l, j + 2l, .. in the sum that gives a coefficient back.
use Rattle.std.proofs.Common.{◌≡◌, ℕ, ◌+◌, ◌*◌, ◌%◌, ◌^◌, ◌<◌, refl, ap, ◌∙◌, arith}
use Rattle.std.proofs.lemmas.Nat.{pow-add}
use Rattle.std.proofs.Math.Nat.{pow-zero}
use Rattle.psi_residue.specs.Slots.{coefficient_from}
use Rattle.psi_residue.specs.Sums.{sum_below}
use Rattle.psi_residue.proofs.Sums.{sum_below-same, sum_below-times}
use Rattle.psi_residue.proofs.Sums.{sum_below-suc}
use Rattle.psi_residue.proofs.Congruences.{sum_congruent, product_congruent, add_multiple, times_multiple, sum_below-mod}
use Rattle.negacyclic.proofs.MinusOnes.{same_negative, turned_power, further_power}
use Rattle.negacyclic.proofs.Parts.{sum_below-pairs}

-- the sum of v_k * y^((2k + 1) * r) over the n places k from j on, each l further
unfoldable pub share : (v : ℕ → ℕ) → (y l n r j : ℕ) → ℕ
share v y l n r j = sum_below n (λ k. v (j + l * k) * y ^ ((2 * (j + l * k) + 1) * r))

-- a share is two shares of half as many places
pub share-halves : (v : ℕ → ℕ) (y l n r j : ℕ) → share v y l (n + n) r j ≡ share v y (l + l) n r j + share v y (l + l) n r (j + l)
unfolding share
share-halves v y l n r j =
    sum_below-pairs n (λ k. v (j + l * k) * y ^ ((2 * (j + l * k) + 1) * r))
    ∙ ap (λ (u : ℕ). u + sum_below n (λ k. v (j + l * (k + k + 1)) * y ^ ((2 * (j + l * (k + k + 1)) + 1) * r)))
    (sum_below-same n (λ k. v (j + l * (k + k)) * y ^ ((2 * (j + l * (k + k)) + 1) * r)) (λ k. v (j + (l + l) * k) * y ^ ((2 * (j + (l + l) * k) + 1) * r)) (λ k lt. even k))
    ∙ ap (λ (u : ℕ). sum_below n (λ k. v (j + (l + l) * k) * y ^ ((2 * (j + (l + l) * k) + 1) * r)) + u)
    (sum_below-same n (λ k. v (j + l * (k + k + 1)) * y ^ ((2 * (j + l * (k + k + 1)) + 1) * r)) (λ k. v (j + l + (l + l) * k) * y ^ ((2 * (j + l + (l + l) * k) + 1) * r)) (λ k lt. odd k))
  where
    even : (k : ℕ) → v (j + l * (k + k)) * y ^ ((2 * (j + l * (k + k)) + 1) * r) ≡ v (j + (l + l) * k) * y ^ ((2 * (j + (l + l) * k) + 1) * r)
    even k =
        let place : j + l * (k + k) ≡ j + (l + l) * k = omega arith in
        ap (λ (u : ℕ). v u * y ^ ((2 * u + 1) * r)) place

    odd : (k : ℕ) → v (j + l * (k + k + 1)) * y ^ ((2 * (j + l * (k + k + 1)) + 1) * r) ≡ v (j + l + (l + l) * k) * y ^ ((2 * (j + l + (l + l) * k) + 1) * r)
    odd k =
        let place : j + l * (k + k + 1) ≡ j + l + (l + l) * k = omega arith in
        ap (λ (u : ℕ). v u * y ^ ((2 * u + 1) * r)) place

-- n coefficients on, where y^(l * n) is minus one: each term has the same power more
pub share-further : (q : ℕ) (v : ℕ → ℕ) (y l n r j : ℕ) → (y ^ (l * n) + 1) % q ≡ 0 → share v y l n (r + n) j % q ≡ (y ^ ((2 * j + 1) * n) * share v y l n r j) % q
unfolding share
share-further q v y l n r j minus_one =
    sum_below-mod q n (λ k. v (j + l * k) * y ^ ((2 * (j + l * k) + 1) * (r + n))) (λ k. y ^ ((2 * j + 1) * n) * (v (j + l * k) * y ^ ((2 * (j + l * k) + 1) * r))) (λ k lt. term k)
    ∙ ap (λ (u : ℕ). u % q) (sum_below-times n (y ^ ((2 * j + 1) * n)) (λ k. v (j + l * k) * y ^ ((2 * (j + l * k) + 1) * r)))
  where
    regrouped : (a b c : ℕ) → a * (b * c) ≡ c * (a * b)
    regrouped a b c = omega arith

    term : (k : ℕ) → (v (j + l * k) * y ^ ((2 * (j + l * k) + 1) * (r + n))) % q ≡ (y ^ ((2 * j + 1) * n) * (v (j + l * k) * y ^ ((2 * (j + l * k) + 1) * r))) % q
    term k =
        let power : (2 * (j + l * k) + 1) * (r + n) ≡ (2 * (j + l * k) + 1) * r + (2 * j + 1) * n + 2 * k * (l * n) = omega arith in
        product_congruent q (v (j + l * k)) (v (j + l * k)) (y ^ ((2 * (j + l * k) + 1) * (r + n))) (y ^ ((2 * (j + l * k) + 1) * r) * y ^ ((2 * j + 1) * n)) refl
        (ap (λ (u : ℕ). y ^ u % q) power
        ∙ further_power q y ((2 * (j + l * k) + 1) * r + (2 * j + 1) * n) (l * n) k minus_one
        ∙ ap (λ (u : ℕ). u % q) (pow-add y ((2 * (j + l * k) + 1) * r) ((2 * j + 1) * n)))
        ∙ ap (λ (u : ℕ). u % q) (regrouped (v (j + l * k)) (y ^ ((2 * (j + l * k) + 1) * r)) (y ^ ((2 * j + 1) * n)))

-- n coefficients on, by a factor w that is minus the power at j: it is the power at j + l
pub share-halves_further : (q : ℕ) (v : ℕ → ℕ) (y l n r j w : ℕ) → 0 < q → (y ^ ((l + l) * n) + 1) % q ≡ 0 → (w + y ^ ((2 * j + 1) * n)) % q ≡ 0
    → (share v y l (n + n) (r + n) j + w * share v y (l + l) n r j) % q ≡ (w * share v y (l + l) n r (j + l)) % q
share-halves_further q v y l n r j w positive minus_one opposite =
    ap (λ (u : ℕ). (u + w * share v y (l + l) n r j) % q) (share-halves v y l n (r + n) j)
    ∙ sum_congruent q
    (share v y (l + l) n (r + n) j + share v y (l + l) n (r + n) (j + l)) (y ^ ((2 * j + 1) * n) * share v y (l + l) n r j + w * share v y (l + l) n r (j + l))
    (w * share v y (l + l) n r j) (w * share v y (l + l) n r j)
    (sum_congruent q (share v y (l + l) n (r + n) j) (y ^ ((2 * j + 1) * n) * share v y (l + l) n r j) (share v y (l + l) n (r + n) (j + l)) (w * share v y (l + l) n r (j + l))
    (share-further q v y (l + l) n r j minus_one)
    (share-further q v y (l + l) n r (j + l) minus_one
    ∙ product_congruent q (y ^ ((2 * (j + l) + 1) * n)) w (share v y (l + l) n r (j + l)) (share v y (l + l) n r (j + l)) (same_negative q (y ^ ((2 * (j + l) + 1) * n)) w (y ^ ((2 * j + 1) * n)) positive turned opposite) refl))
    refl
    ∙ ap (λ (u : ℕ). u % q) (collected (y ^ ((2 * j + 1) * n)) (share v y (l + l) n r j) (w * share v y (l + l) n r (j + l)) w)
    ∙ add_multiple q (w * share v y (l + l) n r (j + l)) (share v y (l + l) n r j * (w + y ^ ((2 * j + 1) * n)))
    (times_multiple q (share v y (l + l) n r j) (w + y ^ ((2 * j + 1) * n)) opposite)
  where
    collected : (u s b w : ℕ) → u * s + b + w * s ≡ b + s * (w + u)
    collected u s b w = omega arith

    turned : (y ^ ((2 * (j + l) + 1) * n) + y ^ ((2 * j + 1) * n)) % q ≡ 0
    turned =
        let power : (2 * (j + l) + 1) * n ≡ (2 * j + 1) * n + (l + l) * n = omega arith in
        ap (λ (u : ℕ). (y ^ u + y ^ ((2 * j + 1) * n)) % q) power ∙ turned_power q y ((2 * j + 1) * n) ((l + l) * n) minus_one

-- a share of one value, in coefficient 0, is that value
pub share-first : (v : ℕ → ℕ) (y l j : ℕ) → share v y l 1 0 j ≡ v j
unfolding share sum_below
share-first v y l j =
    let place : j + l * 0 ≡ j = omega arith in
    let power : (2 * j + 1) * 0 ≡ 0 = omega arith in
    sum_below-suc 0 (λ k. v (j + l * k) * y ^ ((2 * (j + l * k) + 1) * 0))
    ∙ ap (λ (u : ℕ). 0 + v u * y ^ ((2 * u + 1) * 0)) place
    ∙ ap (λ (u : ℕ). 0 + v j * u) (ap (λ (u : ℕ). y ^ u) power ∙ pow-zero y)
    ∙ (let z : 0 + v j * 1 ≡ v j = omega arith in z)

-- the share of all values, scaled, is the coefficient
pub share-whole : (q : ℕ) (v : ℕ → ℕ) (y n r c : ℕ) → (c * share v y 1 n r 0) % q ≡ coefficient_from q n y c v r
unfolding share coefficient_from
share-whole q v y n r c =
    ap (λ (u : ℕ). (c * u) % q)
    (sum_below-same n (λ k. v (0 + 1 * k) * y ^ ((2 * (0 + 1 * k) + 1) * r)) (λ k. v k * y ^ ((2 * k + 1) * r)) (λ k lt. term k))
  where
    term : (k : ℕ) → v (0 + 1 * k) * y ^ ((2 * (0 + 1 * k) + 1) * r) ≡ v k * y ^ ((2 * k + 1) * r)
    term k =
        let place : 0 + 1 * k ≡ k = omega arith in
        ap (λ (u : ℕ). v u * y ^ ((2 * u + 1) * r)) place
