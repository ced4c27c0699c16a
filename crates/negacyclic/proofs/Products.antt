-- The products of lists modulo a number are products in the ring with x^n = c, where c is -1 modulo that number.
use Rattle.std.proofs.Common.{◌≡◌, ℕ, suc, ◌+◌, ◌-◌, ◌*◌, ◌/◌, ◌%◌, ◌<◌, ◌≤◌, List, length, get_or, refl, ap, ◌∙◌, sym, arith}
use Rattle.std.proofs.lemmas.List.{get_or_past}
use Rattle.std.proofs.Math.Nat.{mod-mod, mod-add-mod, mod-lt, mod-add-div, add-mul-mod_self_left}
use Rattle.psi_residue.specs.Ring.{conv, product_at, product}
use Rattle.psi_residue.proofs.Congruences.{cancel_term, minus_one-times}
use Rattle.psi_residue.proofs.Sums.{length-table, slice_index-table, table-same}
use Rattle.negacyclic.proofs.Ring.{ring, spread, spread-ring}

pub conv-spread : (a b : List ℕ) (s : ℕ) → conv a b s ≡ spread (λ i. get_or a i 0) (λ i. get_or b i 0) s
unfolding conv spread
conv-spread a b s = refl

-- a coefficient past the end is 0
pub past-end : (top : ℕ) (xs : List ℕ) → length xs ≡ suc top → (i : ℕ) → top < i → get_or xs i 0 ≡ 0
past-end top xs len i lt = get_or_past xs i 0 (omega arith)

-- ---- the coefficients of a product

pub length-product : (m n : ℕ) (a b : List ℕ) → length (product m n a b) ≡ n
unfolding product
length-product m n a b = length-table n (product_at m n a b)

pub slice_index-product : (m n : ℕ) (a b : List ℕ) (k : ℕ) → k < n → get_or (product m n a b) k 0 ≡ product_at m n a b k
unfolding product
slice_index-product m n a b k lt = slice_index-table n (product_at m n a b) k lt

-- products whose coefficients are equal are equal
pub product-equal : (m n : ℕ) (a b c d : List ℕ) → ((k : ℕ) → k < n → product_at m n a b k ≡ product_at m n c d k) → product m n a b ≡ product m n c d
unfolding product
product-equal m n a b c d same = table-same n (product_at m n a b) (product_at m n c d) same

pub product_at-below : (m n : ℕ) (a b : List ℕ) (k : ℕ) → 0 < m → product_at m n a b k < m
unfolding product_at
product_at-below m n a b k positive = mod-lt (conv a b k + (m - conv a b (k + n) % m)) positive

pub product_at-reduced : (m n : ℕ) (a b : List ℕ) (k : ℕ) → product_at m n a b k % m ≡ product_at m n a b k
unfolding product_at
product_at-reduced m n a b k = mod-mod (conv a b k + (m - conv a b (k + n) % m)) m

-- a coefficient of the product and what was taken away give the lower sum
pub product_at-conv : (m n : ℕ) (a b : List ℕ) (k : ℕ) → 0 < m → (product_at m n a b k + conv a b (k + n)) % m ≡ conv a b k % m
unfolding product_at
product_at-conv m n a b k positive = back (conv a b k) (conv a b (k + n))
  where
    back : (low high : ℕ) → ((low + (m - high % m)) % m + high) % m ≡ low % m
    back low high =
        let below = mod-lt high positive in
        let whole = mod-add-div high m in
        let e : low + (m - high % m) + high ≡ low + m * (1 + high / m) = omega (arith, whole, below) in
        mod-add-mod (low + (m - high % m)) m high ∙ ap (λ (u : ℕ). u % m) e ∙ add-mul-mod_self_left low m (1 + high / m)

-- what gives the lower sum with the upper sum is the coefficient
pub product_at-from : (m n y : ℕ) (a b : List ℕ) (k : ℕ) → 0 < m → (y + conv a b (k + n)) % m ≡ conv a b k % m → y % m ≡ product_at m n a b k
product_at-from m n y a b k positive e =
    cancel_term m y (product_at m n a b k) (conv a b (k + n)) positive (e ∙ sym (product_at-conv m n a b k positive)) ∙ product_at-reduced m n a b k

-- ---- the ring

-- the product modulo m in the ring with x^n = c
pub product-ring : (m c top : ℕ) (a b : List ℕ) → 0 < m → (c + 1) % m ≡ 0 → length a ≡ suc top → length b ≡ suc top
    → (k : ℕ) → k ≤ top → product_at m (suc top) a b k % m ≡ ring top c (λ i. get_or a i 0) (λ i. get_or b i 0) k % m
product-ring m c top a b positive e la lb k le =
    cancel_term m (product_at m (suc top) a b k) (ring top c (λ i. get_or a i 0) (λ i. get_or b i 0) k) (conv a b (k + suc top)) positive
    (product_at-conv m (suc top) a b k positive
    ∙ sym (ap (λ (u : ℕ). (u + conv a b (k + suc top)) % m) (sym exact) ∙ minus_one-times m c (conv a b (k + suc top)) (conv a b k) e))
  where
    exact : conv a b k + c * conv a b (k + suc top) ≡ ring top c (λ i. get_or a i 0) (λ i. get_or b i 0) k
    exact =
        let low = conv-spread a b k in
        let high = ap (λ (u : ℕ). c * u) (conv-spread a b (k + suc top)) in
        let whole = spread-ring top c (λ i. get_or a i 0) (λ i. get_or b i 0) (past-end top a la) (past-end top b lb) k le in
        omega (arith, low, high, whole)

-- as a list
pub list-ring : (m c top : ℕ) (a b : List ℕ) → 0 < m → (c + 1) % m ≡ 0 → length a ≡ suc top → length b ≡ suc top
    → (k : ℕ) → k ≤ top → get_or (product m (suc top) a b) k 0 % m ≡ ring top c (λ i. get_or a i 0) (λ i. get_or b i 0) k % m
list-ring m c top a b positive e la lb k le =
    ap (λ (u : ℕ). u % m) (slice_index-product m (suc top) a b k (omega arith)) ∙ product-ring m c top a b positive e la lb k le
