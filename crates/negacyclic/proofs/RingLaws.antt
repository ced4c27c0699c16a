-- Products modulo x^n + 1 and m form a commutative ring, and a value of a product is the product of the values.
use Rattle.std.proofs.Common.{◌≡◌, ℕ, zero, suc, ◌+◌, ◌-◌, ◌*◌, ◌%◌, ◌^◌, ◌<◌, ◌≤◌, List, length, get_or, refl, ap, ◌∙◌, sym, inl, inr, arith}
use Rattle.std.proofs.lemmas.Bool.{cases_lt}
use Rattle.std.proofs.lemmas.List.{get_or_past}
use Rattle.std.proofs.lemmas.Nat.{mul-mod}
use Rattle.std.proofs.Math.Nat.{mod-mod, mod_self}
use Rattle.psi_residue.specs.Numbers.{plain_modulus, ring_degree, root}
use Rattle.psi_residue.specs.Polynomials.{value_at}
use Rattle.psi_residue.specs.Ring.{conv, product_at, product}
use Rattle.psi_residue.specs.Slots.{slot_of}
use Rattle.psi_residue.specs.Sums.{sum_below}
use Rattle.psi_residue.proofs.Congruences.{sum_congruent, plus_congruent}
use Rattle.psi_residue.proofs.Powers.{odd_root}
use Rattle.psi_residue.proofs.Sums.{length-table, slice_index-table, same_as_table}
use Rattle.negacyclic.specs.Laws.{sum_modulo}
use Rattle.negacyclic.proofs.Ring.{ring, ring-assoc, ring-mod, spread-comm, spread-plus, spread-mod}
use Rattle.negacyclic.proofs.Products.{conv-spread, length-product, slice_index-product, product-equal, product_at-reduced, product_at-conv, product_at-from, product-ring, list-ring}
use Rattle.negacyclic.proofs.RingValues.{value, value-ring, value-mod, odd-value}

-- ---- order

conv-comm : (a b : List ℕ) (s : ℕ) → conv a b s ≡ conv b a s
conv-comm a b s = conv-spread a b s ∙ spread-comm (λ i. get_or a i 0) (λ j. get_or b j 0) s ∙ sym (conv-spread b a s)

-- the factors may be exchanged
pub product-comm : (m n : ℕ) (a b : List ℕ) → product m n a b ≡ product m n b a
unfolding product_at
product-comm m n a b = product-equal m n a b b a (λ k lt. λ i. (conv-comm a b k i + (m - conv-comm a b (k + n) i % m)) % m)

-- ---- grouping

-- three factors may be grouped either way
pub product-assoc : (m n : ℕ) (a b c : List ℕ) → 0 < m → length a ≡ n → length b ≡ n → length c ≡ n → product m n (product m n a b) c ≡ product m n a (product m n b c)
product-assoc zero n a b c positive la lb lc = absurd (omega arith)
product-assoc (suc d) zero a b c positive la lb lc = product-equal (suc d) zero (product (suc d) zero a b) c a (product (suc d) zero b c) (λ k lt. absurd (omega arith))
product-assoc (suc d) (suc top) a b c positive la lb lc = product-equal m n (product m n a b) c a (product m n b c) (λ k lt. same k (omega arith))
  where
    m : ℕ
    m = suc d

    n : ℕ
    n = suc top

    minus_one : (d + 1) % suc d ≡ 0
    minus_one = let e : d + 1 ≡ suc d = omega arith in ap (λ (u : ℕ). u % suc d) e ∙ mod_self (suc d)

    same : (k : ℕ) → k ≤ top → product_at m n (product m n a b) c k ≡ product_at m n a (product m n b c) k
    same k le =
        sym (product_at-reduced m n (product m n a b) c k)
        ∙ product-ring m d top (product m n a b) c positive minus_one (length-product m n a b) lc k le
        ∙ ring-mod m top d d (λ i. get_or (product m n a b) i 0) (ring top d (λ i. get_or a i 0) (λ i. get_or b i 0)) (λ i. get_or c i 0) (λ i. get_or c i 0) refl
        (λ i within. list-ring m d top a b positive minus_one la lb i within) (λ i within. refl) k le
        ∙ ap (λ (u : ℕ). u % m) (ring-assoc top d (λ i. get_or a i 0) (λ i. get_or b i 0) (λ i. get_or c i 0) k le)
        ∙ sym (product-ring m d top a (product m n b c) positive minus_one la (length-product m n b c) k le
        ∙ ring-mod m top d d (λ i. get_or a i 0) (λ i. get_or a i 0) (λ i. get_or (product m n b c) i 0) (ring top d (λ i. get_or b i 0) (λ i. get_or c i 0)) refl
        (λ i within. refl) (λ i within. list-ring m d top b c positive minus_one lb lc i within) k le)
        ∙ product_at-reduced m n a (product m n b c) k

-- ---- sums

pub slice_index-sum_modulo : (m n : ℕ) (a b : List ℕ) (i : ℕ) → i < n → get_or (sum_modulo m n a b) i 0 ≡ (get_or a i 0 + get_or b i 0) % m
unfolding sum_modulo
slice_index-sum_modulo m n a b i lt = slice_index-table n (λ i. (get_or a i 0 + get_or b i 0) % m) i lt

length-sum_modulo : (m n : ℕ) (a b : List ℕ) → length (sum_modulo m n a b) ≡ n
unfolding sum_modulo
length-sum_modulo m n a b = length-table n (λ i. (get_or a i 0 + get_or b i 0) % m)

-- a list of n elements is the sum of two if each element is the sum of theirs
same_as_sum : (m n : ℕ) (a b c : List ℕ) → length c ≡ n → ((i : ℕ) → i < n → get_or c i 0 ≡ (get_or a i 0 + get_or b i 0) % m) → c ≡ sum_modulo m n a b
unfolding sum_modulo
same_as_sum m n a b c size each = same_as_table n (λ i. (get_or a i 0 + get_or b i 0) % m) c size each

-- an element of a sum modulo m, also past the end
sum_modulo-any : (m n : ℕ) (a b : List ℕ) (i : ℕ) → length a ≤ n → length b ≤ n → get_or (sum_modulo m n a b) i 0 % m ≡ (get_or a i 0 + get_or b i 0) % m
sum_modulo-any m n a b i a_size b_size =
    elim (cases_lt i n) [
      | inl below ↦ ap (λ (u : ℕ). u % m) (slice_index-sum_modulo m n a b i below) ∙ mod-mod (get_or a i 0 + get_or b i 0) m
      | inr above ↦
          let size = length-sum_modulo m n a b in
          let left = get_or_past (sum_modulo m n a b) i 0 (omega (arith, size)) in
          let first = get_or_past a i 0 (omega arith) in
          let second = get_or_past b i 0 (omega arith) in
          let e : get_or (sum_modulo m n a b) i 0 ≡ get_or a i 0 + get_or b i 0 = omega (arith, left, first, second) in
          ap (λ (u : ℕ). u % m) e
    ]

-- a coefficient of the product of a sum
product_at-add : (m n : ℕ) (a b c h : List ℕ) (k : ℕ) → 0 < m → ((i : ℕ) → get_or c i 0 % m ≡ (get_or a i 0 + get_or b i 0) % m) → product_at m n c h k ≡ (product_at m n a h k + product_at m n b h k) % m
product_at-add m n a b c h k positive sums =
    sym (product_at-from m n (product_at m n a h k + product_at m n b h k) c h k positive
    (plus_congruent m (product_at m n a h k + product_at m n b h k) (conv c h (k + n)) (conv a h (k + n) + conv b h (k + n)) (parted (k + n))
    ∙ ap (λ (u : ℕ). u % m) (turned (product_at m n a h k) (product_at m n b h k) (conv a h (k + n)) (conv b h (k + n)))
    ∙ sum_congruent m (product_at m n a h k + conv a h (k + n)) (conv a h k) (product_at m n b h k + conv b h (k + n)) (conv b h k)
    (product_at-conv m n a h k positive) (product_at-conv m n b h k positive)
    ∙ sym (parted k)))
  where
    turned : (u v y z : ℕ) → u + v + (y + z) ≡ u + y + (v + z)
    turned u v y z = omega arith

    parted : (s : ℕ) → conv c h s % m ≡ (conv a h s + conv b h s) % m
    parted s =
        ap (λ (u : ℕ). u % m) (conv-spread c h s)
        ∙ spread-mod m (λ i. get_or c i 0) (λ i. get_or a i 0 + get_or b i 0) (λ j. get_or h j 0) s sums
        ∙ ap (λ (u : ℕ). u % m) (spread-plus (λ i. get_or a i 0) (λ i. get_or b i 0) (λ j. get_or h j 0) s)
        ∙ sym (λ i. (conv-spread a h s i + conv-spread b h s i) % m)

-- the product of a sum is the sum of the products
pub product-distribute : (m n : ℕ) (a b c : List ℕ) → 0 < m → length a ≡ n → length b ≡ n → product m n (sum_modulo m n a b) c ≡ sum_modulo m n (product m n a c) (product m n b c)
product-distribute m n a b c positive la lb =
    same_as_sum m n (product m n a c) (product m n b c) (product m n (sum_modulo m n a b) c) (length-product m n (sum_modulo m n a b) c) (λ k lt. each k lt)
  where
    each : (k : ℕ) → k < n → get_or (product m n (sum_modulo m n a b) c) k 0 ≡ (get_or (product m n a c) k 0 + get_or (product m n b c) k 0) % m
    each k lt =
        slice_index-product m n (sum_modulo m n a b) c k lt
        ∙ product_at-add m n a b (sum_modulo m n a b) c k positive (λ i. sum_modulo-any m n a b i (omega arith) (omega arith))
        ∙ sym (λ i. (slice_index-product m n a c k lt i + slice_index-product m n b c k lt i) % m)

-- ---- values

-- where x^n is -1, the value of the product is the product of the values
pub product-values : (m n x : ℕ) (a b : List ℕ) → 0 < m → (x ^ n + 1) % m ≡ 0 → length a ≡ n → length b ≡ n
    → value n x (λ i. get_or (product m n a b) i 0) % m ≡ (value n x (λ i. get_or a i 0) * value n x (λ i. get_or b i 0)) % m
unfolding value sum_below
product-values m zero x a b positive minus_one la lb = refl
product-values m (suc top) x a b positive minus_one la lb =
    value-mod m (suc top) x (λ i. get_or (product m (suc top) a b) i 0) (ring top (x ^ suc top) (λ i. get_or a i 0) (λ i. get_or b i 0))
    (λ i lt. list-ring m (x ^ suc top) top a b positive minus_one la lb i (omega arith))
    ∙ value-ring m top (x ^ suc top) x (λ i. get_or a i 0) (λ i. get_or b i 0) refl

-- of values that are reduced first
pub reduced-values : (m x y z : ℕ) → x % m ≡ (y * z) % m → x % m ≡ (y % m * (z % m)) % m
reduced-values m x y z e = e ∙ mul-mod y z m

value_at-value : (m n x : ℕ) (p : List ℕ) → length p ≡ n → value_at m p x ≡ value n x (λ i. get_or p i 0) % m
unfolding value_at value
value_at-value m n x p size = ap (λ (k : ℕ). sum_below k (λ i. get_or p i 0 * x ^ i) % m) size

-- the value of a product at a number whose n-th power is -1
pub product-value : (m n x : ℕ) (a b : List ℕ) → 0 < m → (x ^ n + 1) % m ≡ 0 → length a ≡ n → length b ≡ n → value_at m (product m n a b) x ≡ (value_at m a x * value_at m b x) % m
product-value m n x a b positive minus_one la lb =
    value_at-value m n x (product m n a b) (length-product m n a b)
    ∙ reduced-values m _ _ _ (product-values m n x a b positive minus_one la lb)
    ∙ sym (λ i. (value_at-value m n x a la i * value_at-value m n x b lb i) % m)

pub root_is : (root ^ ring_degree + 1) % plain_modulus ≡ 0
unfolding root
root_is = refl

pub slot-value : (p : List ℕ) (j : ℕ) → slot_of p j ≡ value ring_degree (root ^ (2 * j + 1)) (λ i. get_or p i 0) % plain_modulus
unfolding slot_of
slot-value p j = odd-value plain_modulus ring_degree root (λ i. get_or p i 0) j

-- the slots of a product
pub product-slot : (a b : List ℕ) (j : ℕ) → length a ≡ ring_degree → length b ≡ ring_degree → slot_of (product plain_modulus ring_degree a b) j ≡ (slot_of a j * slot_of b j) % plain_modulus
product-slot a b j la lb =
    slot-value (product plain_modulus ring_degree a b) j
    ∙ reduced-values plain_modulus _ _ _ (product-values plain_modulus ring_degree (root ^ (2 * j + 1)) a b (omega arith) (odd_root plain_modulus ring_degree root j root_is) la lb)
    ∙ sym (λ i. (slot-value a j i * slot-value b j i) % plain_modulus)
