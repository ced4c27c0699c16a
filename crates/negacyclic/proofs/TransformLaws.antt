-- Values and polynomials undo each other, and the values of products are products of values.
use Rattle.std.proofs.Common.{◌≡◌, ℕ, ◌+◌, ◌*◌, ◌%◌, ◌^◌, ◌<◌, List, length, get_or, refl, ap, ◌∙◌, sym, subst, inl, inr, arith, replicate}
use Rattle.std.proofs.lemmas.Bool.{cases_lt}
use Rattle.std.proofs.lemmas.List.{get_or_past, get_or-replicate, length-replicate}
use Rattle.std.proofs.lemmas.Nat.{mul-mod_first}
use Rattle.std.proofs.Math.Nat.{mod-lt, mod-eq_of_lt, mod-mod}
use Rattle.psi_residue.specs.declared.numbers.Modulus.{Modulus}
use Rattle.psi_residue.specs.declared.numbers.Modulus.TheVariants as moduli
use Rattle.psi_residue.specs.Numbers.{modulus_of, root, root_inverse, degree_inverse, root_of, root_inverse_of, degree_inverse_of}
use Rattle.psi_residue.specs.Polynomials.{IsPolynomial}
use Rattle.psi_residue.specs.Ring.{product_at, product}
use Rattle.psi_residue.specs.Slots.{value_at_odd, coefficient_from}
use Rattle.psi_residue.specs.Sums.{sum_below, table}
use Rattle.psi_residue.proofs.RootFacts.{root_of-minus_one, root_inverse_of-minus_one, root_of-inverse}
use Rattle.psi_residue.proofs.Sums.{sum_below-same, sum_below-add, length-table, slice_index-table, same_as_table}
use Rattle.negacyclic.specs.Laws.{sum_modulo}
use Rattle.negacyclic.specs.Butterflies.{IsTable}
use Rattle.negacyclic.specs.Transforms.{values_of, polynomial_of, with_products}
use Rattle.psi_residue.proofs.Congruences.{sum_congruent, sum_below-mod}
use Rattle.psi_residue.proofs.Moduli.{modulus-positive}
use Rattle.psi_residue.proofs.Powers.{odd_root}
use Rattle.negacyclic.proofs.Products.{length-product, slice_index-product}
use Rattle.negacyclic.proofs.RingValues.{odd-value}
use Rattle.negacyclic.proofs.RingLaws.{product-values, reduced-values, slice_index-sum_modulo}
use Rattle.negacyclic.proofs.Inversion.{IsTransform, value_of_coefficients, coefficient_of_values}

pub is_transform : (m : Modulus) → IsTransform (modulus_of m) 12 (root_of m) (root_inverse_of m) (degree_inverse_of m)
unfolding root_of root root_inverse_of root_inverse degree_inverse_of degree_inverse
is_transform moduli.Q1 = record { forward = refl; backward = refl; inverse = refl; scaled = refl }
is_transform moduli.Q2 = record { forward = refl; backward = refl; inverse = refl; scaled = refl }
is_transform moduli.T = record { forward = refl; backward = refl; inverse = refl; scaled = refl }

-- ---- lists of values and coefficients

pub length-values_of : (m : Modulus) (p : List ℕ) → length (values_of m p) ≡ 4096
unfolding values_of
length-values_of m p = length-table 4096 (value_at_odd (modulus_of m) 4096 (root_of m) (λ i. get_or p i 0))

pub get_or-values_of : (m : Modulus) (p : List ℕ) (j : ℕ) → j < 4096 → get_or (values_of m p) j 0 ≡ value_at_odd (modulus_of m) 4096 (root_of m) (λ i. get_or p i 0) j
unfolding values_of
get_or-values_of m p j lt = slice_index-table 4096 (value_at_odd (modulus_of m) 4096 (root_of m) (λ i. get_or p i 0)) j lt

pub length-polynomial_of : (m : Modulus) (v : List ℕ) → length (polynomial_of m v) ≡ 4096
unfolding polynomial_of
length-polynomial_of m v = length-table 4096 (coefficient_from (modulus_of m) 4096 (root_inverse_of m) (degree_inverse_of m) (λ i. get_or v i 0))

pub get_or-polynomial_of : (m : Modulus) (v : List ℕ) (i : ℕ) → i < 4096 → get_or (polynomial_of m v) i 0 ≡ coefficient_from (modulus_of m) 4096 (root_inverse_of m) (degree_inverse_of m) (λ j. get_or v j 0) i
unfolding polynomial_of
get_or-polynomial_of m v i lt = slice_index-table 4096 (coefficient_from (modulus_of m) 4096 (root_inverse_of m) (degree_inverse_of m) (λ j. get_or v j 0)) i lt

value_at_odd-below : (m n x : ℕ) (p : ℕ → ℕ) (j : ℕ) → 0 < m → value_at_odd m n x p j < m
unfolding value_at_odd
value_at_odd-below m n x p j positive = mod-lt (sum_below n (λ i. p i * x ^ ((2 * j + 1) * i))) positive

coefficient_from-below : (m n y c : ℕ) (v : ℕ → ℕ) (i : ℕ) → 0 < m → coefficient_from m n y c v i < m
unfolding coefficient_from
coefficient_from-below m n y c v i positive = mod-lt (c * sum_below n (λ j. v j * y ^ ((2 * j + 1) * i))) positive

pub IsPolynomial-values_of : (m : Modulus) (p : List ℕ) → IsPolynomial (modulus_of m) (values_of m p)
IsPolynomial-values_of m p = record {
  size = length-values_of m p;
  below = λ j lt. rw (get_or-values_of m p j lt) (value_at_odd-below (modulus_of m) 4096 (root_of m) (λ i. get_or p i 0) j (modulus-positive m));
}

pub IsPolynomial-polynomial_of : (m : Modulus) (v : List ℕ) → IsPolynomial (modulus_of m) (polynomial_of m v)
IsPolynomial-polynomial_of m v = record {
  size = length-polynomial_of m v;
  below = λ i lt. rw (get_or-polynomial_of m v i lt) (coefficient_from-below (modulus_of m) 4096 (root_inverse_of m) (degree_inverse_of m) (λ j. get_or v j 0) i (modulus-positive m));
}

-- ---- they undo each other

pub value-same : (m n x : ℕ) (p q : ℕ → ℕ) (j : ℕ) → ((i : ℕ) → i < n → p i ≡ q i) → value_at_odd m n x p j ≡ value_at_odd m n x q j
unfolding value_at_odd
value-same m n x p q j h = ap (λ (u : ℕ). u % m) (sum_below-same n (λ i. p i * x ^ ((2 * j + 1) * i)) (λ i. q i * x ^ ((2 * j + 1) * i)) (λ i lt. ap (λ (u : ℕ). u * x ^ ((2 * j + 1) * i)) (h i lt)))

pub coefficient-same : (m n y c : ℕ) (v w : ℕ → ℕ) (i : ℕ) → ((j : ℕ) → j < n → v j ≡ w j) → coefficient_from m n y c v i ≡ coefficient_from m n y c w i
unfolding coefficient_from
coefficient-same m n y c v w i h = ap (λ (u : ℕ). (c * u) % m) (sum_below-same n (λ j. v j * y ^ ((2 * j + 1) * i)) (λ j. w j * y ^ ((2 * j + 1) * i)) (λ j lt. ap (λ (u : ℕ). u * y ^ ((2 * j + 1) * i)) (h j lt)))

pub polynomial_of-values_of : (m : Modulus) (p : List ℕ) → IsPolynomial (modulus_of m) p → polynomial_of m (values_of m p) ≡ p
unfolding polynomial_of
polynomial_of-values_of m p polynomial = sym (same_as_table 4096 (coefficient_from (modulus_of m) 4096 (root_inverse_of m) (degree_inverse_of m) (λ j. get_or (values_of m p) j 0)) p polynomial.size (λ i lt. sym (each i lt)))
  where
    each : (i : ℕ) → i < 4096 → coefficient_from (modulus_of m) 4096 (root_inverse_of m) (degree_inverse_of m) (λ j. get_or (values_of m p) j 0) i ≡ get_or p i 0
    each i lt =
        coefficient-same (modulus_of m) 4096 (root_inverse_of m) (degree_inverse_of m) (λ j. get_or (values_of m p) j 0) (value_at_odd (modulus_of m) 4096 (root_of m) (λ k. get_or p k 0)) i (λ j below. get_or-values_of m p j below)
        ∙ coefficient_of_values (modulus_of m) 12 (root_of m) (root_inverse_of m) (degree_inverse_of m) (λ k. get_or p k 0) i (is_transform m) lt
        ∙ mod-eq_of_lt (polynomial.below i lt)

pub values_of-polynomial_of : (m : Modulus) (v : List ℕ) → IsPolynomial (modulus_of m) v → values_of m (polynomial_of m v) ≡ v
unfolding values_of
values_of-polynomial_of m v values = sym (same_as_table 4096 (value_at_odd (modulus_of m) 4096 (root_of m) (λ i. get_or (polynomial_of m v) i 0)) v values.size (λ j lt. sym (each j lt)))
  where
    each : (j : ℕ) → j < 4096 → value_at_odd (modulus_of m) 4096 (root_of m) (λ i. get_or (polynomial_of m v) i 0) j ≡ get_or v j 0
    each j lt =
        value-same (modulus_of m) 4096 (root_of m) (λ i. get_or (polynomial_of m v) i 0) (coefficient_from (modulus_of m) 4096 (root_inverse_of m) (degree_inverse_of m) (λ k. get_or v k 0)) j (λ i below. get_or-polynomial_of m v i below)
        ∙ value_of_coefficients (modulus_of m) 12 (root_of m) (root_inverse_of m) (degree_inverse_of m) (λ k. get_or v k 0) j (is_transform m) lt
        ∙ mod-eq_of_lt (values.below j lt)

-- ---- sums and products

value-sum : (m n x : ℕ) (p q r : ℕ → ℕ) (j : ℕ) → ((i : ℕ) → i < n → r i ≡ (p i + q i) % m) → value_at_odd m n x r j ≡ (value_at_odd m n x p j + value_at_odd m n x q j) % m
unfolding value_at_odd
value-sum m n x p q r j h =
    sum_below-mod m n (λ i. r i * x ^ ((2 * j + 1) * i)) (λ i. p i * x ^ ((2 * j + 1) * i) + q i * x ^ ((2 * j + 1) * i)) (λ i lt. term i lt)
    ∙ ap (λ (u : ℕ). u % m) (sum_below-add n (λ i. p i * x ^ ((2 * j + 1) * i)) (λ i. q i * x ^ ((2 * j + 1) * i)))
    ∙ sym (sum_congruent m (first % m) first (second % m) second (mod-mod first m) (mod-mod second m))
  where
    first : ℕ
    first = sum_below n (λ i. p i * x ^ ((2 * j + 1) * i))

    second : ℕ
    second = sum_below n (λ i. q i * x ^ ((2 * j + 1) * i))

    parted : (a b c : ℕ) → (a + b) * c ≡ a * c + b * c
    parted a b c = omega arith

    term : (i : ℕ) → i < n → (r i * x ^ ((2 * j + 1) * i)) % m ≡ (p i * x ^ ((2 * j + 1) * i) + q i * x ^ ((2 * j + 1) * i)) % m
    term i lt =
        ap (λ (u : ℕ). (u * x ^ ((2 * j + 1) * i)) % m) (h i lt)
        ∙ mul-mod_first (p i + q i) (x ^ ((2 * j + 1) * i)) m
        ∙ ap (λ (u : ℕ). u % m) (parted (p i) (q i) (x ^ ((2 * j + 1) * i)))

-- the value of a product at an odd power of a number whose n-th power is -1
product-value_odd : (m n x : ℕ) (a b : List ℕ) (j : ℕ) → 0 < m → (x ^ n + 1) % m ≡ 0 → length a ≡ n → length b ≡ n
    → value_at_odd m n x (λ i. get_or (product m n a b) i 0) j ≡ (value_at_odd m n x (λ i. get_or a i 0) j * value_at_odd m n x (λ i. get_or b i 0) j) % m
product-value_odd m n x a b j positive minus_one first second =
    odd-value m n x (λ i. get_or (product m n a b) i 0) j
    ∙ reduced-values m _ _ _ (product-values m n (x ^ (2 * j + 1)) a b positive (odd_root m n x j minus_one) first second)
    ∙ sym (λ i. (odd-value m n x (λ k. get_or a k 0) j i * odd-value m n x (λ k. get_or b k 0) j i) % m)

-- the value of a product, place by place
pub value-product : (m : Modulus) (a b : List ℕ) (j : ℕ) → IsPolynomial (modulus_of m) a → IsPolynomial (modulus_of m) b → j < 4096
    → value_at_odd (modulus_of m) 4096 (root_of m) (λ i. get_or (product (modulus_of m) 4096 a b) i 0) j ≡ (get_or (values_of m a) j 0 * get_or (values_of m b) j 0) % modulus_of m
value-product m a b j first second lt =
    product-value_odd (modulus_of m) 4096 (root_of m) a b j (modulus-positive m) (root_of-minus_one m) first.size second.size
    ∙ sym (λ i. (get_or-values_of m a j lt i * get_or-values_of m b j lt i) % modulus_of m)

pub values_of_products : (m : Modulus) (sum a b : List ℕ) → IsPolynomial (modulus_of m) sum → IsPolynomial (modulus_of m) a → IsPolynomial (modulus_of m) b
    → with_products (modulus_of m) (values_of m sum) (values_of m a) (values_of m b) ≡ values_of m (sum_modulo (modulus_of m) 4096 sum (product (modulus_of m) 4096 a b))
unfolding with_products
values_of_products m sum a b whole first second =
    sym (same_as_table 4096 (λ i. (get_or (values_of m sum) i 0 + get_or (values_of m a) i 0 * get_or (values_of m b) i 0) % modulus_of m)
    (values_of m (sum_modulo (modulus_of m) 4096 sum (product (modulus_of m) 4096 a b))) (length-values_of m (sum_modulo (modulus_of m) 4096 sum (product (modulus_of m) 4096 a b))) (λ j lt. each j lt))
  where
    each : (j : ℕ) → j < 4096 → get_or (values_of m (sum_modulo (modulus_of m) 4096 sum (product (modulus_of m) 4096 a b))) j 0 ≡ (get_or (values_of m sum) j 0 + get_or (values_of m a) j 0 * get_or (values_of m b) j 0) % modulus_of m
    each j lt =
        get_or-values_of m (sum_modulo (modulus_of m) 4096 sum (product (modulus_of m) 4096 a b)) j lt
        ∙ value-sum (modulus_of m) 4096 (root_of m) (λ i. get_or sum i 0) (λ i. get_or (product (modulus_of m) 4096 a b) i 0) (λ i. get_or (sum_modulo (modulus_of m) 4096 sum (product (modulus_of m) 4096 a b)) i 0) j
        (λ i below. slice_index-sum_modulo (modulus_of m) 4096 sum (product (modulus_of m) 4096 a b) i below)
        ∙ sum_congruent (modulus_of m)
        (value_at_odd (modulus_of m) 4096 (root_of m) (λ i. get_or sum i 0) j) (get_or (values_of m sum) j 0)
        (value_at_odd (modulus_of m) 4096 (root_of m) (λ i. get_or (product (modulus_of m) 4096 a b) i 0) j) (get_or (values_of m a) j 0 * get_or (values_of m b) j 0)
        (ap (λ (u : ℕ). u % modulus_of m) (sym (get_or-values_of m sum j lt)))
        (ap (λ (u : ℕ). u % modulus_of m) (value-product m a b j first second lt) ∙ mod-mod (get_or (values_of m a) j 0 * get_or (values_of m b) j 0) (modulus_of m))

IsPolynomial-product : (m : Modulus) (a b : List ℕ) → IsPolynomial (modulus_of m) (product (modulus_of m) 4096 a b)
unfolding product_at
IsPolynomial-product m a b = record {
  size = length-product (modulus_of m) 4096 a b;
  below = λ k lt. rw (slice_index-product (modulus_of m) 4096 a b k lt) (mod-lt _ (modulus-positive m));
}

pub product_by_values : (m : Modulus) (a b zeros : List ℕ) → IsPolynomial (modulus_of m) a → IsPolynomial (modulus_of m) b → ((i : ℕ) → get_or zeros i 0 ≡ 0)
    → polynomial_of m (with_products (modulus_of m) zeros (values_of m a) (values_of m b)) ≡ product (modulus_of m) 4096 a b
unfolding with_products
product_by_values m a b zeros first second none =
    ap (polynomial_of m) (sym (same_as_table 4096 (λ i. (get_or zeros i 0 + get_or (values_of m a) i 0 * get_or (values_of m b) i 0) % modulus_of m)
    (values_of m (product (modulus_of m) 4096 a b)) (length-values_of m (product (modulus_of m) 4096 a b)) (λ j lt. each j lt)))
    ∙ polynomial_of-values_of m (product (modulus_of m) 4096 a b) (IsPolynomial-product m a b)
  where
    added : (u : ℕ) → u ≡ 0 + u
    added u = omega arith

    each : (j : ℕ) → j < 4096 → get_or (values_of m (product (modulus_of m) 4096 a b)) j 0 ≡ (get_or zeros j 0 + get_or (values_of m a) j 0 * get_or (values_of m b) j 0) % modulus_of m
    each j lt =
        get_or-values_of m (product (modulus_of m) 4096 a b) j lt
        ∙ value-product m a b j first second lt
        ∙ ap (λ (u : ℕ). u % modulus_of m) (added (get_or (values_of m a) j 0 * get_or (values_of m b) j 0) ∙ ap (λ (z : ℕ). z + get_or (values_of m a) j 0 * get_or (values_of m b) j 0) (sym (none j)))

-- ---- what the transforms write

pub values_from : (m : Modulus) (q : ℕ) (numbers a new : List ℕ) → q ≡ modulus_of m → IsTable (modulus_of m) (root_of m) numbers
    → ((x : ℕ) → (x ^ 4096 + 1) % q ≡ 0 → IsTable q x numbers → new ≡ table 4096 (value_at_odd q 4096 x (λ i. get_or a i 0))) → new ≡ values_of m a
unfolding values_of
values_from m q numbers a new e powers h =
    h (root_of m) (ap (λ (u : ℕ). (root_of m ^ 4096 + 1) % u) e ∙ root_of-minus_one m) (subst (λ (u : ℕ). IsTable u (root_of m) numbers) (sym e) powers)
    ∙ ap (λ (u : ℕ). table 4096 (value_at_odd u 4096 (root_of m) (λ i. get_or a i 0))) e

one_is : (m : Modulus) → 1 % modulus_of m ≡ 1
one_is moduli.Q1 = refl
one_is moduli.Q2 = refl
one_is moduli.T = refl

pub polynomial_from : (m : Modulus) (q c : ℕ) (numbers a new : List ℕ) → q ≡ modulus_of m → c ≡ degree_inverse_of m → IsTable (modulus_of m) (root_of m) numbers
    → ((x y : ℕ) → (x ^ 4096 + 1) % q ≡ 0 → (y ^ 4096 + 1) % q ≡ 0 → (x * y) % q ≡ 1 % q → IsTable q x numbers → new ≡ table 4096 (coefficient_from q 4096 y c (λ i. get_or a i 0)))
    → new ≡ polynomial_of m a
unfolding polynomial_of
polynomial_from m q c numbers a new e c-is powers h =
    h (root_of m) (root_inverse_of m) (ap (λ (u : ℕ). (root_of m ^ 4096 + 1) % u) e ∙ root_of-minus_one m) (ap (λ (u : ℕ). (root_inverse_of m ^ 4096 + 1) % u) e ∙ root_inverse_of-minus_one m)
    (subst (λ (u : ℕ). (root_of m * root_inverse_of m) % u ≡ 1 % u) (sym e) (root_of-inverse m ∙ sym (one_is m))) (subst (λ (u : ℕ). IsTable u (root_of m) numbers) (sym e) powers)
    ∙ (λ i. table 4096 (coefficient_from (e i) 4096 (root_inverse_of m) (c-is i) (λ k. get_or a k 0)))

pub with_products_from : (m : ℕ) (sum a b new : List ℕ) → length new ≡ 4096 → ((i : ℕ) → i < 4096 → get_or new i 0 ≡ (get_or sum i 0 + get_or a i 0 * get_or b i 0) % m) → new ≡ with_products m sum a b
unfolding with_products
with_products_from m sum a b new len each = same_as_table 4096 (λ i. (get_or sum i 0 + get_or a i 0 * get_or b i 0) % m) new len each

pub one-below : (m : Modulus) → 1 < modulus_of m
one-below moduli.Q1 = omega arith
one-below moduli.Q2 = omega arith
one-below moduli.T = omega arith

-- a list of zeros has 0 everywhere
pub zeros-any : (n i : ℕ) → get_or {A = ℕ} (replicate n 0) i 0 ≡ 0
zeros-any n i =
    let zeros : List ℕ = replicate n 0 in
    let zero : ℕ = 0 in
    elim (cases_lt i n) [
      | inl inside ↦ get_or-replicate n i zero zero inside
      | inr past ↦ get_or_past zeros i zero (omega (arith, length-replicate {A = ℕ} n 0))
    ]
