-- The evaluation of a polynomial at encrypted powers, by values at the odd powers of a modulus's root.
use Rattle.std.proofs.Common.{◌≡◌, ℕ, zero, suc, Bool, true, false, ◌+◌, ◌*◌, ◌%◌, ◌^◌, ◌<◌, List, length, get_or, if◌then◌else◌, refl, ap, ◌∙◌, sym, arith}
use Rattle.std.specs.Prelude.{nat_lt}
use Rattle.std.proofs.lemmas.Nat.{mul-mod_first, mul-mod_second}
use Rattle.std.proofs.Math.Nat.{mod-lt, mod-add-mod}
use Rattle.psi_residue.specs.declared.numbers.Modulus.{Modulus}
use Rattle.psi_residue.specs.Numbers.{modulus_of, root_of, scale}
use Rattle.psi_residue.specs.Polynomials.{IsPolynomial}
use Rattle.psi_residue.specs.Ring.{product, product_at}
use Rattle.psi_residue.specs.Slots.{value_at_odd}
use Rattle.psi_residue.specs.Sums.{sum_below, table}
use Rattle.psi_residue.specs.Ciphertexts.{list_at}
use Rattle.psi_residue.specs.Evaluations.{evaluated, evaluated_at}
use Rattle.psi_residue.proofs.Congruences.{sum_below-mod}
use Rattle.psi_residue.proofs.Moduli.{modulus-positive}
use Rattle.psi_residue.proofs.Polynomials.{IsPolynomial-table}
use Rattle.psi_residue.proofs.Sums.{sum_below-times, sum_below-more, slice_index-table, same_as_table, table-same}
use Rattle.bfv_core.proofs.FourLists.{four_from}
use Rattle.bfv_core.proofs.Scaling.{plain-below}
use Rattle.negacyclic.specs.Laws.{sum_modulo}
use Rattle.negacyclic.specs.Transforms.{values_of, polynomial_of, with_products}
use Rattle.negacyclic.proofs.TransformLaws.{length-values_of, get_or-values_of, value-same, values_of_products, polynomial_of-values_of}
use Rattle.bundle_cache.specs.Queries.{modulus_of_list, scaled_values}

-- ---- a factor of all coefficients

grouped : (a b c : ℕ) → a * b * c ≡ a * (b * c)
grouped a b c = omega arith

value-scaled : (m n x c : ℕ) (p r : ℕ → ℕ) (j : ℕ) → ((i : ℕ) → i < n → r i ≡ (c * p i) % m) → value_at_odd m n x r j ≡ (c * value_at_odd m n x p j) % m
unfolding value_at_odd
value-scaled m n x c p r j h =
    sum_below-mod m n (λ i. r i * x ^ ((2 * j + 1) * i)) (λ i. c * (p i * x ^ ((2 * j + 1) * i))) (λ i lt. term i lt)
    ∙ ap (λ (u : ℕ). u % m) (sum_below-times n c (λ i. p i * x ^ ((2 * j + 1) * i)))
    ∙ sym (mul-mod_second c (sum_below n (λ i. p i * x ^ ((2 * j + 1) * i))) m)
  where
    term : (i : ℕ) → i < n → (r i * x ^ ((2 * j + 1) * i)) % m ≡ (c * (p i * x ^ ((2 * j + 1) * i))) % m
    term i lt =
        ap (λ (u : ℕ). (u * x ^ ((2 * j + 1) * i)) % m) (h i lt)
        ∙ mul-mod_first (c * p i) (x ^ ((2 * j + 1) * i)) m
        ∙ ap (λ (u : ℕ). u % m) (grouped c (p i) (x ^ ((2 * j + 1) * i)))

-- ---- polynomials

-- a plaintext is a polynomial modulo each modulus
pub plain-polynomial : (m : Modulus) (xs : List ℕ) → IsPolynomial 65537 xs → IsPolynomial (modulus_of m) xs
plain-polynomial m xs plain = record { size = plain.size; below = λ i lt. let few = plain-below m in let small = plain.below i lt in omega (arith, few, small) }

pub evaluated-polynomial : (m : Modulus) (of_c0 : Bool) (count : ℕ) (factors lists : ℕ → List ℕ) → IsPolynomial (modulus_of m) (table 4096 (evaluated_at (modulus_of m) of_c0 count factors lists))
unfolding evaluated_at
evaluated-polynomial m of_c0 count factors lists =
    IsPolynomial-table (modulus_of m) (evaluated_at (modulus_of m) of_c0 count factors lists) (λ k lt. mod-lt _ (modulus-positive m))

-- ---- the constant coefficient

start-each : (q : ℕ) (of_c0 : Bool) (factors lists : ℕ → List ℕ) (n x j : ℕ)
    → value_at_odd q n x (evaluated_at q of_c0 0 factors lists) j ≡ (if of_c0 then scale * value_at_odd q n x (λ i. get_or (factors 0) i 0) j else 0) % q
unfolding evaluated_at sum_below
start-each q true factors lists n x j =
    value-scaled q n x scale (λ i. get_or (factors 0) i 0) (evaluated_at q true 0 factors lists) j (λ i lt. ap (λ (u : ℕ). u % q) (omega arith))
start-each q false factors lists n x j =
    value-scaled q n x 0 (λ i. get_or (factors 0) i 0) (evaluated_at q false 0 factors lists) j (λ i lt. ap (λ (u : ℕ). u % q) (omega arith))
    ∙ ap (λ (u : ℕ). u % q) (omega arith)

-- the values of what the constant coefficient adds
pub values-start : (m : Modulus) (of_c0 : Bool) (factors lists : ℕ → List ℕ)
    → scaled_values (modulus_of m) of_c0 (values_of m (factors 0)) ≡ values_of m (table 4096 (evaluated_at (modulus_of m) of_c0 0 factors lists))
unfolding scaled_values
values-start m of_c0 factors lists =
    sym (same_as_table 4096 (λ i. (if of_c0 then scale * get_or (values_of m (factors 0)) i 0 else 0) % modulus_of m) (values_of m made) (length-values_of m made) each)
  where
    made : List ℕ
    made = table 4096 (evaluated_at (modulus_of m) of_c0 0 factors lists)

    each : (j : ℕ) → j < 4096 → get_or (values_of m (table 4096 (evaluated_at (modulus_of m) of_c0 0 factors lists))) j 0 ≡ (if of_c0 then scale * get_or (values_of m (factors 0)) j 0 else 0) % modulus_of m
    each j lt =
        get_or-values_of m (table 4096 (evaluated_at (modulus_of m) of_c0 0 factors lists)) j lt
        ∙ value-same (modulus_of m) 4096 (root_of m) (λ i. get_or (table 4096 (evaluated_at (modulus_of m) of_c0 0 factors lists)) i 0) (evaluated_at (modulus_of m) of_c0 0 factors lists) j
        (λ i below. slice_index-table 4096 (evaluated_at (modulus_of m) of_c0 0 factors lists) i below)
        ∙ start-each (modulus_of m) of_c0 factors lists 4096 (root_of m) j
        ∙ ap (λ (u : ℕ). (if of_c0 then scale * u else 0) % modulus_of m) (sym (get_or-values_of m (factors 0) j lt))

-- ---- one more power

next_term : (m s t x : ℕ) → ((s + t) % m + x) % m ≡ (s + x + t) % m
next_term m s t x = mod-add-mod (s + t) m x ∙ ap (λ (u : ℕ). u % m) (omega arith)

list-more : (m : ℕ) (of_c0 : Bool) (count : ℕ) (factors lists : ℕ → List ℕ)
    → sum_modulo m 4096 (table 4096 (evaluated_at m of_c0 count factors lists)) (product m 4096 (factors (count + 1)) (lists count)) ≡ table 4096 (evaluated_at m of_c0 (count + 1) factors lists)
unfolding sum_modulo product evaluated_at
list-more m of_c0 count factors lists =
    let term = λ (k i : ℕ). product_at m 4096 (factors (k + 1)) (lists k) i in
    let rest = λ (i : ℕ). if of_c0 then scale * get_or (factors 0) i 0 else 0 in
    table-same 4096 _ (evaluated_at m of_c0 (count + 1) factors lists)
    (λ i lt.
    ap (λ (u : ℕ). (u + get_or (table 4096 (product_at m 4096 (factors (count + 1)) (lists count))) i 0) % m) (slice_index-table 4096 (evaluated_at m of_c0 count factors lists) i lt)
    ∙ ap (λ (u : ℕ). ((sum_below count (λ k. term k i) + rest i) % m + u) % m) (slice_index-table 4096 (product_at m 4096 (factors (count + 1)) (lists count)) i lt)
    ∙ next_term m (sum_below count (λ k. term k i)) (rest i) (term count i)
    ∙ ap (λ (u : ℕ). (u + rest i) % m) (sym (sum_below-more count (λ k. term k i))))

-- the values of the sum with one power more
pub values-more : (m : Modulus) (of_c0 : Bool) (count : ℕ) (factors lists : ℕ → List ℕ) → IsPolynomial (modulus_of m) (factors (count + 1)) → IsPolynomial (modulus_of m) (lists count)
    → with_products (modulus_of m) (values_of m (table 4096 (evaluated_at (modulus_of m) of_c0 count factors lists))) (values_of m (factors (count + 1))) (values_of m (lists count))
    ≡ values_of m (table 4096 (evaluated_at (modulus_of m) of_c0 (count + 1) factors lists))
values-more m of_c0 count factors lists factor list =
    values_of_products m (table 4096 (evaluated_at (modulus_of m) of_c0 count factors lists)) (factors (count + 1)) (lists count) (evaluated-polynomial m of_c0 count factors lists) factor list
    ∙ ap (values_of m) (list-more (modulus_of m) of_c0 count factors lists)

-- the polynomial that they are the values of
pub values-end : (m : Modulus) (of_c0 : Bool) (count : ℕ) (factors lists : ℕ → List ℕ)
    → polynomial_of m (values_of m (table 4096 (evaluated_at (modulus_of m) of_c0 count factors lists))) ≡ table 4096 (evaluated_at (modulus_of m) of_c0 count factors lists)
values-end m of_c0 count factors lists =
    polynomial_of-values_of m (table 4096 (evaluated_at (modulus_of m) of_c0 count factors lists)) (evaluated-polynomial m of_c0 count factors lists)

-- ---- the four lists

pub list-evaluated : (l count : ℕ) (factors : ℕ → List ℕ) (cts : ℕ → List (List ℕ)) → l < 4
    → list_at (evaluated count factors cts) l ≡ table 4096 (evaluated_at (modulus_of (modulus_of_list l)) (nat_lt l 2) count factors (λ k. list_at (cts k) l))
unfolding evaluated
list-evaluated zero count factors cts lt = refl
list-evaluated (suc zero) count factors cts lt = refl
list-evaluated (suc (suc zero)) count factors cts lt = refl
list-evaluated (suc (suc (suc zero))) count factors cts lt = refl
list-evaluated (suc (suc (suc (suc l)))) count factors cts lt = absurd (omega arith)

pub all-lists : (count : ℕ) (factors : ℕ → List ℕ) (cts : ℕ → List (List ℕ)) (out : List (List ℕ)) → length out ≡ 4 → ((l : ℕ) → l < 4 → list_at out l ≡ list_at (evaluated count factors cts) l)
    → out ≡ evaluated count factors cts
unfolding evaluated
all-lists count factors cts out size each = four_from out _ _ _ _ size (each 0 (omega arith)) (each 1 (omega arith)) (each 2 (omega arith)) (each 3 (omega arith))
