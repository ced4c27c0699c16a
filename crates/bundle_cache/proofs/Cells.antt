-- The rows of a cache, and those of a query's transforms.
use Rattle.std.proofs.Common.{◌≡◌, ℕ, zero, suc, Bool, if◌then◌else◌, ◌+◌, ◌-◌, ◌*◌, ◌%◌, ◌<◌, ◌≤◌, List, [], ◌∷◌, ◌++◌, true, false, length, get_or, set, replicate, inl, inr, map, take, drop, refl, ap, ◌∙◌, sym, subst, arith, zero-add}
use Rattle.std.specs.Prelude.{◌==◌}
use Rattle.std.proofs.lemmas.List.{get_or-map, get_or-replicate, get_or-set_same, get_or-set_other, length-append, length-drop, length-replicate, length-set}
use Rattle.std.proofs.lemmas.Bool.{cases_eq, eq-eqb, ne_eqb}
use Rattle.std.proofs.lemmas.List.FromFn.{get_or-map-range_with_len, length-map-range_with_len}
use Rattle.std.proofs.lemmas.Nat.{mul-add-lt, div-mul-add, mod-mul-add, mul-mod_first}
use Rattle.std.proofs.Math.Nat.{zero-mod}
use Rattle.std.proofs.Math.Seq.{take-length, take-append_seam, drop-append_seam}
use Rattle.psi_residue.specs.declared.numbers.Modulus.TheVariants as moduli
use Rattle.psi_residue.specs.Ciphertexts.{ciphertext_at, list_at, list_modulus}
use Rattle.psi_residue.specs.Numbers.{modulus_of, scale}
use Rattle.psi_residue.proofs.Sums.{same_as_table, table-same}
use Rattle.psi_residue.specs.Parameters.{Parameters}
use Rattle.psi_residue.specs.Polynomials.{IsPolynomial}
use Rattle.bfv_core.proofs.FourLists.{four_from}
use Rattle.negacyclic.specs.Transforms.{values_of, polynomial_of, with_products}
use Rattle.negacyclic.proofs.TransformLaws.{length-values_of, values_of-polynomial_of}
use Rattle.psi_bundle.specs.declared.member.Member.{Member}
use Rattle.psi_bundle.specs.Planes.{packed_plane, planes_of_bundle}
use Rattle.bundle_cache.specs.Caches.{bundle_row, bundle_rows, rows_of_bundle, transforms_of}
use Rattle.bundle_cache.specs.Queries.{ciphertext_of, modulus_of_list, scaled_values}

-- ---- one row

pub row-within : (p : Parameters) (plane k : ℕ) → plane < planes_of_bundle p → k ≤ p.capacity → plane * (p.capacity + 1) + k < rows_of_bundle p
row-within p plane k lt le = let within = mul-add-lt plane (p.capacity + 1) k (planes_of_bundle p) lt (omega arith) in omega (arith, within)

pub length-bundle_rows : (p : Parameters) (bins : List (List Member)) → length (bundle_rows p bins) ≡ rows_of_bundle p
length-bundle_rows p bins = length-map-range_with_len (bundle_row p bins) 0 (rows_of_bundle p)

pub row-is : (p : Parameters) (bins : List (List Member)) (plane k : ℕ) → k ≤ p.capacity → bundle_row p bins (plane * (p.capacity + 1) + k) ≡ transforms_of (packed_plane p bins plane k)
unfolding bundle_row
row-is p bins plane k le =
    let within : k < p.capacity + 1 = omega arith in
    let number = div-mul-add plane (p.capacity + 1) k within in
    let power = mod-mul-add plane (p.capacity + 1) k within in
    λ i. transforms_of (packed_plane p bins (number i) (power i))

pub row-at : (p : Parameters) (bins : List (List Member)) (rows : List (List ℕ)) (plane k : ℕ) → rows ≡ bundle_rows p bins → plane < planes_of_bundle p → k ≤ p.capacity
    → get_or rows (plane * (p.capacity + 1) + k) [] ≡ transforms_of (packed_plane p bins plane k)
row-at p bins rows plane k held lt le =
    let c : ℕ = plane * (p.capacity + 1) + k in
    ap (λ (rs : List (List ℕ)). get_or rs c []) held
    ∙ get_or-map-range_with_len (bundle_row p bins) 0 (rows_of_bundle p) c c [] (row-within p plane k lt le) (zero-add c)
    ∙ row-is p bins plane k le

-- its two halves

pub length-transforms_of : (xs : List ℕ) → length (transforms_of xs) ≡ 8192
unfolding transforms_of
length-transforms_of xs =
    let first = length-values_of moduli.Q1 xs in
    let second = length-values_of moduli.Q2 xs in
    length-append (values_of moduli.Q1 xs) (values_of moduli.Q2 xs) ∙ omega (arith, first, second)

pub first-half : (xs : List ℕ) → take 4096 (transforms_of xs) ≡ values_of moduli.Q1 xs
unfolding transforms_of
first-half xs =
    ap (λ (n : ℕ). take n (values_of moduli.Q1 xs ++ values_of moduli.Q2 xs)) (sym (length-values_of moduli.Q1 xs))
    ∙ take-append_seam (values_of moduli.Q1 xs) (values_of moduli.Q2 xs)

pub second-half : (xs : List ℕ) → drop 4096 (transforms_of xs) ≡ values_of moduli.Q2 xs
unfolding transforms_of
second-half xs =
    ap (λ (n : ℕ). drop n (values_of moduli.Q1 xs ++ values_of moduli.Q2 xs)) (sym (length-values_of moduli.Q1 xs))
    ∙ drop-append_seam (values_of moduli.Q1 xs) (values_of moduli.Q2 xs)

pub rest-half : (row xs : List ℕ) → length row ≡ 8192 → row ≡ transforms_of xs → take (length row - 4096) (drop 4096 row) ≡ values_of moduli.Q2 xs
rest-half row xs size is =
    let half : length (drop 4096 row) ≡ length row - 4096 = length-drop 4096 row in
    ap (λ (n : ℕ). take n (drop 4096 row)) (sym half) ∙ take-length (drop 4096 row) ∙ ap (drop 4096) is ∙ second-half xs

-- the modulus of a list's number
pub even-at : (l : ℕ) (xs : List ℕ) → l % 2 ≡ 0 → values_of moduli.Q1 xs ≡ values_of (modulus_of_list l) xs
even-at l xs e = ap (λ (b : Bool). values_of (if b then moduli.Q1 else moduli.Q2) xs) (sym (eq-eqb (l % 2) 0 e))

pub odd-at : (l : ℕ) (xs : List ℕ) → (l % 2 ≡ 0 → ⊥) → values_of moduli.Q2 xs ≡ values_of (modulus_of_list l) xs
odd-at l xs ne = ap (λ (b : Bool). values_of (if b then moduli.Q1 else moduli.Q2) xs) (sym (ne_eqb (l % 2) 0 ne))

-- ---- the ciphertexts of a query

pub place-within : (row rows capacity power : ℕ) → row < rows → power < capacity → row * capacity + power < rows * capacity
place-within row rows capacity power lt below = let within = mul-add-lt row capacity power rows lt below in omega (arith, within)

pub list_modulus-at : (l : ℕ) → l < 4 → list_modulus l ≡ modulus_of (modulus_of_list l)
list_modulus-at zero lt = refl
list_modulus-at (suc zero) lt = refl
list_modulus-at (suc (suc zero)) lt = refl
list_modulus-at (suc (suc (suc zero))) lt = refl
list_modulus-at (suc (suc (suc (suc l)))) lt = absurd (omega arith)

pub list-ciphertext_of : (values : List (List ℕ)) (l : ℕ) → l < 4 → list_at (ciphertext_of values) l ≡ polynomial_of (modulus_of_list l) (list_at values l)
unfolding ciphertext_of
list-ciphertext_of values zero lt = refl
list-ciphertext_of values (suc zero) lt = refl
list-ciphertext_of values (suc (suc zero)) lt = refl
list-ciphertext_of values (suc (suc (suc zero))) lt = refl
list-ciphertext_of values (suc (suc (suc (suc l)))) lt = absurd (omega arith)

-- a list of transforms is that of the query's ciphertext there
pub list-of_query : (kept : List (List (List ℕ))) (place l : ℕ) (ct d : List (List ℕ)) → l < 4 → place < length kept → ct ≡ get_or kept place d
    → list_at (ciphertext_at (map ciphertext_of kept) place) l ≡ polynomial_of (modulus_of_list l) (list_at ct l)
list-of_query kept place l ct d lt within is =
    ap (λ (x : List (List ℕ)). list_at x l) (get_or-map ciphertext_of kept place d [] within ∙ ap ciphertext_of (sym is))
    ∙ list-ciphertext_of ct l lt

pub values-of_query : (kept : List (List (List ℕ))) (place l : ℕ) (ct d : List (List ℕ)) → l < 4 → place < length kept → ct ≡ get_or kept place d
    → IsPolynomial (list_modulus l) (list_at ct l) → list_at ct l ≡ values_of (modulus_of_list l) (list_at (ciphertext_at (map ciphertext_of kept) place) l)
values-of_query kept place l ct d lt within is polynomial =
    let below = subst (λ (q : ℕ). IsPolynomial q (list_at ct l)) (list_modulus-at l lt) polynomial in
    sym (ap (values_of (modulus_of_list l)) (list-of_query kept place l ct d lt within is) ∙ values_of-polynomial_of (modulus_of_list l) (list_at ct l) below)

-- numbers below the plaintext modulus are residues in each list
pub small-list : (xs : List ℕ) (l : ℕ) → IsPolynomial 65537 xs → IsPolynomial (list_modulus l) xs
small-list xs l plain = record { size = plain.size; below = λ i lt. let small = plain.below i lt in let wide = wider (l % 2 == 0) in omega (arith, small, wide) }
  where
    wider : (b : Bool) → 65537 ≤ (if b then 68719403009 else 68719230977)
    wider true = omega arith
    wider false = omega arith

-- ---- a ciphertext whose lists are transformed one after another

pub record AreTransformed (start ct : List (List ℕ)) (count : ℕ) : Type 0 where
  pub size : length ct ≡ length start
  pub done : (k : ℕ) → k < count → polynomial_of (modulus_of_list k) (list_at ct k) ≡ list_at start k
  pub rest : (k : ℕ) → count ≤ k → list_at ct k ≡ list_at start k

pub transformed-none : (start : List (List ℕ)) → AreTransformed start start 0
transformed-none start = record { size = refl; done = λ k lt. absurd (omega arith); rest = λ k le. refl }

pub transformed-more : (start ct ct' : List (List ℕ)) (l : ℕ) (values : List ℕ) → l < length ct → ct' ≡ set ct l values
    → polynomial_of (modulus_of_list l) values ≡ list_at ct l → AreTransformed start ct l → AreTransformed start ct' (l + 1)
transformed-more start ct ct' l values within is undone h =
    subst (λ (c : List (List ℕ)). AreTransformed start c (l + 1)) (sym is)
    (record {
      size = length-set ct l values ∙ h.size;
      done = λ k lt.
          elim (cases_eq k l) [
            | inl same ↦ (λ i. polynomial_of (modulus_of_list (same i)) (get_or (set ct l values) (same i) [])) ∙ ap (polynomial_of (modulus_of_list l)) (get_or-set_same ct l values [] within) ∙ undone ∙ h.rest l (omega arith) ∙ ap (list_at start) (sym same)
            | inr other ↦ ap (polynomial_of (modulus_of_list k)) (get_or-set_other ct l k values [] other) ∙ h.done k (omega (arith, other))
          ];
      rest = λ k le. get_or-set_other ct l k values [] (λ e. absurd (omega (arith, e))) ∙ h.rest k (omega arith);
    })

pub transformed-all : (start ct : List (List ℕ)) (l : ℕ) → 4 ≤ l → length ct ≡ 4 → AreTransformed start ct l → ciphertext_of ct ≡ start
unfolding ciphertext_of
transformed-all start ct l all size h =
    sym (four_from start _ _ _ _ (sym h.size ∙ size) (sym (h.done 0 (omega arith))) (sym (h.done 1 (omega arith))) (sym (h.done 2 (omega arith))) (sym (h.done 3 (omega arith))))

-- ---- the constant coefficient

pub constant-scaled : (q d : ℕ) (zeros values : List ℕ) → zeros ≡ replicate 4096 0 → d ≡ scale % q → with_products q zeros (replicate 4096 d) values ≡ scaled_values q true values
unfolding with_products scaled_values
constant-scaled q d zeros values none d-is =
    table-same 4096 (λ i. (get_or zeros i 0 + get_or (replicate 4096 d) i 0 * get_or values i 0) % q) (λ i. (scale * get_or values i 0) % q)
    (λ i lt.
    (λ t. (get_or (none t) i 0 + get_or-replicate {A = ℕ} 4096 i d 0 lt t * get_or values i 0) % q)
    ∙ ap (λ (u : ℕ). (u + d * get_or values i 0) % q) (get_or-replicate {A = ℕ} 4096 i 0 0 lt)
    ∙ ap (λ (u : ℕ). u % q) (plus_nothing (d * get_or values i 0))
    ∙ ap (λ (u : ℕ). (u * get_or values i 0) % q) d-is
    ∙ mul-mod_first scale (get_or values i 0) q)
  where
    plus_nothing : (u : ℕ) → 0 + u ≡ u
    plus_nothing u = omega arith

pub nothing-scaled : (q : ℕ) (zeros values : List ℕ) → zeros ≡ replicate 4096 0 → zeros ≡ scaled_values q false values
unfolding scaled_values
nothing-scaled q zeros values none =
    none
    ∙ same_as_table 4096 (λ i. 0 % q) (replicate 4096 0) (length-replicate {A = ℕ} 4096 0) (λ i lt. get_or-replicate {A = ℕ} 4096 i 0 0 lt ∙ sym (zero-mod q))

-- ---- all ciphertexts of a query, one after another

pub record AreTransforms (start kept : List (List (List ℕ))) (count : ℕ) : Type 0 where
  pub size : length kept ≡ length start
  pub done : (k : ℕ) → k < count → ciphertext_of (ciphertext_at kept k) ≡ ciphertext_at start k
  pub rest : (k : ℕ) → count ≤ k → ciphertext_at kept k ≡ ciphertext_at start k

pub transforms-none : (start : List (List (List ℕ))) → AreTransforms start start 0
transforms-none start = record { size = refl; done = λ k lt. absurd (omega arith); rest = λ k le. refl }

pub transforms-more : (start kept : List (List (List ℕ))) (c : ℕ) (old new : List (List ℕ)) → c < length kept → old ≡ ciphertext_at kept c → ciphertext_of new ≡ old
    → AreTransforms start kept c → AreTransforms start (set kept c new) (c + 1)
transforms-more start kept c old new within is undone h = record {
  size = length-set kept c new ∙ h.size;
  done = λ k lt.
      elim (cases_eq k c) [
        | inl same ↦ ap (λ (j : ℕ). ciphertext_of (ciphertext_at (set kept c new) j)) same ∙ ap ciphertext_of (get_or-set_same kept c new [] within) ∙ undone ∙ is ∙ h.rest c (omega arith) ∙ ap (ciphertext_at start) (sym same)
        | inr other ↦ ap ciphertext_of (get_or-set_other kept c k new [] other) ∙ h.done k (omega (arith, other))
      ];
  rest = λ k le. get_or-set_other kept c k new [] (λ e. absurd (omega (arith, e))) ∙ h.rest k (omega arith);
}

pub transforms-all : (start kept : List (List (List ℕ))) → ((k : ℕ) → k < length start → ciphertext_of (ciphertext_at kept k) ≡ ciphertext_at start k) → length kept ≡ length start → map ciphertext_of kept ≡ start
transforms-all [] [] each size = λ i. []
transforms-all [] (x ∷ xs) each size = absurd (omega (arith, size))
transforms-all (y ∷ ys) [] each size = absurd (omega (arith, size))
transforms-all (y ∷ ys) (x ∷ xs) each size =
    let rest = transforms-all ys xs (λ k lt. each (suc k) (omega (arith, lt))) (omega (arith, size)) in
    λ i. each 0 (omega arith) i ∷ rest i
