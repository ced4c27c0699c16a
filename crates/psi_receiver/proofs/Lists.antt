-- Lists of what belongs to each bundle, by row and then by bundle, and lists that are blocks of one length.
use Rattle.std.proofs.Common.{◌≡◌, ℕ, zero, suc, ◌+◌, ◌*◌, ◌<◌, List, [], ◌∷◌, ◌++◌, length, get_or, map, take, refl, ap, ◌∙◌, sym, arith, length-append}
use Rattle.std.specs.List.{AllByRecursion, enumerate_from, flat_map, sum}
use Rattle.std.proofs.lemmas.Grind.{flat_map-append}
use Rattle.std.proofs.lemmas.List.{length-map, get_or_append_left, get_or-append-add, get_or-map}
use Rattle.std.proofs.lemmas.List.Folds.{flat_map-map}
use Rattle.std.proofs.lemmas.List.Sums.{sum_by-cons}

-- of the bundles of the rows, of which the first has the number n
abbrev pub by_bundle : {B C : Type 0} → (ℕ → B → C) → ℕ → List (List B) → List C
by_bundle g n rows = flat_map (λ row. map (g row.0) row.1) (enumerate_from n rows)

abbrev pub counts_of : {B : Type 0} → List (List B) → List ℕ
counts_of rows = map (λ row. length row) rows

pub length-by_bundle : {B C : Type 0} (g : ℕ → B → C) (n : ℕ) (rows : List (List B)) → length (by_bundle g n rows) ≡ sum (counts_of rows)
length-by_bundle g n [] = refl
length-by_bundle g n (row ∷ rows) =
    length-append (map (g n) row) (by_bundle g (n + 1) rows)
    ∙ (λ i. length-map row (g n) i + length-by_bundle g (n + 1) rows i)
    ∙ sym (sum_by-cons (λ x. x) (length row) (counts_of rows))

-- bundle u of row r
pub bundle-at : {B C : Type 0} (g : ℕ → B → C) (n : ℕ) (rows : List (List B)) (r u : ℕ) (e : B) (d : C) → r < length rows → u < length (get_or rows r [])
    → get_or (by_bundle g n rows) (sum (take r (counts_of rows)) + u) d ≡ g (n + r) (get_or (get_or rows r []) u e)
bundle-at g n [] r u e d lt within = absurd (omega arith)
bundle-at g n (row ∷ rows) zero u e d lt within =
    let none : 0 + u ≡ u = omega arith in
    let first : n ≡ n + 0 = omega arith in
    ap (λ (k : ℕ). get_or (map (g n) row ++ by_bundle g (n + 1) rows) k d) none
    ∙ get_or_append_left (map (g n) row) (by_bundle g (n + 1) rows) d u (omega (arith, length-map row (g n)))
    ∙ get_or-map (g n) row u e d within
    ∙ ap (λ (k : ℕ). g k (get_or row u e)) first
bundle-at g n (row ∷ rows) (suc r) u e d lt within =
    let next : n + 1 + r ≡ n + suc r = omega arith in
    ap (λ (k : ℕ). get_or (map (g n) row ++ by_bundle g (n + 1) rows) k d) shift
    ∙ get_or-append-add (map (g n) row) (by_bundle g (n + 1) rows) (sum (take r (counts_of rows)) + u) d
    ∙ bundle-at g (n + 1) rows r u e d (omega arith) within
    ∙ ap (λ (k : ℕ). g k (get_or (get_or rows r []) u e)) next
  where
    shift : sum (length row ∷ take r (counts_of rows)) + u ≡ length (map (g n) row) + (sum (take r (counts_of rows)) + u)
    shift =
        let cons = sum_by-cons (λ x. x) (length row) (take r (counts_of rows)) in
        let size = length-map row (g n) in
        omega (arith, cons, size)

all-append : {C : Type 0} (P : C → Type 0) (xs ys : List C) → AllByRecursion P xs → AllByRecursion P ys → AllByRecursion P (xs ++ ys)
all-append P [] ys h k = k
all-append P (x ∷ xs) ys h k = (h.0, all-append P xs ys h.1 k)

pub all-mapped : {B C : Type 0} (P : C → Type 0) (g : B → C) (row : List B) → ((u : B) → P (g u)) → AllByRecursion P (map g row)
all-mapped P g [] h = tt
all-mapped P g (u ∷ row) h = (h u, all-mapped P g row h)

-- what is so of each bundle's is so of all
pub all-by_bundle : {B C : Type 0} (P : C → Type 0) (g : ℕ → B → C) (n : ℕ) (rows : List (List B)) → ((r : ℕ) (u : B) → P (g r u)) → AllByRecursion P (by_bundle g n rows)
all-by_bundle P g n [] h = tt
all-by_bundle P g n (row ∷ rows) h = all-append P (map (g n) row) (by_bundle g (n + 1) rows) (all-mapped P (g n) row (h n)) (all-by_bundle P g (n + 1) rows h)

-- the lists of what belongs to each bundle, one after another
pub joined-by_bundle : {B C : Type 0} (g : ℕ → B → List C) (n : ℕ) (rows : List (List B)) → flat_map (λ xs. xs) (by_bundle g n rows) ≡ flat_map (λ row. flat_map (g row.0) row.1) (enumerate_from n rows)
joined-by_bundle g n [] = refl
joined-by_bundle g n (row ∷ rows) =
    flat_map-append (λ xs. xs) (map (g n) row) (by_bundle g (n + 1) rows)
    ∙ (λ i. flat_map-map (λ xs. xs) (g n) row i ++ joined-by_bundle g (n + 1) rows i)

-- element j of block i
pub block-at : {C : Type 0} (size : ℕ) (blocks : List (List C)) (i j : ℕ) (d : C) → AllByRecursion (λ b. length b ≡ size) blocks → i < length blocks → j < size
    → get_or (flat_map (λ b. b) blocks) (i * size + j) d ≡ get_or (get_or blocks i []) j d
block-at size [] i j d all lt within = absurd (omega arith)
block-at size (b ∷ blocks) zero j d all lt within =
    let none : 0 * size + j ≡ j = omega arith in
    let here = all.0 in
    ap (λ (k : ℕ). get_or (b ++ flat_map (λ x. x) blocks) k d) none
    ∙ get_or_append_left b (flat_map (λ x. x) blocks) d j (omega (arith, here))
block-at size (b ∷ blocks) (suc i) j d all lt within =
    ap (λ (k : ℕ). get_or (b ++ flat_map (λ x. x) blocks) k d) shift
    ∙ get_or-append-add b (flat_map (λ x. x) blocks) (i * size + j) d
    ∙ block-at size blocks i j d all.1 (omega arith) within
  where
    shift : suc i * size + j ≡ length b + (i * size + j)
    shift = let here = all.0 in omega (arith, here)

pub length-blocks : {C : Type 0} (size : ℕ) (blocks : List (List C)) → AllByRecursion (λ b. length b ≡ size) blocks → length (flat_map (λ b. b) blocks) ≡ size * length blocks
length-blocks size [] all = omega arith
length-blocks size (b ∷ blocks) all =
    let later = length-blocks size blocks all.1 in
    let here = all.0 in
    omega (arith, length-append b (flat_map (λ x. x) blocks), here, later)

pub all-blocks : {C : Type 0} (P : C → Type 0) (blocks : List (List C)) → AllByRecursion (AllByRecursion P) blocks → AllByRecursion P (flat_map (λ b. b) blocks)
all-blocks P [] all = tt
all-blocks P (b ∷ blocks) all = all-append P b (flat_map (λ x. x) blocks) all.0 (all-blocks P blocks all.1)
