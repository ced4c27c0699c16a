-- Rows that are made and pushed one after another.
use Rattle.std.proofs.Common.{◌≡◌, ℕ, zero, suc, ◌+◌, ◌*◌, ◌<◌, List, [], ◌∷◌, ◌++◌, length, get_or, map, refl, ap, ◌∙◌, sym, subst, arith, zero-add}
use Rattle.std.specs.Prelude.{Result, Ok, IfOk}
use Rattle.std.specs.List.{All, AllZip, range_with_len}
use Rattle.std.proofs.lemmas.List.{append_assoc, length-append, map-append}
use Rattle.std.proofs.lemmas.List.FromFn.{get_or-map-range_with_len, length-map-range_with_len}
use Rattle.psi_residue.specs.Slots.{packed_list}
use Rattle.psi_residue.specs.Parameters.{Parameters}
use Rattle.psi_bundle.specs.declared.member.Member.{Member}
use Rattle.row_block.specs.Rows.{Block, cleared}
use Rattle.bundle_cache.specs.Caches.{bundle_row, holding}
use Rattle.bundle_cache.specs.Columns.{AreColumns, column, row_of_column}
use Rattle.bundle_cache.proofs.Cells.{length-transforms_of, row-is}
use Rattle.bundle_cache.proofs.Writing.{row_of_column-is}

-- results that are all there are the values
pub all-there : {X T E : Type 0} (f : X → T) (xs : List X) (rs : List (Result T E)) (ys : List T) → AllZip (λ x r. IfOk r (λ y. y ≡ f x)) xs rs → rs ≡ map Ok ys → ys ≡ map f xs
all-there f [] [] [] all e = λ i. []
all-there f [] [] (y ∷ ys) all e = absurd cc
all-there f [] (r ∷ rs) ys all e = absurd all
all-there f (x ∷ xs) [] ys all e = absurd all
all-there f (x ∷ xs) (r ∷ rs) [] all e = absurd cc
all-there {X} {T} {E} f (x ∷ xs) (r ∷ rs) (y ∷ ys) all e =
    let here : r ≡ Ok y = cc in
    let later : rs ≡ map Ok ys = cc in
    let value : y ≡ f x = subst (λ (q : Result T E). IfOk q (λ v. v ≡ f x)) here all.0 in
    let rest = all-there f xs rs ys all.1 later in
    λ i. value i ∷ rest i

-- ---- rows of columns

pub rows-number : (columns : List ℕ) (first size : ℕ) (rows : List (List ℕ)) → rows ≡ map (row_of_column columns) (range_with_len first size) → length rows ≡ size
rows-number columns first size rows are = ap length are ∙ length-map-range_with_len (row_of_column columns) first size

pub rows-wide : (columns : List ℕ) (first size : ℕ) (rows : List (List ℕ)) → rows ≡ map (row_of_column columns) (range_with_len first size) → All (λ row. length row ≡ 8192) rows
unfolding row_of_column
rows-wide columns first size rows are k d lt =
    ap (λ (rs : List (List ℕ)). length (get_or rs k d)) are
    ∙ ap length (get_or-map-range_with_len (row_of_column columns) first size k (first + k) d (omega (arith, lt, rows-number columns first size rows are)) refl)
    ∙ length-transforms_of (packed_list (column columns (first + k)))

pub rows-before : (held : List (List ℕ)) (columns : List ℕ) (done : ℕ) → length (held ++ map (row_of_column columns) (range_with_len 0 done)) ≡ length held + done
rows-before held columns done =
    length-append held (map (row_of_column columns) (range_with_len 0 done)) ∙ ap (λ (n : ℕ). length held + n) (length-map-range_with_len (row_of_column columns) 0 done)

-- a range in two parts
range-parts : (a n k : ℕ) → range_with_len a (n + k) ≡ range_with_len a n ++ range_with_len (a + n) k
range-parts a zero k = λ i. range_with_len (same i) (none i)
  where
    same : a ≡ a + 0
    same = omega arith

    none : 0 + k ≡ k
    none = omega arith
range-parts a (suc n) k =
    let more : suc n + k ≡ suc (n + k) = omega arith in
    let next : a + 1 + n ≡ a + suc n = omega arith in
    ap (range_with_len a) more
    ∙ ap (λ (xs : List ℕ). a ∷ xs) (range-parts (a + 1) n k ∙ ap (λ (b : ℕ). range_with_len (a + 1) n ++ range_with_len b k) next)

pub map-parts : (f : ℕ → List ℕ) (n k : ℕ) → map f (range_with_len 0 (n + k)) ≡ map f (range_with_len 0 n) ++ map f (range_with_len n k)
map-parts f n k =
    ap (map f) (range-parts 0 n k ∙ ap (λ (b : ℕ). range_with_len 0 n ++ range_with_len b k) (zero-add n))
    ∙ map-append f (range_with_len 0 n) (range_with_len n k)

pub rows-more : (start before after : Block) (columns : List ℕ) (done size : ℕ) (rows : List (List ℕ)) → before ≡ holding start (start.held ++ map (row_of_column columns) (range_with_len 0 done))
    → rows ≡ map (row_of_column columns) (range_with_len done size) → after ≡ holding before (before.held ++ rows)
    → after ≡ holding start (start.held ++ map (row_of_column columns) (range_with_len 0 (done + size)))
rows-more start before after columns done size rows was are is =
    is
    ∙ (λ i. holding (was i) ((was i).held ++ are i))
    ∙ ap (holding start)
    (append_assoc start.held (map (row_of_column columns) (range_with_len 0 done)) (map (row_of_column columns) (range_with_len done size))
    ∙ ap (λ (xs : List (List ℕ)). start.held ++ xs) (sym (map-parts (row_of_column columns) done size)))

-- ---- rows of planes

mapped-same : (f g : ℕ → List ℕ) (b a n : ℕ) → ((k : ℕ) → k < n → f (b + k) ≡ g (a + k)) → map f (range_with_len b n) ≡ map g (range_with_len a n)
mapped-same f g b a zero h = λ i. []
mapped-same f g b a (suc n) h =
    let none-b : b + 0 ≡ b = omega arith in
    let none-a : a + 0 ≡ a = omega arith in
    let first = sym (ap f none-b) ∙ h 0 (omega arith) ∙ ap g none-a in
    let rest = mapped-same f g (b + 1) (a + 1) n (λ k lt. let one-b : b + 1 + k ≡ b + suc k = omega arith in let one-a : a + suc k ≡ a + 1 + k = omega arith in ap f one-b ∙ h (suc k) (omega arith) ∙ ap g one-a) in
    λ i. first i ∷ rest i

-- a plane's rows behind those of the planes before
pub planes-more : (p : Parameters) (bins : List (List Member)) (start before after : Block) (plane count : ℕ) (columns : List ℕ) → count ≡ p.capacity + 1 → AreColumns p bins plane columns
    → before ≡ holding start (map (bundle_row p bins) (range_with_len 0 (plane * (p.capacity + 1))))
    → after ≡ holding before (before.held ++ map (row_of_column columns) (range_with_len 0 count))
    → after ≡ holding start (map (bundle_row p bins) (range_with_len 0 ((plane + 1) * (p.capacity + 1))))
planes-more p bins start before after plane count columns number cells was is =
    let f : ℕ → List ℕ = bundle_row p bins in
    let n : ℕ = plane * (p.capacity + 1) in
    let own : map (row_of_column columns) (range_with_len 0 count) ≡ map f (range_with_len n count)
    = mapped-same (row_of_column columns) f 0 n count (λ k lt. ap (row_of_column columns) (zero-add k) ∙ row_of_column-is p bins plane k columns (omega arith) cells ∙ sym (row-is p bins plane k (omega arith))) in
    let size : n + count ≡ (plane + 1) * (p.capacity + 1) = omega (arith, number) in
    is
    ∙ (λ i. holding (was i) ((was i).held ++ own i))
    ∙ ap (holding start) (sym (map-parts f n count) ∙ ap (λ (k : ℕ). map f (range_with_len 0 k)) size)

-- without its rows the block is as it was
pub cleared-again : (start block : Block) (rows : List (List ℕ)) → start.held ≡ [] → block ≡ holding start rows → cleared block ≡ start
cleared-again start block rows none is = ap cleared is ∙ (λ i. record start { held = sym none i })
