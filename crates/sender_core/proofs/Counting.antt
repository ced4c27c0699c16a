-- First fit adds at most one bundle a position.
use Rattle.std.specs.Prelude.{◌≡◌, ℕ, zero, suc, ◌+◌, ◌*◌, ◌/◌, ◌%◌, ◌≤◌, Bool, true, false, List, [], ◌∷◌, length, map, slice_set, if◌then◌else◌}
use Rattle.std.specs.List.{fold, sum}
use Rattle.std.proofs.Common.{refl, sym, ◌∙◌, subst, arith}
use Rattle.std.proofs.lemmas.List.{length-map}
use Rattle.std.proofs.lemmas.List.Sums.{sum_by-cons}
use Rattle.psi_bundle.specs.declared.member.Member.{Member}
use Rattle.item_slots.specs.Tags.{bins_of_row}
use Rattle.psi_bundle.specs.Bins.{accepts, bin_at}
use Rattle.psi_bundle.specs.Versions.{Row, first_fit, joined, placed_at, row_at, planes_of, cells_of}
use Rattle.psi_residue.specs.Parameters.{Parameters}
use Rattle.sender_core.specs.Kept.{Kept, stamped_of, row_of, rows_of, kept_row, bundles_of}

-- how many bundles the rows have
abbrev pub size_of : List Row → ℕ
size_of rows = sum (map (λ row. length row) rows)

pub size-cons : (row : Row) (rows : List Row) → size_of (row ∷ rows) ≡ length row + size_of rows
size-cons row rows = sum_by-cons (λ (k : ℕ). k) (length row) (map (λ (r : Row). length r) rows)

short_case : (t : Bool) (xs ys : Row) (n : ℕ) → length xs ≤ n → length ys ≤ n → length (if t then xs else ys) ≤ n
short_case true xs ys n p q = p
short_case false xs ys n p q = q

length-first_fit : (capacity stamp b : ℕ) (m : Member) (row : Row) → length (first_fit capacity stamp b m row) ≤ length row + 1
unfolding first_fit
length-first_fit capacity stamp b m [] = omega arith
length-first_fit capacity stamp b m (u ∷ us) =
    short_case (accepts capacity (bin_at u.bins b) m.tag) (joined stamp b m u ∷ us) (u ∷ first_fit capacity stamp b m us) _ (omega arith) (omega (arith, length-first_fit capacity stamp b m us))

size-set : (rows : List Row) (r : ℕ) (row : Row) → length row ≤ length (row_at rows r) + 1 → size_of (slice_set rows r row) ≤ size_of rows + 1
size-set [] r row h = omega arith
size-set (us ∷ rows) zero row h = omega (arith, h, size-cons us rows, size-cons row rows)
size-set (us ∷ rows) (suc r) row h = omega (arith, size-set rows r row h, size-cons us rows, size-cons us (slice_set rows r row))

size-placed_at : (capacity stamp p : ℕ) (m : Member) (rows : List Row) → size_of (placed_at capacity stamp m rows p) ≤ size_of rows + 1
unfolding placed_at
size-placed_at capacity stamp p m rows = size-set rows (p / bins_of_row) _ (length-first_fit capacity stamp (p % bins_of_row) m (row_at rows (p / bins_of_row)))

pub size-placed : (capacity stamp : ℕ) (m : Member) (ps : List ℕ) (rows : List Row) → size_of (fold (placed_at capacity stamp m) rows ps) ≤ size_of rows + length ps
size-placed capacity stamp m [] rows = omega arith
size-placed capacity stamp m (p ∷ ps) rows = omega (arith, size-placed capacity stamp m ps (placed_at capacity stamp m rows p), size-placed_at capacity stamp p m rows)

-- the same count with caches
pub size-kept : {C : Type 0} (rows : List (List (Kept C))) → size_of (rows_of rows) ≡ bundles_of rows
size-kept [] = refl
size-kept (ks ∷ rows) =
    omega (arith, size-kept rows, length-map ks stamped_of, size-cons (row_of ks) (rows_of rows), sum_by-cons (λ (k : ℕ). k) (length ks) (map (λ (r : List _). length r) rows))

-- the planes by the count of bundles
pub planes-are : {C : Type 0} (p : Parameters) (rows : List (List (Kept C))) (n u : ℕ) → n ≡ bundles_of rows → u ≡ p.units → n * (1 + u) ≡ planes_of p (rows_of rows)
planes-are p rows n u is_n is_u = λ i. (is_n ∙ sym (size-kept rows)) i * (1 + is_u i)

pub cells-are : {C : Type 0} (p : Parameters) (rows : List (List (Kept C))) (n u c : ℕ) → n ≡ bundles_of rows → u ≡ p.units → c ≡ p.capacity → n * (1 + u) * (c + 1) ≡ cells_of p (rows_of rows)
cells-are p rows n u c is_n is_u is_c = λ i. planes-are p rows n u is_n is_u i * (is_c i + 1)

-- at most three bundles more
pub few-after : {C : Type 0} (capacity stamp : ℕ) (m : Member) (before rows : List (List (Kept C))) (ps : List ℕ) → rows_of rows ≡ fold (placed_at capacity stamp m) (rows_of before) ps
    → bundles_of before ≤ 64 → length ps ≤ 3 → bundles_of rows ≤ 67
few-after capacity stamp m before rows ps made few three =
    let grown : size_of (rows_of rows) ≤ size_of (rows_of before) + length ps = subst (λ (rs : List Row). size_of rs ≤ size_of (rows_of before) + length ps) (sym made) (size-placed capacity stamp m ps (rows_of before)) in
    omega (arith, grown, size-kept rows, size-kept before, few, three)

-- a row has at most all the bundles
pub length-row : {C : Type 0} (rows : List (List (Kept C))) (r : ℕ) → length (kept_row rows r) ≤ bundles_of rows
length-row [] r = omega arith
length-row (ks ∷ rows) zero = omega (arith, sum_by-cons (λ (k : ℕ). k) (length ks) (map (λ (r : List _). length r) rows))
length-row (ks ∷ rows) (suc r) = omega (arith, length-row rows r, sum_by-cons (λ (k : ℕ). k) (length ks) (map (λ (r : List _). length r) rows))
