-- Bins of rows one by one, how often a tag stands in them, and labels by tag.
use Rattle.std.proofs.Common.{◌≡◌, ℕ, zero, suc, ◌+◌, ◌≤◌, false, List, [], ◌∷◌, length, map, Some, None, count_by, All, Contains, refl, ◌∙◌, arith}
use Rattle.std.specs.List.{AllByRecursion}
use Rattle.std.specs.Ordering.{nat_cmp, eq_by_cmp}
use Rattle.std.specs.Cmp.Lexicographic.{slice_cmp, nat_list_cmp_total}
use Rattle.std.specs.FinMap as fin
use Rattle.std.specs.FinMap.{get-insert, get-remove}
use Rattle.std.proofs.lemmas.Bool.{cond-true, cond-false, false_from_ne_true}
use Rattle.std.proofs.lemmas.List.{get_or_past, length-replicate}
use Rattle.std.proofs.lemmas.List.Elements.{recursion_from_All, All-from_recursion}
use Rattle.std.proofs.lemmas.List.Sums.{sum_by-cons}
use Rattle.std.proofs.lemmas.Map.Text.{is_eq-slice_cmp}
use Rattle.psi_bundle.specs.declared.member.Member.{Member}
use Rattle.item_slots.specs.Tags.{bins_of_row}
use Rattle.psi_bundle.specs.Bins.{same_tag, bin_at, empty_bins}
use Rattle.psi_bundle.specs.Versions.{Labels, Stamped, Row, row_at, bins_at, standing}
use Rattle.psi_bundle.proofs.BinChanges.{same_tag-Decides}
use Rattle.sender_core.proofs.SoundLists.{count-none}

-- ---- tags

-- the map's keys tie where tags are the same
pub eq_by_cmp-tags : (a b : List ℕ) → eq_by_cmp (slice_cmp nat_cmp) a b ≡ same_tag a b
eq_by_cmp-tags a b = is_eq-slice_cmp a b

pub same_tag-apart : (a b : List ℕ) → (a ≡ b → ⊥) → same_tag a b ≡ false
same_tag-apart a b apart = false_from_ne_true (same_tag a b) (λ e. apart ((same_tag-Decides a b).0 e))

-- ---- labels

pub get-insert_same : (labels : Labels) (tag label q : List ℕ) → q ≡ tag → fin.get (fin.insert labels tag label) q ≡ Some label
get-insert_same labels tag label q same =
    get-insert nat_list_cmp_total labels tag label q
    ∙ cond-true (eq_by_cmp (slice_cmp nat_cmp) q tag) (Some label) (fin.get labels q) (eq_by_cmp-tags q tag ∙ (same_tag-Decides q tag).1 same)

pub get-insert_other : (labels : Labels) (tag label q : List ℕ) → (q ≡ tag → ⊥) → fin.get (fin.insert labels tag label) q ≡ fin.get labels q
get-insert_other labels tag label q apart =
    get-insert nat_list_cmp_total labels tag label q
    ∙ cond-false (eq_by_cmp (slice_cmp nat_cmp) q tag) (Some label) (fin.get labels q) (eq_by_cmp-tags q tag ∙ same_tag-apart q tag apart)

pub get-remove_same : (labels : Labels) (tag q : List ℕ) → q ≡ tag → fin.get (fin.remove labels tag) q ≡ None
get-remove_same labels tag q same =
    get-remove nat_list_cmp_total labels tag q
    ∙ cond-true (eq_by_cmp (slice_cmp nat_cmp) q tag) None (fin.get labels q) (eq_by_cmp-tags q tag ∙ (same_tag-Decides q tag).1 same)

pub get-remove_other : (labels : Labels) (tag q : List ℕ) → (q ≡ tag → ⊥) → fin.get (fin.remove labels tag) q ≡ fin.get labels q
get-remove_other labels tag q apart =
    get-remove nat_list_cmp_total labels tag q
    ∙ cond-false (eq_by_cmp (slice_cmp nat_cmp) q tag) None (fin.get labels q) (eq_by_cmp-tags q tag ∙ same_tag-apart q tag apart)

-- ---- bins

-- bin b of bundle u of row r
abbrev pub cell : List Row → ℕ → ℕ → ℕ → List Member
cell rows r u b = bin_at (bins_at (row_at rows r) u) b

pub length-empty : length empty_bins ≡ bins_of_row
unfolding empty_bins
length-empty = length-replicate {A = List Member} bins_of_row []

-- so many rows, and each bundle has its 819 bins
pub record AreShaped (n : ℕ) (rows : List Row) : Type 0 where
  pub size : length rows ≡ n
  pub each : All (λ row. All (λ u. length u.bins ≡ bins_of_row) row) rows

-- a bundle's bins end at 819
bins_end : (row : Row) (u b : ℕ) → AllByRecursion (λ u. length u.bins ≡ bins_of_row) row → bins_of_row ≤ b → bin_at (bins_at row u) b ≡ []
bins_end [] u b h past = refl
bins_end (x ∷ xs) zero b h past = get_or_past x.bins b [] (omega (arith, h.0, past))
bins_end (x ∷ xs) (suc u) b h past = bins_end xs u b h.1 past

-- what holds of each row holds of a row at a place, also of the one without bundles past the end
row_has : (P : Row → Type 0) (rows : List Row) (r : ℕ) → P [] → AllByRecursion P rows → P (row_at rows r)
row_has P [] r none h = none
row_has P (row ∷ rows) zero none h = h.0
row_has P (row ∷ rows) (suc r) none h = row_has P rows r none h.1

pub row-shaped : (n : ℕ) (rows : List Row) (r : ℕ) → AreShaped n rows → AllByRecursion (λ u. length u.bins ≡ bins_of_row) (row_at rows r)
row-shaped n rows r h =
    recursion_from_All (λ u. length u.bins ≡ bins_of_row) (row_at rows r)
    (row_has (λ row. All (λ u. length u.bins ≡ bins_of_row) row) rows r (All-from_recursion (λ u. length u.bins ≡ bins_of_row) [] tt)
    (recursion_from_All (λ row. All (λ u. length u.bins ≡ bins_of_row) row) rows h.each))

pub cell_end : (n : ℕ) (rows : List Row) (r u b : ℕ) → AreShaped n rows → bins_of_row ≤ b → cell rows r u b ≡ []
cell_end n rows r u b h past = bins_end (row_at rows r) u b (row-shaped n rows r h) past

-- ---- how often a tag stands

-- how many members of a bin have the tag
abbrev pub held : List Member → List ℕ → ℕ
held bin tag = count_by (λ m. same_tag m.tag tag) bin

pub standing-cons : (x : Stamped) (xs : Row) (b : ℕ) (tag : List ℕ) → standing (x ∷ xs) b tag ≡ held (bin_at x.bins b) tag + standing xs b tag
standing-cons x xs b tag = sum_by-cons (λ (n : ℕ). n) (held (bin_at x.bins b) tag) (map (λ u. held (bin_at u.bins b) tag) xs)

-- rows of one length whose bins hold the tag alike
pub standing-same : (xs ys : Row) (b : ℕ) (tag : List ℕ) → length xs ≡ length ys → ((u : ℕ) → held (bin_at (bins_at xs u) b) tag ≡ held (bin_at (bins_at ys u) b) tag) → standing xs b tag ≡ standing ys b tag
standing-same [] [] b tag e h = refl
standing-same [] (y ∷ ys) b tag e h = absurd (omega arith)
standing-same (x ∷ xs) [] b tag e h = absurd (omega arith)
standing-same (x ∷ xs) (y ∷ ys) b tag e h =
    let rest = standing-same xs ys b tag (omega arith) (λ u. h (suc u)) in
    let first : held (bin_at x.bins b) tag ≡ held (bin_at y.bins b) tag = h 0 in
    omega (arith, standing-cons x xs b tag, standing-cons y ys b tag, rest, first)

-- a tag that no bin holds
pub standing-none : (xs : Row) (b : ℕ) (tag : List ℕ) → ((u : ℕ) → held (bin_at (bins_at xs u) b) tag ≡ 0) → standing xs b tag ≡ 0
standing-none [] b tag h = refl
standing-none (x ∷ xs) b tag h =
    let rest = standing-none xs b tag (λ u. h (suc u)) in
    let first : held (bin_at x.bins b) tag ≡ 0 = h 0 in
    omega (arith, standing-cons x xs b tag, rest, first)

-- no member with the tag, none held
pub held-none : (bin : List Member) (tag : List ℕ) → ((m : Member) → Contains bin m → m.tag ≡ tag → ⊥) → held bin tag ≡ 0
held-none bin tag h = count-none (λ m. same_tag m.tag tag) bin (each bin h)
  where
    each : (ms : List Member) → ((m : Member) → Contains ms m → m.tag ≡ tag → ⊥) → AllByRecursion (λ m. same_tag m.tag tag ≡ false) ms
    each [] g = tt
    each (m ∷ ms) g = (same_tag-apart m.tag tag (g m (0, omega arith, refl)), each ms (λ x c. g x (suc c.0, omega (arith, c.1), c.2)))
