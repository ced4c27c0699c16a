-- How many bundles first fit of a tag adds: one for each row in which no bundle accepts it at one of its positions.
use Rattle.std.specs.Prelude.{◌≡◌, ◌≢◌, ⊤, ℕ, zero, suc, ◌+◌, ◌*◌, ◌/◌, ◌%◌, ◌≤◌, ◌<◌, Bool, true, false, cond, Option, Some, is_some, not, ◌||◌, ◌&&◌, nat_eq, List, [], ◌∷◌, ◌++◌, length, slice_set, slice_index, slice_index_or, drop, if◌then◌else◌}
use Rattle.std.specs.List.{fold, list_any, position_from, All}
use Rattle.std.specs.Arc.{arc_value}
use Rattle.std.specs.List.Sorted.{IsStrictlyIncreasing}
use Rattle.std.proofs.Common.{refl, sym, ap, ◌∙◌, subst, arith, add-one, inl, inr, Vec, Global}
use Rattle.std.proofs.lemmas.Bool.{eq-eqb}
use Rattle.std.proofs.lemmas.Bool.Decides.{eqb_tells}
use Rattle.std.proofs.lemmas.List.Elements.{All-head, All-tail}
use Rattle.std.proofs.Math.Seq.{drop-cons}
use Rattle.std.proofs.lemmas.List.{get_or-set_same, get_or-set_other, length-set}
use Rattle.psi_bundle.specs.declared.member.Member.{Member}
use Rattle.item_slots.specs.Tags.{bins_of_row}
use Rattle.psi_bundle.specs.Bins.{accepts, bin_at}
use Rattle.psi_bundle.specs.Versions.{Row, Stamped, first_fit, joined, empty_bundle, placed_at, row_at}
use Rattle.psi_bundle.proofs.FirstFit.{empty-accepts}
use Rattle.psi_bundle.specs.declared.cached.Shown.{Shown}
use Rattle.sender_core.specs.Kept.{row_of, rows_of}
use Rattle.sender_core.specs.Shown.{kept_of_row, kept_of_rows}
use Rattle.sender_core.proofs.Counting.{size_of, size-cons}
use Rattle.sender_core.proofs.RowLists.{row-alone, row-read}

-- some bundle of the row accepts the tag in bin b
abbrev pub has_room : ℕ → List ℕ → Row → ℕ → Bool
has_room capacity tag row b = list_any (λ u. accepts capacity (bin_at u.bins b) tag) row

-- some bundle in the row of a position accepts the tag there
abbrev pub has_room_at : ℕ → List ℕ → List Row → ℕ → Bool
has_room_at capacity tag rows p = has_room capacity tag (row_at rows (p / bins_of_row)) (p % bins_of_row)

-- How many bundles the positions add to these rows, by what the rows hold before the first of them. `opened` is one more than the row that got the last new bundle, or 0.
abbrev pub grown_by : ℕ → List ℕ → List Row → ℕ → List ℕ → ℕ
grown_by capacity tag rows opened [] = 0
grown_by capacity tag rows opened (p ∷ ps) =
    if nat_eq opened (p / bins_of_row + 1) || has_room_at capacity tag rows p then grown_by capacity tag rows opened ps else 1 + grown_by capacity tag rows (p / bins_of_row + 1) ps

-- positions in rising order, from `low` on, below a bound
abbrev pub Rise : ℕ → ℕ → List ℕ → Type 0
Rise below low [] = ⊤
Rise below low (p ∷ ps) = (low ≤ p) × (p < below) × Rise below (p + 1) ps

-- a bundle more where there was no room
abbrev pub added : Bool → ℕ
added true = 0
added false = 1

module _ (capacity stamp b : ℕ) (m : Member) (some : 1 ≤ capacity) where
  length_case : (t a : Bool) (u v : Stamped) (us rest : Row) → length rest ≡ length us + added a → length (if t then v ∷ us else u ∷ rest) ≡ length (u ∷ us) + added (t || a)
  length_case true a u v us rest h = omega arith
  length_case false a u v us rest h = omega (arith, h)

  -- first fit adds a bundle exactly where there was no room
  pub length-fit : (row : Row) → length (first_fit capacity stamp b m row) ≡ length row + added (has_room capacity m.tag row b)
  unfolding first_fit
  length-fit [] = refl
  length-fit (u ∷ us) = length_case (accepts capacity (bin_at u.bins b) m.tag) (has_room capacity m.tag us b) u (joined stamp b m u) us (first_fit capacity stamp b m us) (length-fit us)

  module _ (c : ℕ) (lt : c < bins_of_row) (differs : c ≢ b) where
    abbrev takes : Stamped → Bool
    takes u = accepts capacity (bin_at u.bins c) m.tag

    -- the member changes no other bin
    other_bin : (u : Stamped) → takes (joined stamp b m u) ≡ takes u
    other_bin u = ap (λ (bin : List Member). accepts capacity bin m.tag) (get_or-set_other u.bins b c (bin_at u.bins b ++ m ∷ []) [] differs)

    room_case : (t a x y z : Bool) (u v : Stamped) (us rest : Row) → takes v ≡ x → takes u ≡ x → list_any takes us ≡ y → list_any takes rest ≡ (y || not a)
        → list_any takes (if t then v ∷ us else u ∷ rest) ≡ ((x || y) || not (t || a))
    room_case true a true y z u v us rest new old same more = rw new refl
    room_case true a false true z u v us rest new old same more = rw new rw same refl
    room_case true a false false z u v us rest new old same more = rw new rw same refl
    room_case false a true y z u v us rest new old same more = rw old refl
    room_case false a false y z u v us rest new old same more = rw old more

    -- another bin has room where it had, and in a new bundle
    pub room-fit : (row : Row) → has_room capacity m.tag (first_fit capacity stamp b m row) c ≡ (has_room capacity m.tag row c || not (has_room capacity m.tag row b))
    unfolding first_fit
    room-fit [] = let free : takes (joined stamp b m (empty_bundle stamp)) ≡ true = other_bin (empty_bundle stamp) ∙ empty-accepts capacity c m.tag some lt in rw free refl
    room-fit (u ∷ us) =
        room_case (accepts capacity (bin_at u.bins b) m.tag) (has_room capacity m.tag us b) (takes u) (has_room capacity m.tag us c) true u (joined stamp b m u) us (first_fit capacity stamp b m us)
        (other_bin u) refl refl (room-fit us)

-- the size after one row was replaced
size-replaced : (rows : List Row) (r : ℕ) (row : Row) → r < length rows → size_of (slice_set rows r row) + length (row_at rows r) ≡ size_of rows + length row
size-replaced [] r row lt = absurd (omega (arith, lt))
size-replaced (us ∷ rows) zero row lt = omega (arith, size-cons us rows, size-cons row rows)
size-replaced (us ∷ rows) (suc r) row lt = omega (arith, size-replaced rows r row (omega (arith, lt)), size-cons us rows, size-cons us (slice_set rows r row))

if_true : (t : Bool) (x y : ℕ) → t ≡ true → (if t then x else y) ≡ x
if_true t x y e = rw e refl

if_false : (t : Bool) (x y : ℕ) → t ≡ false → (if t then x else y) ≡ y
if_false t x y e = rw e refl

or_false : (t : Bool) → (t || false) ≡ t
or_false true = refl
or_false false = refl

module _ (capacity stamp : ℕ) (m : Member) (some : 1 ≤ capacity) where
  size-one : (rows : List Row) (p : ℕ) → p / bins_of_row < length rows → size_of (placed_at capacity stamp m rows p) ≡ size_of rows + added (has_room_at capacity m.tag rows p)
  unfolding placed_at
  size-one rows p lt =
      let row = row_at rows (p / bins_of_row) in
      omega (arith, size-replaced rows (p / bins_of_row) (first_fit capacity stamp (p % bins_of_row) m row) lt, length-fit capacity stamp (p % bins_of_row) m some row)

  -- the rows after a position, at a later one
  room-one : (rows : List Row) (p q : ℕ) → p / bins_of_row < length rows → p < q
      → has_room_at capacity m.tag (placed_at capacity stamp m rows p) q ≡ (has_room_at capacity m.tag rows q || (nat_eq (p / bins_of_row + 1) (q / bins_of_row + 1) && not (has_room_at capacity m.tag rows p)))
  unfolding placed_at
  room-one rows p q lt before =
      elim (eqb_tells (p / bins_of_row + 1) (q / bins_of_row + 1)) [
        | inl same ↦ here same.0 (omega (arith, same.1))
        | inr differ ↦ there differ.0 (λ e. differ.1 (omega (arith, e)))
      ]
    where
      row : Row
      row = first_fit capacity stamp (p % bins_of_row) m (row_at rows (p / bins_of_row))

      here : nat_eq (p / bins_of_row + 1) (q / bins_of_row + 1) ≡ true → q / bins_of_row ≡ p / bins_of_row
          → has_room_at capacity m.tag (slice_set rows (p / bins_of_row) row) q ≡ (has_room_at capacity m.tag rows q || (nat_eq (p / bins_of_row + 1) (q / bins_of_row + 1) && not (has_room_at capacity m.tag rows p)))
      here same is =
          let at : row_at (slice_set rows (p / bins_of_row) row) (q / bins_of_row) ≡ row =
          ap (row_at (slice_set rows (p / bins_of_row) row)) is ∙ get_or-set_same rows (p / bins_of_row) row [] lt in
          ap (λ (r : Row). has_room capacity m.tag r (q % bins_of_row)) at
          ∙ room-fit capacity stamp (p % bins_of_row) m some (q % bins_of_row) (omega arith) (λ e. omega (arith, e, is, before)) (row_at rows (p / bins_of_row))
          ∙ (λ i. has_room capacity m.tag (row_at rows (sym is i)) (q % bins_of_row) || (sym same i && not (has_room_at capacity m.tag rows p)))

      there : nat_eq (p / bins_of_row + 1) (q / bins_of_row + 1) ≡ false → q / bins_of_row ≢ p / bins_of_row
          → has_room_at capacity m.tag (slice_set rows (p / bins_of_row) row) q ≡ (has_room_at capacity m.tag rows q || (nat_eq (p / bins_of_row + 1) (q / bins_of_row + 1) && not (has_room_at capacity m.tag rows p)))
      there differ far =
          ap (λ (r : Row). has_room capacity m.tag r (q % bins_of_row)) (get_or-set_other rows (p / bins_of_row) (q / bins_of_row) row [] far)
          ∙ sym (or_false (has_room_at capacity m.tag rows q))
          ∙ (λ i. has_room_at capacity m.tag rows q || (sym differ i && not (has_room_at capacity m.tag rows p)))

  -- rows that have room where the first rows had it or where a bundle is new, at positions from `low` on
  abbrev IsAfter : (first rows : List Row) (opened low : ℕ) → Type 0
  IsAfter first rows opened low =
      (q : ℕ) → low ≤ q → has_room_at capacity m.tag rows q ≡ (nat_eq opened (q / bins_of_row + 1) || has_room_at capacity m.tag first q)

  length-placed : (rows : List Row) (p : ℕ) → length (placed_at capacity stamp m rows p) ≡ length rows
  unfolding placed_at
  length-placed rows p = length-set rows (p / bins_of_row) _

  or_left : (x y : Bool) → (x || y) ≡ false → x ≡ false
  or_left true y e = absurd cc
  or_left false y e = refl

  or_both : (x y z : Bool) → y ≡ false → (x || (z && not y)) ≡ (x || z)
  or_both x true z e = absurd cc
  or_both true false z e = refl
  or_both false false true e = refl
  or_both false false false e = refl

  or_none : (x y z : Bool) → y ≡ true → (x || (z && not y)) ≡ x
  or_none x false z e = absurd cc
  or_none true true z e = refl
  or_none false true true e = refl
  or_none false true false e = refl

  swapped : (x y : Bool) → ((false || x) || y) ≡ (y || x)
  swapped true true = refl
  swapped true false = refl
  swapped false true = refl
  swapped false false = refl

  -- one position more, where what follows is counted
  module _ (first rows : List Row) (opened low p : ℕ) (ps : List ℕ) (after : IsAfter first rows opened low) (at : opened ≤ low / bins_of_row + 1) (rise : Rise (bins_of_row * length rows) low (p ∷ ps))
      (rest : (next : ℕ) → IsAfter first (placed_at capacity stamp m rows p) next (p + 1) → next ≤ (p + 1) / bins_of_row + 1 → Rise (bins_of_row * length (placed_at capacity stamp m rows p)) (p + 1) ps
      → size_of (fold (placed_at capacity stamp m) (placed_at capacity stamp m rows p) ps) ≡ size_of (placed_at capacity stamp m rows p) + grown_by capacity m.tag first next ps) where
    abbrev mid : List Row
    mid = placed_at capacity stamp m rows p

    within : p / bins_of_row < length rows
    within = omega (arith, rise.1)

    later : Rise (bins_of_row * length mid) (p + 1) ps
    later = subst (λ (n : ℕ). Rise (bins_of_row * n) (p + 1) ps) (sym (length-placed rows p)) rise.2

    told : has_room_at capacity m.tag rows p ≡ (nat_eq opened (p / bins_of_row + 1) || has_room_at capacity m.tag first p)
    told = after p rise.0

    module _ (e : has_room_at capacity m.tag rows p ≡ false) where
      differs : (q : ℕ) → p < q → opened ≡ q / bins_of_row + 1 → ⊥
      differs q lt same =
          let here : opened ≡ p / bins_of_row + 1 = omega (arith, lt, same, at, rise.0) in
          let b : true ≡ false = sym (eq-eqb opened (p / bins_of_row + 1) here) ∙ or_left _ _ (sym told ∙ e) in cc

      -- the row that got a bundle last lies below
      gone : (q : ℕ) → p < q → nat_eq opened (q / bins_of_row + 1) ≡ false
      gone q lt =
          elim (eqb_tells opened (q / bins_of_row + 1)) [
            | inl same ↦ absurd (differs q lt same.1)
            | inr differ ↦ differ.0
          ]

      turned : (q : ℕ) → p < q → (has_room_at capacity m.tag rows q || nat_eq (p / bins_of_row + 1) (q / bins_of_row + 1)) ≡ (nat_eq (p / bins_of_row + 1) (q / bins_of_row + 1) || has_room_at capacity m.tag first q)
      turned q lt =
          ap (λ (t : Bool). t || nat_eq (p / bins_of_row + 1) (q / bins_of_row + 1)) (after q (omega (arith, lt, rise.0)) ∙ ap (λ (t : Bool). t || has_room_at capacity m.tag first q) (gone q lt))
          ∙ swapped (has_room_at capacity m.tag first q) (nat_eq (p / bins_of_row + 1) (q / bins_of_row + 1))

    by_room : (t : Bool) → has_room_at capacity m.tag rows p ≡ t → size_of (fold (placed_at capacity stamp m) mid ps) ≡ size_of rows + grown_by capacity m.tag first opened (p ∷ ps)
    by_room true e =
        let goes : IsAfter first mid opened (p + 1) = λ q lt.
        room-one rows p q within (omega (arith, lt)) ∙ or_none (has_room_at capacity m.tag rows q) (has_room_at capacity m.tag rows p) (nat_eq (p / bins_of_row + 1) (q / bins_of_row + 1)) e ∙ after q (omega (arith, lt, rise.0)) in
        let more = rest opened goes (omega (arith, at, rise.0)) later in
        let one = size-one rows p within ∙ ap (λ (t : Bool). size_of rows + added t) e in
        let stays = if_true (nat_eq opened (p / bins_of_row + 1) || has_room_at capacity m.tag first p) (grown_by capacity m.tag first opened ps) (1 + grown_by capacity m.tag first (p / bins_of_row + 1) ps) (sym told ∙ e) in
        omega (arith, more, one, stays)
    by_room false e =
        let goes : IsAfter first mid (p / bins_of_row + 1) (p + 1) = λ q lt.
        room-one rows p q within (omega (arith, lt)) ∙ or_both (has_room_at capacity m.tag rows q) (has_room_at capacity m.tag rows p) (nat_eq (p / bins_of_row + 1) (q / bins_of_row + 1)) e ∙ turned e q (omega (arith, lt)) in
        let more = rest (p / bins_of_row + 1) goes (omega arith) later in
        let one = size-one rows p within ∙ ap (λ (t : Bool). size_of rows + added t) e in
        let grows = if_false (nat_eq opened (p / bins_of_row + 1) || has_room_at capacity m.tag first p) (grown_by capacity m.tag first opened ps) (1 + grown_by capacity m.tag first (p / bins_of_row + 1) ps) (sym told ∙ e) in
        omega (arith, more, one, grows)

  -- the number of bundles after all positions
  size_after : (first : List Row) (ps : List ℕ) (rows : List Row) (opened low : ℕ) → IsAfter first rows opened low → opened ≤ low / bins_of_row + 1 → Rise (bins_of_row * length rows) low ps
      → size_of (fold (placed_at capacity stamp m) rows ps) ≡ size_of rows + grown_by capacity m.tag first opened ps
  size_after first [] rows opened low after at rise = omega arith
  size_after first (p ∷ ps) rows opened low after at rise =
      by_room first rows opened low p ps after at rise (λ next goes start later. size_after first ps (placed_at capacity stamp m rows p) next (p + 1) goes start later) (has_room_at capacity m.tag rows p) refl

  -- from the rows as they stand
  pub size-grown : (rows : List Row) (ps : List ℕ) → Rise (bins_of_row * length rows) 0 ps → size_of (fold (placed_at capacity stamp m) rows ps) ≡ size_of rows + grown_by capacity m.tag rows 0 ps
  size-grown rows ps rise = size_after rows ps rows 0 0 (λ q lt. never (q / bins_of_row) (has_room_at capacity m.tag rows q)) (omega arith) rise where
    never : (n : ℕ) (t : Bool) → t ≡ (nat_eq 0 (n + 1) || t)
    never n t = ap (λ (b : Bool). b || t) (differ n) where
      differ : (n : ℕ) → false ≡ nat_eq 0 (n + 1)
      differ n = elim (eqb_tells 0 (n + 1)) [
        | inl same ↦ absurd (omega (arith, same.1))
        | inr other ↦ sym other.0
      ]

tail_rises : (p : ℕ) (ps : List ℕ) → IsStrictlyIncreasing (p ∷ ps) → IsStrictlyIncreasing ps
tail_rises p ps rise k lt =
    let at : (i : ℕ) → slice_index (p ∷ ps) (i + 1) ≡ slice_index ps i = λ i. ap (slice_index (p ∷ ps)) (add-one i) in
    omega (arith, at k, at (k + 1), rise (k + 1) (omega (arith, lt)))

-- rising positions below a bound
pub rise-from : (below : ℕ) (ps : List ℕ) (low : ℕ) → (0 < length ps → low ≤ slice_index ps 0) → IsStrictlyIncreasing ps → All (λ p. p < below) ps → Rise below low ps
rise-from below [] low start rise under = tt
rise-from below (p ∷ ps) low start rise under = (
  start (omega arith),
  All-head (λ p. p < below) p ps under,
  rise-from below ps (p + 1) (λ some. later some) (tail_rises p ps rise) (All-tail (λ p. p < below) p ps under),
) where
  later : 0 < length ps → p + 1 ≤ slice_index ps 0
  later some =
      let at : slice_index (p ∷ ps) (0 + 1) ≡ slice_index ps 0 = refl in
      omega (arith, at, rise 0 (omega (arith, some)))

-- one position more of a count
pub grown-more : (capacity : ℕ) (tag : List ℕ) (rows : List Row) (opened n all : ℕ) (places : List ℕ) (i p : ℕ) → i < length places → p ≡ slice_index places i
    → n + grown_by capacity tag rows opened (drop i places) ≡ all
    → n + (if nat_eq opened (p / bins_of_row + 1) || has_room_at capacity tag rows p then grown_by capacity tag rows opened (drop (i + 1) places) else 1 + grown_by capacity tag rows (p / bins_of_row + 1) (drop (i + 1) places)) ≡ all
grown-more capacity tag rows opened n all places i p lt is so_far =
    ap (λ (ps : List ℕ). n + grown_by capacity tag rows opened ps)
    ((λ j. is j ∷ drop (add-one i j) places) ∙ sym (drop-cons places i 0 lt)) ∙ so_far

-- in a row of shown bundles
pub room-found : {C : Type 0} (capacity b : ℕ) (tag : List ℕ) (items : List (Shown C)) (n : ℕ)
    → is_some (position_from (λ (u : Shown C). accepts capacity (bin_at (arc_value u.bundle) b) tag) n items) ≡ has_room capacity tag (row_of (kept_of_row items)) b
room-found capacity b tag [] n = refl
room-found {C = C} capacity b tag (u ∷ us) n = by_first (accepts capacity (bin_at (arc_value u.bundle) b) tag) (position_from (λ (u : Shown C). accepts capacity (bin_at (arc_value u.bundle) b) tag) (n + 1) us) _ (room-found capacity b tag us (n + 1)) where
  by_first : (t : Bool) (rest : Option ℕ) (more : Bool) → is_some rest ≡ more → is_some (cond t (Some n) rest) ≡ (t || more)
  by_first true rest more e = refl
  by_first false rest more e = e

-- the row of a position, as it is read
pub room-read : {C : Type 0} (capacity p : ℕ) (tag : List ℕ) (items : List (Vec (Shown C) Global)) (v : Vec (Shown C) Global) (us : List (Shown C)) (t : Bool) → p / bins_of_row < length items
    → v ≡ slice_index_or items (p / bins_of_row) v → us ≡ v.items → t ≡ has_room capacity tag (row_of (kept_of_row us)) (p % bins_of_row) → t ≡ has_room_at capacity tag (rows_of (kept_of_rows items)) p
room-read capacity p tag items v us t lt here is told =
    told
    ∙ ap (λ (xs : List (Shown _)). has_room capacity tag (row_of (kept_of_row xs)) (p % bins_of_row)) is
    ∙ ap (λ (r : Row). has_room capacity tag r (p % bins_of_row)) (sym (row-alone (kept_of_rows items) (p / bins_of_row) ∙ ap row_of (row-read items (p / bins_of_row) v lt here)))

module _ (capacity : ℕ) (tag : List ℕ) (rows : List Row) (opened n all : ℕ) (places : List ℕ) (i p : ℕ) (lt : i < length places) (is : p ≡ slice_index places i)
    (so_far : n + grown_by capacity tag rows opened (drop i places) ≡ all) where
  -- a bundle more
  pub grown-one : opened ≢ p / bins_of_row + 1 → has_room_at capacity tag rows p ≡ false → (n + 1) + grown_by capacity tag rows (p / bins_of_row + 1) (drop (i + 1) places) ≡ all
  grown-one differ none =
      let e : (nat_eq opened (p / bins_of_row + 1) || has_room_at capacity tag rows p) ≡ false = λ j. apart j || none j in
      omega (arith, grown-more capacity tag rows opened n all places i p lt is so_far, if_false _ (grown_by capacity tag rows opened (drop (i + 1) places)) (1 + grown_by capacity tag rows (p / bins_of_row + 1) (drop (i + 1) places)) e)
    where
      apart : nat_eq opened (p / bins_of_row + 1) ≡ false
      apart =
          elim (eqb_tells opened (p / bins_of_row + 1)) [
            | inl same ↦ absurd (differ same.1)
            | inr other ↦ other.0
          ]

  -- room in the new bundle, or in one that stands
  pub grown-none : (nat_eq opened (p / bins_of_row + 1) || has_room_at capacity tag rows p) ≡ true → n + grown_by capacity tag rows opened (drop (i + 1) places) ≡ all
  grown-none e = omega (arith, grown-more capacity tag rows opened n all places i p lt is so_far, if_true _ (grown_by capacity tag rows opened (drop (i + 1) places)) (1 + grown_by capacity tag rows (p / bins_of_row + 1) (drop (i + 1) places)) e)

  pub grown-same : opened ≡ p / bins_of_row + 1 → n + grown_by capacity tag rows opened (drop (i + 1) places) ≡ all
  grown-same same = grown-none (ap (λ (t : Bool). t || has_room_at capacity tag rows p) (eq-eqb opened (p / bins_of_row + 1) same))

  pub grown-roomy : has_room_at capacity tag rows p ≡ true → n + grown_by capacity tag rows opened (drop (i + 1) places) ≡ all
  grown-roomy room = grown-none (ap (λ (t : Bool). nat_eq opened (p / bins_of_row + 1) || t) room ∙ or_true (nat_eq opened (p / bins_of_row + 1))) where
    or_true : (t : Bool) → (t || true) ≡ true
    or_true true = refl
    or_true false = refl
