-- What first fit leaves in the bins of its rows.
use Rattle.std.proofs.Common.{◌≡◌, ◌⊎◌, ℕ, zero, suc, ◌+◌, ◌*◌, ◌/◌, ◌%◌, ◌≤◌, ◌<◌, Bool, true, false, cond, List, [], ◌∷◌, ◌++◌, length, set, fold, All, AllPairs, inl, inr, refl, sym, ap, ◌∙◌, subst, arith, IsFalse}
use Rattle.std.specs.List.{AllByRecursion}
use Rattle.std.proofs.lemmas.Bool.{cases_eq, lt-ltb, ltb-true, and_parts, not-true, and_from}
use Rattle.std.proofs.lemmas.List.{length-set, length_push, get_or-set_same, get_or-set_other}
use Rattle.std.proofs.lemmas.List.Elements.{All-from_recursion, All-set}
use Rattle.std.proofs.lemmas.List.Quantifiers.{all_pairs_push}
use Rattle.std.proofs.lemmas.List.Sums.{sum_by_push}
use Rattle.psi_bundle.specs.declared.member.Member.{Member}
use Rattle.item_slots.specs.Tags.{bins_of_row}
use Rattle.psi_bundle.specs.Bins.{accepts, same_tag, shares_slot, bin_at, empty_bins}
use Rattle.psi_bundle.specs.Versions.{Row, row_at, bins_at, standing, joined, empty_bundle, first_fit, placed_at}
use Rattle.sender_core.proofs.SoundLists.{set-cases, none-any_at, one_if}
use Rattle.item_slots.proofs.PositionLaws.{IsRising, all-weaker}
use Rattle.sender_core.proofs.SoundPositions.{IsIn, all-at}
use Rattle.psi_bundle.proofs.EmptyBundle.{bin_at-empty}
use Rattle.sender_core.proofs.SoundCells.{cell, AreShaped, row-shaped, length-empty, held, standing-cons}

-- ---- one bin

-- a bin stays, or takes the member at its end, where that is allowed and it accepts the tag
abbrev pub StaysOrJoins : ℕ → Member → Type 0 → List Member → List Member → Type 0
StaysOrJoins capacity m Here before after = (after ≡ before) ⊎ (Here × (after ≡ before ++ m ∷ []) × (accepts capacity before m.tag ≡ true))

joins-bin : (capacity b c : ℕ) (m : Member) (bins : List (List Member)) → accepts capacity (bin_at bins b) m.tag ≡ true
    → StaysOrJoins capacity m (c ≡ b) (bin_at bins c) (bin_at (set bins b (bin_at bins b ++ m ∷ [])) c)
joins-bin capacity b c m bins e =
    elim (set-cases bins b c (bin_at bins b ++ m ∷ []) []) [
      | inl same ↦ inl same
      | inr new ↦ inr (
        new.0,
        new.2 ∙ ap (λ (k : ℕ). bin_at bins k ++ m ∷ []) (sym new.0),
        ap (λ (k : ℕ). accepts capacity (bin_at bins k) m.tag) new.0 ∙ e,
      )
    ]

accepts-empty : (capacity : ℕ) (tag : List ℕ) → 1 ≤ capacity → accepts capacity [] tag ≡ true
unfolding accepts
accepts-empty capacity tag some = and_from _ _ (lt-ltb 0 capacity some) refl

joins-empty : (capacity b c : ℕ) (m : Member) → 1 ≤ capacity
    → StaysOrJoins capacity m (c ≡ b) [] (bin_at (set empty_bins b (bin_at empty_bins b ++ m ∷ [])) c)
joins-empty capacity b c m some =
    subst (λ before. StaysOrJoins capacity m (c ≡ b) before (bin_at (set empty_bins b (bin_at empty_bins b ++ m ∷ [])) c)) (bin_at-empty c)
    (joins-bin capacity b c m empty_bins (ap (λ (bin : List Member). accepts capacity bin m.tag) (bin_at-empty b) ∙ accepts-empty capacity m.tag some))

-- ---- one row

-- each bin of each bundle after first fit
pub joins-row : (capacity stamp b : ℕ) (m : Member) (row : Row) (u c : ℕ) → 1 ≤ capacity
    → StaysOrJoins capacity m (c ≡ b) (bin_at (bins_at row u) c) (bin_at (bins_at (first_fit capacity stamp b m row) u) c)
unfolding first_fit
joins-row capacity stamp b m [] zero c some = joins-empty capacity b c m some
joins-row capacity stamp b m [] (suc u) c some = inl refl
joins-row capacity stamp b m (x ∷ xs) u c some = chosen (accepts capacity (bin_at x.bins b) m.tag) refl (first_fit capacity stamp b m xs) (λ w. joins-row capacity stamp b m xs w c some) u
  where
    chosen : (t : Bool) → accepts capacity (bin_at x.bins b) m.tag ≡ t → (rest : Row)
        → ((w : ℕ) → StaysOrJoins capacity m (c ≡ b) (bin_at (bins_at xs w) c) (bin_at (bins_at rest w) c)) → (w : ℕ)
        → StaysOrJoins capacity m (c ≡ b) (bin_at (bins_at (x ∷ xs) w) c) (bin_at (bins_at (cond t (joined stamp b m x ∷ xs) (x ∷ rest)) w) c)
    chosen true e rest h zero = joins-bin capacity b c m x.bins e
    chosen true e rest h (suc w) = inl refl
    chosen false e rest h zero = inl refl
    chosen false e rest h (suc w) = h w

-- each bundle keeps its 819 bins
pub shaped-first_fit : (capacity stamp b : ℕ) (m : Member) (row : Row) → AllByRecursion (λ u. length u.bins ≡ bins_of_row) row
    → AllByRecursion (λ u. length u.bins ≡ bins_of_row) (first_fit capacity stamp b m row)
unfolding first_fit
shaped-first_fit capacity stamp b m [] h = (length-set empty_bins b (bin_at empty_bins b ++ m ∷ []) ∙ length-empty, tt)
shaped-first_fit capacity stamp b m (x ∷ xs) h = chosen (accepts capacity (bin_at x.bins b) m.tag) (first_fit capacity stamp b m xs) (shaped-first_fit capacity stamp b m xs h.1)
  where
    chosen : (t : Bool) (rest : Row) → AllByRecursion (λ u. length u.bins ≡ bins_of_row) rest
        → AllByRecursion (λ u. length u.bins ≡ bins_of_row) (cond t (joined stamp b m x ∷ xs) (x ∷ rest))
    chosen true rest k = (length-set x.bins b (bin_at x.bins b ++ m ∷ []) ∙ h.0, h.1)
    chosen false rest k = (h.0, k)

-- one member that counts for the tag, or none
abbrev pub weight : Member → List ℕ → ℕ
weight m tag = one_if (same_tag m.tag tag)

held-joined : (bins : List (List Member)) (b : ℕ) (m : Member) (tag : List ℕ) → b < length bins
    → held (bin_at (set bins b (bin_at bins b ++ m ∷ [])) b) tag ≡ held (bin_at bins b) tag + weight m tag
held-joined bins b m tag lt =
    ap (λ (bin : List Member). held bin tag) (get_or-set_same bins b (bin_at bins b ++ m ∷ []) [] lt)
    ∙ sum_by_push (λ (x : Member). cond (same_tag x.tag tag) 1 0) (bin_at bins b) m

-- in its bin the tag stands once more
pub standing-bin : (capacity stamp b : ℕ) (m : Member) (row : Row) (tag : List ℕ) → AllByRecursion (λ u. length u.bins ≡ bins_of_row) row → b < bins_of_row
    → standing (first_fit capacity stamp b m row) b tag ≡ standing row b tag + weight m tag
unfolding first_fit
standing-bin capacity stamp b m [] tag h lt =
    let whole = standing-cons (joined stamp b m (empty_bundle stamp)) [] b tag in
    let more = held-joined empty_bins b m tag (omega (arith, length-empty, lt)) in
    let none : held (bin_at empty_bins b) tag ≡ 0 = ap (λ (bin : List Member). held bin tag) (bin_at-empty b) in
    omega (arith, whole, more, none)
standing-bin capacity stamp b m (x ∷ xs) tag h lt =
    chosen (accepts capacity (bin_at x.bins b) m.tag) (first_fit capacity stamp b m xs) (standing-bin capacity stamp b m xs tag h.1 lt)
  where
    chosen : (t : Bool) (rest : Row) → standing rest b tag ≡ standing xs b tag + weight m tag
        → standing (cond t (joined stamp b m x ∷ xs) (x ∷ rest)) b tag ≡ standing (x ∷ xs) b tag + weight m tag
    chosen true rest k =
        let more = held-joined x.bins b m tag (omega (arith, h.0, lt)) in
        omega (arith, standing-cons (joined stamp b m x) xs b tag, standing-cons x xs b tag, more)
    chosen false rest k = omega (arith, standing-cons x rest b tag, standing-cons x xs b tag, k)

-- and in another bin as often as before
pub standing-other_bin : (capacity stamp b c : ℕ) (m : Member) (row : Row) (tag : List ℕ) → (c ≡ b → ⊥)
    → standing (first_fit capacity stamp b m row) c tag ≡ standing row c tag
unfolding first_fit
standing-other_bin capacity stamp b c m [] tag apart =
    let whole = standing-cons (joined stamp b m (empty_bundle stamp)) [] c tag in
    let none : held (bin_at (set empty_bins b (bin_at empty_bins b ++ m ∷ [])) c) tag ≡ 0 =
    ap (λ (bin : List Member). held bin tag) (get_or-set_other empty_bins b c (bin_at empty_bins b ++ m ∷ []) [] apart ∙ bin_at-empty c) in
    omega (arith, whole, none)
standing-other_bin capacity stamp b c m (x ∷ xs) tag apart =
    chosen (accepts capacity (bin_at x.bins b) m.tag) (first_fit capacity stamp b m xs) (standing-other_bin capacity stamp b c m xs tag apart)
  where
    chosen : (t : Bool) (rest : Row) → standing rest c tag ≡ standing xs c tag
        → standing (cond t (joined stamp b m x ∷ xs) (x ∷ rest)) c tag ≡ standing (x ∷ xs) c tag
    chosen true rest k =
        let same : held (bin_at (set x.bins b (bin_at x.bins b ++ m ∷ [])) c) tag ≡ held (bin_at x.bins c) tag =
        ap (λ (bin : List Member). held bin tag) (get_or-set_other x.bins b c (bin_at x.bins b ++ m ∷ []) [] apart) in
        omega (arith, standing-cons (joined stamp b m x) xs c tag, standing-cons x xs c tag, same)
    chosen false rest k = omega (arith, standing-cons x rest c tag, standing-cons x xs c tag, k)

-- ---- one position

joins-there : (capacity : ℕ) (m : Member) (Here There : Type 0) (before after old new : List Member) → (Here → There) → old ≡ before → new ≡ after
    → StaysOrJoins capacity m Here before after → StaysOrJoins capacity m There old new
joins-there capacity m Here There before after old new f e g (inl same) = inl (g ∙ same ∙ sym e)
joins-there capacity m Here There before after old new f e g (inr h) =
    inr (f h.0, g ∙ h.1 ∙ ap (λ (bin : List Member). bin ++ m ∷ []) (sym e), ap (λ (bin : List Member). accepts capacity bin m.tag) e ∙ h.2)

joins-rows : (capacity stamp p : ℕ) (m : Member) (rows : List Row) (r u b : ℕ) → 1 ≤ capacity
    → StaysOrJoins capacity m (bins_of_row * r + b ≡ p) (cell rows r u b) (cell (placed_at capacity stamp m rows p) r u b)
unfolding placed_at
joins-rows capacity stamp p m rows r u b some =
    elim (set-cases rows (p / bins_of_row) r (first_fit capacity stamp (p % bins_of_row) m (row_at rows (p / bins_of_row))) []) [
      | inl same ↦ inl (ap (λ (row : Row). bin_at (bins_at row u) b) same)
      | inr new ↦
          let here : r ≡ p / bins_of_row = new.0 in
          joins-there capacity m (b ≡ p % bins_of_row) (bins_of_row * r + b ≡ p) _ _ _ _ (λ there. omega arith)
          (ap (λ (k : ℕ). cell rows k u b) here) (ap (λ (row : Row). bin_at (bins_at row u) b) new.2)
          (joins-row capacity stamp (p % bins_of_row) m (row_at rows (p / bins_of_row)) u b some)
    ]

pub shaped-placed_at : (capacity stamp : ℕ) (m : Member) (n : ℕ) (rows : List Row) (p : ℕ) → AreShaped n rows → AreShaped n (placed_at capacity stamp m rows p)
unfolding placed_at
shaped-placed_at capacity stamp m n rows p h =
    let row = first_fit capacity stamp (p % bins_of_row) m (row_at rows (p / bins_of_row)) in
    record {
      size = length-set rows (p / bins_of_row) row ∙ h.size;
      each = All-set (λ w. All (λ u. length u.bins ≡ bins_of_row) w) rows (p / bins_of_row) row
          (All-from_recursion (λ u. length u.bins ≡ bins_of_row) row (shaped-first_fit capacity stamp (p % bins_of_row) m (row_at rows (p / bins_of_row)) (row-shaped n rows (p / bins_of_row) h)))
          h.each;
    }

-- how often a tag stands at a position
abbrev pub standing_at : List Row → ℕ → List ℕ → ℕ
standing_at rows p tag = standing (row_at rows (p / bins_of_row)) (p % bins_of_row) tag

standing-here : (capacity stamp : ℕ) (m : Member) (n : ℕ) (rows : List Row) (p : ℕ) (tag : List ℕ) → AreShaped n rows → p < bins_of_row * n
    → standing_at (placed_at capacity stamp m rows p) p tag ≡ standing_at rows p tag + weight m tag
unfolding placed_at
standing-here capacity stamp m n rows p tag h below =
    let row = row_at rows (p / bins_of_row) in
    let within : p / bins_of_row < length rows = omega (arith, h.size, below) in
    let b_below : p % bins_of_row < bins_of_row = omega arith in
    ap (λ (w : Row). standing w (p % bins_of_row) tag) (get_or-set_same rows (p / bins_of_row) (first_fit capacity stamp (p % bins_of_row) m row) [] within)
    ∙ standing-bin capacity stamp (p % bins_of_row) m row tag (row-shaped n rows (p / bins_of_row) h) b_below

standing-elsewhere : (capacity stamp : ℕ) (m : Member) (rows : List Row) (p q : ℕ) (tag : List ℕ) → (p ≡ q → ⊥)
    → standing_at (placed_at capacity stamp m rows p) q tag ≡ standing_at rows q tag
unfolding placed_at
standing-elsewhere capacity stamp m rows p q tag apart =
    elim (set-cases rows (p / bins_of_row) (q / bins_of_row) (first_fit capacity stamp (p % bins_of_row) m (row_at rows (p / bins_of_row))) []) [
      | inl same ↦ ap (λ (w : Row). standing w (q % bins_of_row) tag) same
      | inr new ↦
          let one_row : q / bins_of_row ≡ p / bins_of_row = new.0 in
          let other_bin : q % bins_of_row ≡ p % bins_of_row → ⊥ = λ same. apart (omega arith) in
          ap (λ (w : Row). standing w (q % bins_of_row) tag) new.2
          ∙ standing-other_bin capacity stamp (p % bins_of_row) (q % bins_of_row) m (row_at rows (p / bins_of_row)) tag other_bin
          ∙ ap (λ (k : ℕ). standing (row_at rows k) (q % bins_of_row) tag) (sym one_row)
    ]

-- another tag stands as often as before
standing-other_tag : (capacity stamp : ℕ) (m : Member) (n : ℕ) (rows : List Row) (p q : ℕ) (tag : List ℕ) → AreShaped n rows → p < bins_of_row * n → same_tag m.tag tag ≡ false
    → standing_at (placed_at capacity stamp m rows p) q tag ≡ standing_at rows q tag
standing-other_tag capacity stamp m n rows p q tag h below other =
    elim (cases_eq p q) [
      | inr apart ↦ standing-elsewhere capacity stamp m rows p q tag apart
      | inl same ↦
          let none : weight m tag ≡ 0 = ap one_if other in
          let here : standing_at (placed_at capacity stamp m rows p) p tag ≡ standing_at rows p tag = omega (arith, standing-here capacity stamp m n rows p tag h below, none) in
          subst (λ k. standing_at (placed_at capacity stamp m rows p) k tag ≡ standing_at rows k tag) same here
    ]

-- ---- some positions

-- what holds of each bin, and stays where a bin takes the member, holds of each bin afterwards
pub placed-each : (P : ℕ → ℕ → List Member → Type 0) (capacity stamp : ℕ) (m : Member) (ps : List ℕ) (rows : List Row) → 1 ≤ capacity
    → ((r b : ℕ) (bin : List Member) → IsIn ps (bins_of_row * r + b) → accepts capacity bin m.tag ≡ true → P r b bin → P r b (bin ++ m ∷ []))
    → ((r u b : ℕ) → P r b (cell rows r u b)) → (r u b : ℕ) → P r b (cell (fold (placed_at capacity stamp m) rows ps) r u b)
placed-each P capacity stamp m [] rows some joins each r u b = each r u b
placed-each P capacity stamp m (p ∷ ps) rows some joins each r u b =
    placed-each P capacity stamp m ps (placed_at capacity stamp m rows p) some (λ s c bin later. joins s c bin (inr later)) one r u b
  where
    one : (s w c : ℕ) → P s c (cell (placed_at capacity stamp m rows p) s w c)
    one s w c =
        elim (joins-rows capacity stamp p m rows s w c some) [
          | inl same ↦ subst (λ bin. P s c bin) (sym same) (each s w c)
          | inr new ↦ subst (λ bin. P s c bin) (sym new.1) (joins s c (cell rows s w c) (inl (sym new.0)) new.2 (each s w c))
        ]

pub shaped-placed : (capacity stamp : ℕ) (m : Member) (n : ℕ) (ps : List ℕ) (rows : List Row) → AreShaped n rows → AreShaped n (fold (placed_at capacity stamp m) rows ps)
shaped-placed capacity stamp m n [] rows h = h
shaped-placed capacity stamp m n (p ∷ ps) rows h = shaped-placed capacity stamp m n ps (placed_at capacity stamp m rows p) (shaped-placed_at capacity stamp m n rows p h)

pub standing-other_tags : (capacity stamp : ℕ) (m : Member) (n : ℕ) (ps : List ℕ) (rows : List Row) (q : ℕ) (tag : List ℕ) → AreShaped n rows → AllByRecursion (λ p. p < bins_of_row * n) ps
    → same_tag m.tag tag ≡ false → standing_at (fold (placed_at capacity stamp m) rows ps) q tag ≡ standing_at rows q tag
standing-other_tags capacity stamp m n [] rows q tag h below other = refl
standing-other_tags capacity stamp m n (p ∷ ps) rows q tag h below other =
    standing-other_tags capacity stamp m n ps (placed_at capacity stamp m rows p) q tag (shaped-placed_at capacity stamp m n rows p h) below.1 other
    ∙ standing-other_tag capacity stamp m n rows p q tag h below.0 other

standing-passed : (capacity stamp : ℕ) (m : Member) (ps : List ℕ) (rows : List Row) (q : ℕ) (tag : List ℕ) → AllByRecursion (λ p. p ≡ q → ⊥) ps
    → standing_at (fold (placed_at capacity stamp m) rows ps) q tag ≡ standing_at rows q tag
standing-passed capacity stamp m [] rows q tag apart = refl
standing-passed capacity stamp m (p ∷ ps) rows q tag apart =
    standing-passed capacity stamp m ps (placed_at capacity stamp m rows p) q tag apart.1 ∙ standing-elsewhere capacity stamp m rows p q tag apart.0

-- at each of the positions the tag stands once more
pub standing-once : (capacity stamp : ℕ) (m : Member) (n : ℕ) (ps : List ℕ) (rows : List Row) (q : ℕ) (tag : List ℕ) → AreShaped n rows → AllByRecursion (λ p. p < bins_of_row * n) ps
    → IsRising ps → IsIn ps q → same_tag m.tag tag ≡ true → standing_at (fold (placed_at capacity stamp m) rows ps) q tag ≡ standing_at rows q tag + 1
standing-once capacity stamp m n [] rows q tag h below rises found same = absurd found
standing-once capacity stamp m n (p ∷ ps) rows q tag h below rises (inl e) same =
    let passed = standing-passed capacity stamp m ps (placed_at capacity stamp m rows p) p tag (all-weaker (λ x. p < x) (λ x. x ≡ p → ⊥) (λ x lt e. omega arith) ps rises.0) in
    let here = standing-here capacity stamp m n rows p tag h below.0 in
    let one : weight m tag ≡ 1 = ap one_if same in
    let there : standing_at (fold (placed_at capacity stamp m) (placed_at capacity stamp m rows p) ps) p tag ≡ standing_at rows p tag + 1 = omega (arith, passed, here, one) in
    subst (λ k. standing_at (fold (placed_at capacity stamp m) (placed_at capacity stamp m rows p) ps) k tag ≡ standing_at rows k tag + 1) e there
standing-once capacity stamp m n (p ∷ ps) rows q tag h below rises (inr later) same =
    let lt : p < q = all-at (λ x. p < x) ps q rises.0 later in
    let rest = standing-once capacity stamp m n ps (placed_at capacity stamp m rows p) q tag (shaped-placed_at capacity stamp m n rows p h) below.1 rises.1 later same in
    let before = standing-elsewhere capacity stamp m rows p q tag (λ e. omega arith) in
    omega (arith, rest, before)

-- ---- what a bin that accepts a tag tells

pub accepts-tells : (capacity : ℕ) (bin : List Member) (tag : List ℕ) → accepts capacity bin tag ≡ true → (length bin < capacity) × All (λ m. shares_slot m.tag tag ≡ false) bin
unfolding accepts
accepts-tells capacity bin tag e =
    let parts = and_parts _ _ e in
    (ltb-true (length bin) capacity parts.0, none-any_at (λ m. shares_slot m.tag tag) bin (not-true _ parts.1))

pub joined-within : (capacity : ℕ) (bin : List Member) (m : Member) → accepts capacity bin m.tag ≡ true → length (bin ++ m ∷ []) ≤ capacity
joined-within capacity bin m e = let told = accepts-tells capacity bin m.tag e in omega (arith, length_push bin m, told.0)

pub joined-apart : (capacity : ℕ) (bin : List Member) (m : Member) → accepts capacity bin m.tag ≡ true
    → AllPairs (λ x other. IsFalse (shares_slot x.tag other.tag)) bin → AllPairs (λ x other. IsFalse (shares_slot x.tag other.tag)) (bin ++ m ∷ [])
joined-apart capacity bin m e apart = all_pairs_push (λ x other. IsFalse (shares_slot x.tag other.tag)) bin m apart (λ k d lt. (accepts-tells capacity bin m.tag e).1 k d lt)
