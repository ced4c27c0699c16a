-- What a change wherever a tag stands leaves in the bins.
use Rattle.std.proofs.Common.{◌≡◌, ℕ, zero, suc, ◌+◌, ◌*◌, ◌/◌, ◌%◌, ◌<◌, Bool, true, false, cond, List, [], ◌∷◌, length, map, set, fold, All, inl, inr, refl, sym, ap, ◌∙◌, subst, arith, if◌then◌else◌}
use Rattle.std.specs.List.{AllByRecursion}
use Rattle.std.proofs.lemmas.Bool.{cases_eq, cases_lt, cases_Bool, false≢true}
use Rattle.std.proofs.lemmas.List.{length-set, length-map, get_or-set_same, get_or-set_other, get_or_past, set_past}
use Rattle.std.proofs.lemmas.List.Elements.{All-from_recursion, All-set}
use Rattle.std.proofs.Math.Seq.{map-set_same}
use Rattle.psi_bundle.specs.declared.member.Member.{Member}
use Rattle.item_slots.specs.Tags.{bins_of_row}
use Rattle.psi_bundle.specs.Bins.{holds, bin_at}
use Rattle.psi_bundle.specs.Versions.{Stamped, Row, row_at, bins_at, with_bin, changed_at}
use Rattle.sender_core.proofs.SoundLists.{set-cases}
use Rattle.item_slots.proofs.PositionLaws.{IsRising, all-weaker}
use Rattle.sender_core.proofs.SoundPositions.{IsIn, all-at}
use Rattle.sender_core.proofs.SoundCells.{cell, cell_end, AreShaped, row-shaped}

-- a change that leaves a bin alone that does not hold the tag
abbrev pub SparesOthers : (List Member → List Member) → List ℕ → Type 0
SparesOthers change tag = (bin : List Member) → holds bin tag ≡ false → change bin ≡ bin

-- a bundle, with bin b changed where it holds the tag
abbrev changed_bundle : ℕ → (List Member → List Member) → List ℕ → ℕ → Stamped → Stamped
changed_bundle stamp change tag b u = if holds (bin_at u.bins b) tag then with_bin stamp b (change (bin_at u.bins b)) u else u

-- ---- one row

holds-nothing : (tag : List ℕ) → holds [] tag ≡ false
unfolding holds
holds-nothing tag = refl

holds-within : (bins : List (List Member)) (b : ℕ) (tag : List ℕ) → holds (bin_at bins b) tag ≡ true → b < length bins
holds-within bins b tag e =
    elim (cases_lt b (length bins)) [
      | inl lt ↦ lt
      | inr past ↦ absurd (false≢true (sym (ap (λ (bin : List Member). holds bin tag) (get_or_past bins b [] past) ∙ holds-nothing tag) ∙ e))
    ]

changed-bundle_here : (stamp : ℕ) (change : List Member → List Member) (tag : List ℕ) (b : ℕ) (u : Stamped) → SparesOthers change tag
    → bin_at (changed_bundle stamp change tag b u).bins b ≡ change (bin_at u.bins b)
changed-bundle_here stamp change tag b u spares = chosen (holds (bin_at u.bins b) tag) refl
  where
    chosen : (t : Bool) → holds (bin_at u.bins b) tag ≡ t → bin_at (cond t (with_bin stamp b (change (bin_at u.bins b)) u) u).bins b ≡ change (bin_at u.bins b)
    chosen true e = get_or-set_same u.bins b (change (bin_at u.bins b)) [] (holds-within u.bins b tag e)
    chosen false e = sym (spares (bin_at u.bins b) e)

changed-bundle_other : (stamp : ℕ) (change : List Member → List Member) (tag : List ℕ) (b c : ℕ) (u : Stamped) → (c ≡ b → ⊥)
    → bin_at (changed_bundle stamp change tag b u).bins c ≡ bin_at u.bins c
changed-bundle_other stamp change tag b c u apart = chosen (holds (bin_at u.bins b) tag)
  where
    chosen : (t : Bool) → bin_at (cond t (with_bin stamp b (change (bin_at u.bins b)) u) u).bins c ≡ bin_at u.bins c
    chosen true = get_or-set_other u.bins b c (change (bin_at u.bins b)) [] apart
    chosen false = refl

changed-row_here : (stamp : ℕ) (change : List Member → List Member) (tag : List ℕ) (b : ℕ) (row : Row) (u : ℕ) → SparesOthers change tag
    → bin_at (bins_at (map (changed_bundle stamp change tag b) row) u) b ≡ change (bin_at (bins_at row u) b)
changed-row_here stamp change tag b [] u spares = sym (spares [] (holds-nothing tag))
changed-row_here stamp change tag b (x ∷ xs) zero spares = changed-bundle_here stamp change tag b x spares
changed-row_here stamp change tag b (x ∷ xs) (suc u) spares = changed-row_here stamp change tag b xs u spares

changed-row_other : (stamp : ℕ) (change : List Member → List Member) (tag : List ℕ) (b c : ℕ) (row : Row) (u : ℕ) → (c ≡ b → ⊥)
    → bin_at (bins_at (map (changed_bundle stamp change tag b) row) u) c ≡ bin_at (bins_at row u) c
changed-row_other stamp change tag b c [] u apart = refl
changed-row_other stamp change tag b c (x ∷ xs) zero apart = changed-bundle_other stamp change tag b c x apart
changed-row_other stamp change tag b c (x ∷ xs) (suc u) apart = changed-row_other stamp change tag b c xs u apart

changed-row_shaped : (stamp : ℕ) (change : List Member → List Member) (tag : List ℕ) (b : ℕ) (row : Row) → AllByRecursion (λ u. length u.bins ≡ bins_of_row) row
    → AllByRecursion (λ u. length u.bins ≡ bins_of_row) (map (changed_bundle stamp change tag b) row)
changed-row_shaped stamp change tag b [] h = tt
changed-row_shaped stamp change tag b (x ∷ xs) h = (chosen (holds (bin_at x.bins b) tag), changed-row_shaped stamp change tag b xs h.1)
  where
    chosen : (t : Bool) → length (cond t (with_bin stamp b (change (bin_at x.bins b)) x) x).bins ≡ bins_of_row
    chosen true = length-set x.bins b (change (bin_at x.bins b)) ∙ h.0
    chosen false = h.0

-- ---- one position

-- the bins of the position are changed
changed-here : (stamp : ℕ) (change : List Member → List Member) (tag : List ℕ) (rows : List Row) (p r u b : ℕ) → SparesOthers change tag → bins_of_row * r + b ≡ p → b < bins_of_row
    → cell (changed_at stamp change tag rows p) r u b ≡ change (cell rows r u b)
unfolding changed_at
changed-here stamp change tag rows p r u b spares e lt =
    let q = p / bins_of_row in
    let c = p % bins_of_row in
    let row : Row = map (changed_bundle stamp change tag c) (row_at rows q) in
    let r-is : r ≡ p / bins_of_row = omega arith in
    let b-is : b ≡ p % bins_of_row = omega arith in
    let there : cell (set rows q row) q u c ≡ change (cell rows q u c) =
    elim (cases_lt q (length rows)) [
      | inl within ↦ ap (λ (w : Row). bin_at (bins_at w u) c) (get_or-set_same rows q row [] within) ∙ changed-row_here stamp change tag c (row_at rows q) u spares
      | inr past ↦
          let none : row_at rows q ≡ [] = get_or_past rows q [] past in
          let empty : cell rows q u c ≡ [] = ap (λ (w : Row). bin_at (bins_at w u) c) none in
          ap (λ (ws : List Row). cell ws q u c) (set_past rows q row past) ∙ sym (spares (cell rows q u c) (ap (λ (bin : List Member). holds bin tag) empty ∙ holds-nothing tag))
    ] in
    subst (λ k. cell (set rows q row) r u k ≡ change (cell rows r u k)) (sym b-is) (subst (λ k. cell (set rows q row) k u c ≡ change (cell rows k u c)) (sym r-is) there)

-- all others are as they were
changed-elsewhere : (stamp : ℕ) (change : List Member → List Member) (tag : List ℕ) (rows : List Row) (p r u b : ℕ) → (p ≡ bins_of_row * r + b → ⊥)
    → cell (changed_at stamp change tag rows p) r u b ≡ cell rows r u b
unfolding changed_at
changed-elsewhere stamp change tag rows p r u b apart =
    elim (set-cases rows (p / bins_of_row) r (map (changed_bundle stamp change tag (p % bins_of_row)) (row_at rows (p / bins_of_row))) []) [
      | inl same ↦ ap (λ (w : Row). bin_at (bins_at w u) b) same
      | inr new ↦
          let one_row : r ≡ p / bins_of_row = new.0 in
          let other_bin : b ≡ p % bins_of_row → ⊥ = λ same. apart (omega arith) in
          ap (λ (w : Row). bin_at (bins_at w u) b) new.2
          ∙ changed-row_other stamp change tag (p % bins_of_row) b (row_at rows (p / bins_of_row)) u other_bin
          ∙ ap (λ (k : ℕ). cell rows k u b) (sym one_row)
    ]

pub shaped-changed_at : (stamp : ℕ) (change : List Member → List Member) (tag : List ℕ) (n : ℕ) (rows : List Row) (p : ℕ) → AreShaped n rows → AreShaped n (changed_at stamp change tag rows p)
unfolding changed_at
shaped-changed_at stamp change tag n rows p h =
    let row : Row = map (changed_bundle stamp change tag (p % bins_of_row)) (row_at rows (p / bins_of_row)) in
    record {
      size = length-set rows (p / bins_of_row) row ∙ h.size;
      each = All-set (λ w. All (λ u. length u.bins ≡ bins_of_row) w) rows (p / bins_of_row) row
          (All-from_recursion (λ u. length u.bins ≡ bins_of_row) row (changed-row_shaped stamp change tag (p % bins_of_row) (row_at rows (p / bins_of_row)) (row-shaped n rows (p / bins_of_row) h)))
          h.each;
    }

-- each row has as many bundles as before
lengths-changed_at : (stamp : ℕ) (change : List Member → List Member) (tag : List ℕ) (rows : List Row) (p : ℕ) → map (λ row. length row) (changed_at stamp change tag rows p) ≡ map (λ row. length row) rows
unfolding changed_at
lengths-changed_at stamp change tag rows p =
    map-set_same (λ (row : Row). length row) rows (p / bins_of_row) _ [] (length-map (row_at rows (p / bins_of_row)) (changed_bundle stamp change tag (p % bins_of_row)))

-- ---- some positions

pub shaped-changed : (stamp : ℕ) (change : List Member → List Member) (tag : List ℕ) (n : ℕ) (ps : List ℕ) (rows : List Row) → AreShaped n rows → AreShaped n (fold (changed_at stamp change tag) rows ps)
shaped-changed stamp change tag n [] rows h = h
shaped-changed stamp change tag n (p ∷ ps) rows h = shaped-changed stamp change tag n ps (changed_at stamp change tag rows p) (shaped-changed_at stamp change tag n rows p h)

pub lengths-changed : (stamp : ℕ) (change : List Member → List Member) (tag : List ℕ) (ps : List ℕ) (rows : List Row) → map (λ row. length row) (fold (changed_at stamp change tag) rows ps) ≡ map (λ row. length row) rows
lengths-changed stamp change tag [] rows = refl
lengths-changed stamp change tag (p ∷ ps) rows = lengths-changed stamp change tag ps (changed_at stamp change tag rows p) ∙ lengths-changed_at stamp change tag rows p

-- a bin at none of the positions
changed-passed : (stamp : ℕ) (change : List Member → List Member) (tag : List ℕ) (ps : List ℕ) (rows : List Row) (r u b : ℕ) → AllByRecursion (λ p. p ≡ bins_of_row * r + b → ⊥) ps
    → cell (fold (changed_at stamp change tag) rows ps) r u b ≡ cell rows r u b
changed-passed stamp change tag [] rows r u b apart = refl
changed-passed stamp change tag (p ∷ ps) rows r u b apart =
    changed-passed stamp change tag ps (changed_at stamp change tag rows p) r u b apart.1 ∙ changed-elsewhere stamp change tag rows p r u b apart.0

-- a bin at one of them
changed-once : (stamp : ℕ) (change : List Member → List Member) (tag : List ℕ) (ps : List ℕ) (rows : List Row) (r u b : ℕ) → SparesOthers change tag → b < bins_of_row
    → IsRising ps → IsIn ps (bins_of_row * r + b) → cell (fold (changed_at stamp change tag) rows ps) r u b ≡ change (cell rows r u b)
changed-once stamp change tag [] rows r u b spares lt rises found = absurd found
changed-once stamp change tag (p ∷ ps) rows r u b spares lt rises (inl e) =
    changed-passed stamp change tag ps (changed_at stamp change tag rows p) r u b (all-weaker (λ x. p < x) (λ x. x ≡ bins_of_row * r + b → ⊥) (λ x above f. omega arith) ps rises.0)
    ∙ changed-here stamp change tag rows p r u b spares (sym e) lt
changed-once stamp change tag (p ∷ ps) rows r u b spares lt rises (inr later) =
    let below : p < bins_of_row * r + b = all-at (λ x. p < x) ps (bins_of_row * r + b) rises.0 later in
    changed-once stamp change tag ps (changed_at stamp change tag rows p) r u b spares lt rises.1 later
    ∙ ap change (changed-elsewhere stamp change tag rows p r u b (λ f. omega arith))

-- a bin that does not hold the tag
changed-spared : (stamp : ℕ) (change : List Member → List Member) (tag : List ℕ) (ps : List ℕ) (n : ℕ) (rows : List Row) (r u b : ℕ) → AreShaped n rows → SparesOthers change tag
    → holds (cell rows r u b) tag ≡ false → cell (fold (changed_at stamp change tag) rows ps) r u b ≡ cell rows r u b
changed-spared stamp change tag [] n rows r u b shaped spares without = refl
changed-spared stamp change tag (p ∷ ps) n rows r u b shaped spares without =
    let after = changed_at stamp change tag rows p in
    let one : cell after r u b ≡ cell rows r u b =
    elim (cases_eq p (bins_of_row * r + b)) [
      | inr apart ↦ changed-elsewhere stamp change tag rows p r u b apart
      | inl same ↦ elim (cases_lt b bins_of_row) [
        | inl lt ↦ changed-here stamp change tag rows p r u b spares (sym same) lt ∙ spares (cell rows r u b) without
        | inr past ↦ cell_end n after r u b (shaped-changed_at stamp change tag n rows p shaped) past ∙ sym (cell_end n rows r u b shaped past)
      ]
    ] in
    changed-spared stamp change tag ps n after r u b (shaped-changed_at stamp change tag n rows p shaped) spares (ap (λ (bin : List Member). holds bin tag) one ∙ without) ∙ one

-- where the tag stands at those positions alone, each bin is changed
pub changed-each : (stamp : ℕ) (change : List Member → List Member) (tag : List ℕ) (ps : List ℕ) (n : ℕ) (rows : List Row) → AreShaped n rows → SparesOthers change tag → IsRising ps
    → ((r u b : ℕ) → holds (cell rows r u b) tag ≡ true → IsIn ps (bins_of_row * r + b))
    → (r u b : ℕ) → cell (fold (changed_at stamp change tag) rows ps) r u b ≡ change (cell rows r u b)
changed-each stamp change tag ps n rows shaped spares rises only r u b =
    elim (cases_Bool (holds (cell rows r u b) tag)) [
      | inr without ↦ changed-spared stamp change tag ps n rows r u b shaped spares without ∙ sym (spares (cell rows r u b) without)
      | inl with_tag ↦ elim (cases_lt b bins_of_row) [
        | inl lt ↦ changed-once stamp change tag ps rows r u b spares lt rises (only r u b with_tag)
        | inr past ↦ absurd (false≢true (sym (ap (λ (bin : List Member). holds bin tag) (cell_end n rows r u b shaped past) ∙ holds-nothing tag) ∙ with_tag))
      ]
    ]
