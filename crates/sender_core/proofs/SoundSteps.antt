-- One step of a sound set leaves a sound set.
use Rattle.std.proofs.Common.{◌≡◌, ◌⊎◌, ℕ, zero, suc, ◌+◌, ◌*◌, ◌/◌, ◌%◌, ◌≤◌, ◌<◌, Bool, true, false, cond, List, [], ◌∷◌, length, map, get_or, replicate, Some, None, is_some, sum, leb, All, Contains, inl, inr, refl, sym, ap, ◌∙◌, subst, arith}
use Rattle.std.specs.List.{AllByRecursion}
use Rattle.std.specs.Ordering.{nat_cmp}
use Rattle.std.specs.Cmp.Lexicographic.{slice_cmp}
use Rattle.std.specs.FinMap as fin
use Rattle.std.proofs.lemmas.Bool.{cases_Bool, and_parts, leb-true, true≢false}
use Rattle.std.proofs.lemmas.Option.{none-some, same_Some}
use Rattle.std.proofs.lemmas.List.{length-replicate}
use Rattle.std.proofs.lemmas.List.Elements.{recursion_from_All, All-replicate, All-nil, Contains-push_cases}
use Rattle.std.proofs.lemmas.List.Sums.{sum_by-cons}
use Rattle.psi_residue.specs.Parameters.{Parameters}
use Rattle.psi_bundle.specs.declared.member.Member.{Member}
use Rattle.psi_bundle.specs.declared.history.Call.{Call}
use Rattle.psi_bundle.specs.declared.history.Call.TheVariants as call
use Rattle.item_slots.specs.Tags.{bins_of_row, positions_of}
use Rattle.item_slots.proofs.PositionLaws.{positions-below, positions-rise}
use Rattle.psi_bundle.specs.Bins.{AreApart, same_tag, holds, without, relabelled}
use Rattle.psi_bundle.specs.Versions.{Version, Labels, Row, row_at, changed, planes_of, cells_of, empty_version, greatest_stamp, IsWithinLimits, HasLabelLength, IsSound}
use Rattle.psi_bundle.specs.Steps.{Step, step, next, unchanged, fits, replace, add, remove}
use Rattle.psi_bundle.proofs.BinChanges.{apart-relabelled, apart-without, same_tag-Decides}
use Rattle.sender_core.specs.Soundness.{HasRoom}
use Rattle.sender_core.proofs.Entering.{fitted}
use Rattle.sender_core.proofs.SoundLists.{some_value, no_value}
use Rattle.sender_core.proofs.SoundPositions.{IsIn, IsIn-from_Contains, Contains-from_IsIn}
use Rattle.psi_bundle.proofs.EmptyBundle.{nothing}
use Rattle.sender_core.proofs.SoundCells.{cell, AreShaped, held, held-none, standing-same, standing-none, same_tag-apart, get-insert_same, get-insert_other, get-remove_same, get-remove_other}
use Rattle.sender_core.proofs.SoundPlaced.{standing_at, placed-each, shaped-placed, standing-other_tags, standing-once, joined-within, joined-apart}
use Rattle.sender_core.proofs.SoundChanged.{SparesOthers, changed-each, shaped-changed, lengths-changed}
use Rattle.sender_core.proofs.SoundBins.{holds-tells, without-spares, Contains-without, length-without, held-without, relabelled-spares, Contains-relabelled, length-relabelled, held-relabelled}

cases_tag : (a b : List ℕ) → (a ≡ b) ⊎ (a ≡ b → ⊥)
cases_tag a b =
    elim (cases_Bool (same_tag a b)) [
      | inl same ↦ inl ((same_tag-Decides a b).0 same)
      | inr other ↦ inr (λ e. true≢false (sym ((same_tag-Decides a b).1 e) ∙ other))
    ]

pub shape : (v : Version) → IsSound v → AreShaped v.parameters.rows v.rows
shape v h = record { size = h.each_row; each = h.each_bin }

-- ---- nothing changes

pub sound-unchanged : (v : Version) → IsSound v → IsSound (unchanged v)
sound-unchanged v h = record {
  each_row = h.each_row;
  each_bin = h.each_bin;
  present = h.present;
  nothing_else = h.nothing_else;
  within_capacity = h.within_capacity;
  apart = h.apart;
  labelled = h.labelled;
  limits = h.limits;
}

-- ---- a tag is added

-- a tag that the map has not stands nowhere
absent : (v : Version) (tag : List ℕ) → IsSound v → fin.get v.labels tag ≡ None → (m : Member) (label : List ℕ) → fin.get v.labels m.tag ≡ Some label → m.tag ≡ tag → ⊥
absent v tag h none m label found same = none-some label (sym none ∙ ap (fin.get v.labels) (sym same) ∙ found)

stands-nowhere : (v : Version) (tag : List ℕ) (p : ℕ) → IsSound v → fin.get v.labels tag ≡ None → standing_at v.rows p tag ≡ 0
stands-nowhere v tag p h none =
    standing-none (row_at v.rows (p / bins_of_row)) (p % bins_of_row) tag
    (λ u. held-none (cell v.rows (p / bins_of_row) u (p % bins_of_row)) tag
    (λ m c same. absent v tag h none m m.label (h.nothing_else (p / bins_of_row) u (p % bins_of_row) m c).0 same))

-- the member of a tag and a label
abbrev member : List ℕ → List ℕ → Member
member tag label = record { tag = tag; label = label }

added-present : (v : Version) (tag label : List ℕ) → HasRoom v.parameters → IsSound v → fin.get v.labels tag ≡ None
    → (t l : List ℕ) → fin.get (fin.insert v.labels tag label) t ≡ Some l → (p : ℕ) → Contains (positions_of v.parameters.rows t) p
    → standing_at (fitted v tag label) p t ≡ 1
added-present v tag label room h none t l e p c =
    let n = v.parameters.rows in
    let ps = positions_of n tag in
    let below : AllByRecursion (λ q. q < bins_of_row * n) ps = recursion_from_All (λ q. q < bins_of_row * n) ps (positions-below n tag room.some_rows) in
    elim (cases_tag t tag) [
      | inl same ↦
          let found : IsIn ps p = IsIn-from_Contains ps p (subst (λ s. Contains (positions_of n s) p) same c) in
          let once = standing-once v.parameters.capacity (v.count + 1) (member tag label) n ps v.rows p tag (shape v h) below (positions-rise n tag) found ((same_tag-Decides tag tag).1 refl) in
          let before = stands-nowhere v tag p h none in
          let one : standing_at (fitted v tag label) p tag ≡ 1 = once ∙ ap (λ (k : ℕ). k + 1) before in
          subst (λ s. standing_at (fitted v tag label) p s ≡ 1) (sym same) one
      | inr other ↦
          standing-other_tags v.parameters.capacity (v.count + 1) (member tag label) n ps v.rows p t (shape v h) below (same_tag-apart tag t (λ f. other (sym f)))
          ∙ h.present t l (sym (get-insert_other v.labels tag label t other) ∙ e) p c
    ]

-- what stands in a bin of row r: a tag of the map with its label, at one of its positions
abbrev pub BelongsAt : ℕ → Labels → ℕ → ℕ → Member → Type 0
BelongsAt n labels r b m = (fin.get labels m.tag ≡ Some m.label) × Contains (positions_of n m.tag) (bins_of_row * r + b)

added-nothing_else : (v : Version) (tag label : List ℕ) → HasRoom v.parameters → IsSound v → fin.get v.labels tag ≡ None
    → (r u b : ℕ) (m : Member) → Contains (cell (fitted v tag label) r u b) m → BelongsAt v.parameters.rows (fin.insert v.labels tag label) r b m
added-nothing_else v tag label room h none =
    let n = v.parameters.rows in
    let labels : Labels = fin.insert v.labels tag label in
    placed-each (λ r b bin. (m : Member) → Contains bin m → BelongsAt n labels r b m) v.parameters.capacity (v.count + 1) (member tag label) (positions_of n tag) v.rows room.some_members
    (λ r b bin here accepted old m c. elim (Contains-push_cases bin (member tag label) m c) [
      | inl before ↦ old m before
      | inr is ↦ subst (λ x. BelongsAt n labels r b x) is (get-insert_same v.labels tag label tag refl, Contains-from_IsIn (positions_of n tag) (bins_of_row * r + b) here)
    ])
    (λ r u b m c.
    let old = h.nothing_else r u b m c in
    (get-insert_other v.labels tag label m.tag (absent v tag h none m m.label old.0) ∙ old.0, old.1))

inserted-labelled : (v : Version) (tag label : List ℕ) → IsSound v → HasLabelLength v.parameters label
    → (t l : List ℕ) → fin.get (fin.insert v.labels tag label) t ≡ Some l → HasLabelLength v.parameters l
inserted-labelled v tag label h size t l e =
    elim (cases_tag t tag) [
      | inl same ↦ ap length (sym (same_Some label l (sym (get-insert_same v.labels tag label t same) ∙ e))) ∙ size
      | inr other ↦ h.labelled t l (sym (get-insert_other v.labels tag label t other) ∙ e)
    ]

pub sound-added : (v : Version) (tag label : List ℕ) → HasRoom v.parameters → IsSound v → fin.get v.labels tag ≡ None → HasLabelLength v.parameters label
    → IsWithinLimits v.parameters (fitted v tag label) → IsSound (next v (fin.insert v.labels tag label) (fitted v tag label))
sound-added v tag label room h none size within =
    let capacity = v.parameters.capacity in
    let m = member tag label in
    let ps = positions_of v.parameters.rows tag in
    let after = shaped-placed capacity (v.count + 1) m v.parameters.rows ps v.rows (shape v h) in
    record {
      each_row = after.size;
      each_bin = after.each;
      present = added-present v tag label room h none;
      nothing_else = added-nothing_else v tag label room h none;
      within_capacity = placed-each (λ r b bin. length bin ≤ capacity) capacity (v.count + 1) m ps v.rows room.some_members (λ r b bin here accepted old. joined-within capacity bin m accepted) h.within_capacity;
      apart = placed-each (λ r b bin. AreApart bin) capacity (v.count + 1) m ps v.rows room.some_members (λ r b bin here accepted old. joined-apart capacity bin m accepted old) h.apart;
      labelled = inserted-labelled v tag label h size;
      limits = within;
    }

pub fits-tells : (p : Parameters) (rows : List Row) → fits p rows ≡ true → IsWithinLimits p rows
fits-tells p rows e =
    let parts = and_parts (leb (planes_of p rows) 64) (leb (cells_of p rows) 4096) e in
    (leb-true (planes_of p rows) 64 parts.0, leb-true (cells_of p rows) 4096 parts.1)

-- ---- a change wherever a tag stands

-- what a change of bins, with other labels, keeps of a sound set
pub record Keeps (v : Version) (change : List Member → List Member) (labels : Labels) : Type 0 where
  pub smaller : (bin : List Member) → length (change bin) ≤ length bin
  pub still_apart : (bin : List Member) → AreApart bin → AreApart (change bin)
  pub was_there : (tag label : List ℕ) → fin.get labels tag ≡ Some label → (old : List ℕ) × (fin.get v.labels tag ≡ Some old) × ((bin : List Member) → held (change bin) tag ≡ held bin tag)
  pub belongs : (r b : ℕ) (bin : List Member) → ((m : Member) → Contains bin m → BelongsAt v.parameters.rows v.labels r b m) → (m : Member) → Contains (change bin) m → BelongsAt v.parameters.rows labels r b m
  pub labelled : (tag label : List ℕ) → fin.get labels tag ≡ Some label → HasLabelLength v.parameters label

length-row_at : (rows : List Row) (r : ℕ) → get_or (map (λ row. length row) rows) r 0 ≡ length (row_at rows r)
length-row_at [] r = refl
length-row_at (row ∷ rows) zero = refl
length-row_at (row ∷ rows) (suc r) = length-row_at rows r

stands-at-positions : (v : Version) (tag : List ℕ) → IsSound v → (r u b : ℕ) → holds (cell v.rows r u b) tag ≡ true → IsIn (positions_of v.parameters.rows tag) (bins_of_row * r + b)
stands-at-positions v tag h r u b e =
    let found = holds-tells (cell v.rows r u b) tag e in
    let there = (h.nothing_else r u b found.0 found.1).1 in
    IsIn-from_Contains (positions_of v.parameters.rows tag) (bins_of_row * r + b) (subst (λ s. Contains (positions_of v.parameters.rows s) (bins_of_row * r + b)) found.2 there)

pub sound-changed : (v : Version) (change : List Member → List Member) (tag : List ℕ) (labels : Labels) → IsSound v → SparesOthers change tag → Keeps v change labels
    → IsSound (next v labels (changed v.parameters (v.count + 1) change tag v.rows))
sound-changed v change tag labels h spares keeps =
    let n = v.parameters.rows in
    let ps = positions_of n tag in
    let rows = changed v.parameters (v.count + 1) change tag v.rows in
    let cells = changed-each (v.count + 1) change tag ps n v.rows (shape v h) spares (positions-rise n tag) (stands-at-positions v tag h) in
    let lengths = lengths-changed (v.count + 1) change tag ps v.rows in
    let after = shaped-changed (v.count + 1) change tag n ps v.rows (shape v h) in
    record {
      each_row = after.size;
      each_bin = after.each;
      present = λ t l e p c.
          let r = p / bins_of_row in
          let b = p % bins_of_row in
          let old = keeps.was_there t l e in
          let size : length (row_at rows r) ≡ length (row_at v.rows r) = sym (length-row_at rows r) ∙ ap (λ (ls : List ℕ). get_or ls r 0) lengths ∙ length-row_at v.rows r in
          standing-same (row_at rows r) (row_at v.rows r) b t size (λ u. ap (λ (bin : List Member). held bin t) (cells r u b) ∙ old.2 (cell v.rows r u b)) ∙ h.present t old.0 old.1 p c;
      nothing_else = λ r u b m c. keeps.belongs r b (cell v.rows r u b) (h.nothing_else r u b) m (subst (λ bin. Contains bin m) (cells r u b) c);
      within_capacity = λ r u b.
          let size : length (cell rows r u b) ≡ length (change (cell v.rows r u b)) = ap length (cells r u b) in
          omega (arith, size, keeps.smaller (cell v.rows r u b), h.within_capacity r u b);
      apart = λ r u b. subst (λ bin. AreApart bin) (sym (cells r u b)) (keeps.still_apart (cell v.rows r u b) (h.apart r u b));
      labelled = keeps.labelled;
      limits = subst (λ ls. (sum ls * (1 + v.parameters.units) ≤ 64) × (sum ls * (1 + v.parameters.units) * (v.parameters.capacity + 1) ≤ 4096)) (sym lengths) h.limits;
    }

-- ---- a tag gets another label, or leaves

pub sound-replaced : (v : Version) (tag label old : List ℕ) → IsSound v → fin.get v.labels tag ≡ Some old → HasLabelLength v.parameters label → IsSound (replace v tag label).version
sound-replaced v tag label old h is size =
    sound-changed v (λ bin. relabelled bin tag label) tag (fin.insert v.labels tag label) h (relabelled-spares tag label) (record {
      smaller = λ bin. omega (arith, length-relabelled bin tag label);
      still_apart = λ bin apart. apart-relabelled bin tag label apart;
      was_there = λ t l e. elim (cases_tag t tag) [
        | inl same ↦ (old, ap (fin.get v.labels) same ∙ is, λ bin. held-relabelled bin tag label t)
        | inr other ↦ (l, sym (get-insert_other v.labels tag label t other) ∙ e, λ bin. held-relabelled bin tag label t)
      ];
      belongs = λ r b bin each m c.
          let found = Contains-relabelled bin tag label m c in
          let before = each found.0 found.1 in (
            elim found.3 [
              | inl now ↦ get-insert_same v.labels tag label m.tag now.0 ∙ ap Some (sym now.1)
              | inr kept ↦ get-insert_other v.labels tag label m.tag kept.0 ∙ ap (fin.get v.labels) (sym found.2) ∙ before.0 ∙ ap Some kept.1
            ],
            subst (λ s. Contains (positions_of v.parameters.rows s) (bins_of_row * r + b)) found.2 before.1,
          );
      labelled = inserted-labelled v tag label h size;
    })

pub sound-removed : (v : Version) (tag : List ℕ) → IsSound v → IsSound (remove v tag).version
sound-removed v tag h =
    sound-changed v (λ bin. without bin tag) tag (fin.remove v.labels tag) h (without-spares tag) (record {
      smaller = λ bin. length-without bin tag;
      still_apart = λ bin apart. apart-without bin tag apart;
      was_there = λ t l e. let other = gone t l e in (l, sym (get-remove_other v.labels tag t other) ∙ e, λ bin. held-without bin tag t other);
      belongs = λ r b bin each m c.
          let found = Contains-without bin tag m c in
          let before = each m found.0 in
          (get-remove_other v.labels tag m.tag found.1 ∙ before.0, before.1);
      labelled = λ t l e. h.labelled t l (sym (get-remove_other v.labels tag t (gone t l e)) ∙ e);
    })
  where
    gone : (t l : List ℕ) → fin.get (fin.remove v.labels tag) t ≡ Some l → t ≡ tag → ⊥
    gone t l e same = none-some l (sym (get-remove_same v.labels tag t same) ∙ e)

-- ---- the steps of three calls

pub chosen-sound : (t : Bool) (a b : Step) → (t ≡ true → IsSound a.version) → (t ≡ false → IsSound b.version) → IsSound (cond t a b).version
chosen-sound true a b h k = h refl
chosen-sound false a b h k = k refl

pub sound-put : (v : Version) (tag label : List ℕ) → HasRoom v.parameters → IsSound v → HasLabelLength v.parameters label → IsSound (step v (call.Put tag label)).version
unfolding step
sound-put v tag label room h size =
    let rows = fitted v tag label in
    chosen-sound (is_some (fin.get v.labels tag)) (replace v tag label) (add v tag label rows)
    (λ has. let old = some_value (fin.get v.labels tag) has in sound-replaced v tag label old.0 h old.1 size)
    (λ lacks. chosen-sound (fits v.parameters rows) _ _ (λ within. sound-added v tag label room h (no_value (fin.get v.labels tag) lacks) size (fits-tells v.parameters rows within)) (λ full. sound-unchanged v h))

pub sound-drop : (v : Version) (tag : List ℕ) → IsSound v → IsSound (step v (call.Drop tag)).version
unfolding step
sound-drop v tag h = chosen-sound (is_some (fin.get v.labels tag)) (remove v tag) _ (λ has. sound-removed v tag h) (λ lacks. sound-unchanged v h)

pub sound-ask : (v : Version) → IsSound v → IsSound (step v call.Ask).version
unfolding step
sound-ask v h = sound-unchanged v h

-- a step leaves the parameters

chosen-parameters : (t : Bool) (a b : Step) (p : Parameters) → a.version.parameters ≡ p → b.version.parameters ≡ p → (cond t a b).version.parameters ≡ p
chosen-parameters true a b p e f = e
chosen-parameters false a b p e f = f

pub step-parameters : (v : Version) (c : Call) → (step v c).version.parameters ≡ v.parameters
unfolding step
step-parameters v (call.Put tag label) =
    chosen-parameters (is_some (fin.get v.labels tag)) (replace v tag label) (add v tag label (fitted v tag label)) v.parameters refl
    (chosen-parameters (fits v.parameters (fitted v tag label)) _ _ v.parameters refl refl)
step-parameters v (call.Drop tag) = chosen-parameters (is_some (fin.get v.labels tag)) (remove v tag) _ v.parameters refl refl
step-parameters v call.Ask = refl
step-parameters v (call.Repack row from) = chosen-parameters (leb (greatest_stamp (row_at v.rows row)) from) _ _ v.parameters refl refl

-- ---- the beginning

no_bundles : (n : ℕ) → sum (map (λ row. length row) (replicate {A = Row} n [])) ≡ 0
no_bundles zero = refl
no_bundles (suc n) = let rest = no_bundles n in omega (arith, rest, sum_by-cons (λ (k : ℕ). k) 0 (map (λ row. length row) (replicate {A = Row} n [])))

-- a set without tags is sound
pub sound-empty : (p : Parameters) → IsSound (empty_version p)
sound-empty p =
    let rows : List Row = replicate p.rows [] in
    let cells : (r u b : ℕ) → cell rows r u b ≡ [] = λ r u b. ap (λ (row : Row). cell (row ∷ []) 0 u b) (nothing p.rows r) in
    record {
      each_row = length-replicate {A = Row} p.rows [];
      each_bin = All-replicate (λ row. All (λ u. length u.bins ≡ bins_of_row) row) p.rows [] (All-nil (λ u. length u.bins ≡ bins_of_row));
      present = λ tag label e q c. absurd (none-some label (sym (fin.get-empty (slice_cmp nat_cmp) tag) ∙ e));
      nothing_else = λ r u b m c. absurd (in_nothing m (subst (λ bin. Contains bin m) (cells r u b) c));
      within_capacity = λ r u b. omega (arith, ap length (cells r u b));
      apart = λ r u b. subst (λ bin. AreApart bin) (sym (cells r u b)) (λ i j d before within. absurd (omega arith));
      labelled = λ tag label e. absurd (none-some label (sym (fin.get-empty (slice_cmp nat_cmp) tag) ∙ e));
      limits = subst (λ s. (s * (1 + p.units) ≤ 64) × (s * (1 + p.units) * (p.capacity + 1) ≤ 4096)) (sym (no_bundles p.rows)) (omega arith, omega arith);
    }
  where
    in_nothing : (m : Member) → Contains [] m → ⊥
    in_nothing m c = let within : c.0 < 0 = c.1 in omega arith
