-- How one step changes rows: each bundle is as it was, or has the new stamp.
use Rattle.std.proofs.Common.{◌≡◌, ◌⊎◌, ℕ, zero, suc, ◌+◌, ◌/◌, ◌%◌, ◌≤◌, Bool, true, false, List, [], ◌∷◌, length, map, Some, leb, inl, inr, refl, sym, ap, ◌∙◌, subst, arith}
use Rattle.std.specs.Prelude.{slice_get, slice_set, is_some, if◌then◌else◌}
use Rattle.std.specs.List.{fold}
use Rattle.std.specs.FinMap as fin
use Rattle.std.proofs.lemmas.Option.{none-some, same_Some}
use Rattle.std.proofs.lemmas.List.{length-set}
use Rattle.psi_bundle.specs.declared.member.Member.{Member}
use Rattle.psi_bundle.specs.declared.history.Call.{Call}
use Rattle.psi_bundle.specs.declared.history.Call.TheVariants as call
use Rattle.item_slots.specs.Tags.{bins_of_row, positions_of}
use Rattle.psi_bundle.specs.Bins.{accepts, holds, bin_at, relabelled, without}
use Rattle.psi_bundle.specs.Versions.{Version, Row, Stamped, row_at, first_fit, joined, empty_bundle, with_bin, placed_at, placed, changed_at, members_of_row, packed_row, greatest_stamp}
use Rattle.psi_bundle.specs.Steps.{Step, step, fits, replace, remove, repack}
use Rattle.sender_core.proofs.SoundLists.{set-cases}

-- each bundle of the new row is as it was, or has the stamp, and no bundle is gone
pub record Grows (stamp : ℕ) (old new : Row) : Type 0 where
  pub longer : length old ≤ length new
  pub each : (u : ℕ) (b : Stamped) → slice_get new u ≡ Some b → (slice_get old u ≡ Some b) ⊎ (b.stamp ≡ stamp)

-- each bundle has the stamp
abbrev pub IsNew : ℕ → Row → Type 0
IsNew stamp row = (u : ℕ) (b : Stamped) → slice_get row u ≡ Some b → b.stamp ≡ stamp

-- what a step does to a row
abbrev pub Changes : ℕ → Row → Row → Type 0
Changes stamp old new = Grows stamp old new ⊎ IsNew stamp new

module _ (stamp : ℕ) where
  grows-same : (row : Row) → Grows stamp row row
  grows-same row = record { longer = omega arith; each = λ u b e. inl e }

  grows-after : (a b c : Row) → Grows stamp a b → Grows stamp b c → Grows stamp a c
  grows-after a b c p q = record {
    longer = omega (arith, p.longer, q.longer);
    each = λ u x e. elim (q.each u x e) [ inl old ↦ p.each u x old | inr new ↦ inr new ];
  }

  cons-each : (x y : Stamped) (xs ys : Row) → (y ≡ x) ⊎ (y.stamp ≡ stamp) → Grows stamp xs ys → (u : ℕ) (b : Stamped) → slice_get (y ∷ ys) u ≡ Some b
      → (slice_get (x ∷ xs) u ≡ Some b) ⊎ (b.stamp ≡ stamp)
  cons-each x y xs ys (inl same) rest zero b e = inl (ap Some (sym same) ∙ e)
  cons-each x y xs ys (inr new) rest zero b e = inr (ap (λ (k : Stamped). k.stamp) (sym (same_Some y b e)) ∙ new)
  cons-each x y xs ys first rest (suc u) b e = rest.each u b e

  grows-cons : (x y : Stamped) (xs ys : Row) → (y ≡ x) ⊎ (y.stamp ≡ stamp) → Grows stamp xs ys → Grows stamp (x ∷ xs) (y ∷ ys)
  grows-cons x y xs ys first rest = record { longer = omega (arith, rest.longer); each = cons-each x y xs ys first rest }

  grows-chosen : (t : Bool) (old a b : Row) → Grows stamp old a → Grows stamp old b → Grows stamp old (if t then a else b)
  grows-chosen true old a b p q = p
  grows-chosen false old a b p q = q

  one-each : (y : Stamped) → y.stamp ≡ stamp → (u : ℕ) (b : Stamped) → slice_get (y ∷ []) u ≡ Some b → (slice_get {X = Stamped} [] u ≡ Some b) ⊎ (b.stamp ≡ stamp)
  one-each y new zero b e = inr (ap (λ (k : Stamped). k.stamp) (sym (same_Some y b e)) ∙ new)
  one-each y new (suc u) b e = absurd (none-some b e)

  -- ---- first fit

  grows-first_fit : (capacity b : ℕ) (m : Member) (row : Row) → Grows stamp row (first_fit capacity stamp b m row)
  unfolding first_fit
  grows-first_fit capacity b m [] = record { longer = omega arith; each = one-each (joined stamp b m (empty_bundle stamp)) refl }
  grows-first_fit capacity b m (u ∷ us) =
      grows-chosen (accepts capacity (bin_at u.bins b) m.tag) (u ∷ us) (joined stamp b m u ∷ us) (u ∷ first_fit capacity stamp b m us)
      (grows-cons u (joined stamp b m u) us us (inr refl) (grows-same us))
      (grows-cons u u us (first_fit capacity stamp b m us) (inl refl) (grows-first_fit capacity b m us))

  -- one row is replaced
  grows-set : (rows : List Row) (q : ℕ) (new : Row) → Grows stamp (row_at rows q) new → (r : ℕ) → Grows stamp (row_at rows r) (row_at (slice_set rows q new) r)
  grows-set rows q new h r =
      elim (set-cases rows q r new []) [
        | inl same ↦ subst (Grows stamp (row_at rows r)) (sym same) (grows-same (row_at rows r))
        | inr here ↦ subst (Grows stamp (row_at rows r)) (sym here.2) (subst (λ (k : ℕ). Grows stamp (row_at rows k) new) (sym here.0) h)
      ]

  grows-placed_at : (capacity : ℕ) (m : Member) (rows : List Row) (p r : ℕ) → Grows stamp (row_at rows r) (row_at (placed_at capacity stamp m rows p) r)
  unfolding placed_at
  grows-placed_at capacity m rows p r = grows-set rows (p / bins_of_row) _ (grows-first_fit capacity (p % bins_of_row) m (row_at rows (p / bins_of_row))) r

  grows-placed : (capacity : ℕ) (m : Member) (ps : List ℕ) (rows : List Row) (r : ℕ) → Grows stamp (row_at rows r) (row_at (fold (placed_at capacity stamp m) rows ps) r)
  grows-placed capacity m [] rows r = grows-same (row_at rows r)
  grows-placed capacity m (p ∷ ps) rows r =
      let once = placed_at capacity stamp m rows p in
      grows-after (row_at rows r) (row_at once r) (row_at (fold (placed_at capacity stamp m) once ps) r) (grows-placed_at capacity m rows p r) (grows-placed capacity m ps once r)

  -- ---- a change wherever a tag stands

  grows-map : (f : Stamped → Stamped) → ((u : Stamped) → (f u ≡ u) ⊎ ((f u).stamp ≡ stamp)) → (row : Row) → Grows stamp row (map f row)
  grows-map f h [] = grows-same []
  grows-map f h (u ∷ us) = grows-cons u (f u) us (map f us) (h u) (grows-map f h us)

  with_bin-chosen : (t : Bool) (b : ℕ) (bin : List Member) (u : Stamped) → ((if t then with_bin stamp b bin u else u) ≡ u) ⊎ ((if t then with_bin stamp b bin u else u).stamp ≡ stamp)
  with_bin-chosen true b bin u = inr refl
  with_bin-chosen false b bin u = inl refl

  grows-changed_at : (change : List Member → List Member) (tag : List ℕ) (rows : List Row) (p r : ℕ) → Grows stamp (row_at rows r) (row_at (changed_at stamp change tag rows p) r)
  unfolding changed_at
  grows-changed_at change tag rows p r =
      let b = p % bins_of_row in
      grows-set rows (p / bins_of_row) _ (grows-map _ (λ u. with_bin-chosen (holds (bin_at u.bins b) tag) b (change (bin_at u.bins b)) u) (row_at rows (p / bins_of_row))) r

  grows-changed : (change : List Member → List Member) (tag : List ℕ) (ps : List ℕ) (rows : List Row) (r : ℕ) → Grows stamp (row_at rows r) (row_at (fold (changed_at stamp change tag) rows ps) r)
  grows-changed change tag [] rows r = grows-same (row_at rows r)
  grows-changed change tag (p ∷ ps) rows r =
      let once = changed_at stamp change tag rows p in
      grows-after (row_at rows r) (row_at once r) (row_at (fold (changed_at stamp change tag) once ps) r) (grows-changed_at change tag rows p r) (grows-changed change tag ps once r)

  -- ---- a row that is packed anew

  new-grown : (old new : Row) → IsNew stamp old → Grows stamp old new → IsNew stamp new
  new-grown old new h g u b e = elim (g.each u b e) [ inl before ↦ h u b before | inr is ↦ is ]

  new-packed : (capacity : ℕ) (ms : List (ℕ × Member)) (row : Row) → IsNew stamp row → IsNew stamp (fold (λ row m. first_fit capacity stamp m.0 m.1 row) row ms)
  new-packed capacity [] row h = h
  new-packed capacity (m ∷ ms) row h = new-packed capacity ms (first_fit capacity stamp m.0 m.1 row) (new-grown row (first_fit capacity stamp m.0 m.1 row) h (grows-first_fit capacity m.0 m.1 row))

  new-set : (rows : List Row) (q : ℕ) (new : Row) → IsNew stamp new → (r : ℕ) → Changes stamp (row_at rows r) (row_at (slice_set rows q new) r)
  new-set rows q new h r =
      elim (set-cases rows q r new []) [
        | inl same ↦ inl (subst (Grows stamp (row_at rows r)) (sym same) (grows-same (row_at rows r)))
        | inr here ↦ inr (subst (IsNew stamp) (sym here.2) h)
      ]

  changes-chosen : (t : Bool) (a b : Step) (old : Row) (r : ℕ) → Changes stamp old (row_at a.version.rows r) → Changes stamp old (row_at b.version.rows r)
      → Changes stamp old (row_at (if t then a else b).version.rows r)
  changes-chosen true a b old r p q = p
  changes-chosen false a b old r p q = q

-- ---- the step

pub step-rows : (v : Version) (c : Call) (r : ℕ) → Changes (v.count + 1) (row_at v.rows r) (row_at (step v c).version.rows r)
unfolding step
step-rows v (call.Put tag label) r =
    let stamp = v.count + 1 in
    let m : Member = record { tag = tag; label = label } in
    let ps = positions_of v.parameters.rows tag in
    changes-chosen stamp (is_some (fin.get v.labels tag)) (replace v tag label) _ (row_at v.rows r) r
    (inl (grows-changed stamp (λ bin. relabelled bin tag label) tag ps v.rows r))
    (changes-chosen stamp (fits v.parameters (placed v.parameters stamp m v.rows)) _ _ (row_at v.rows r) r
    (inl (grows-placed stamp v.parameters.capacity m ps v.rows r))
    (inl (grows-same stamp (row_at v.rows r))))
step-rows v (call.Drop tag) r =
    let stamp = v.count + 1 in
    changes-chosen stamp (is_some (fin.get v.labels tag)) (remove v tag) _ (row_at v.rows r) r
    (inl (grows-changed stamp (λ bin. without bin tag) tag (positions_of v.parameters.rows tag) v.rows r))
    (inl (grows-same stamp (row_at v.rows r)))
step-rows v call.Ask r = inl (grows-same (v.count + 1) (row_at v.rows r))
step-rows v (call.Repack q from) r =
    let stamp = v.count + 1 in
    let ms = members_of_row (row_at v.rows q) in
    changes-chosen stamp (leb (greatest_stamp (row_at v.rows q)) from) (repack v q (packed_row v.parameters.capacity stamp ms)) _ (row_at v.rows r) r
    (new-set stamp v.rows q (packed_row v.parameters.capacity stamp ms) (new-packed stamp v.parameters.capacity ms [] (λ u b e. absurd (none-some b e))) r)
    (inl (grows-same stamp (row_at v.rows r)))

-- a step leaves the number of rows

length-placed : (capacity stamp : ℕ) (m : Member) (ps : List ℕ) (rows : List Row) → length (fold (placed_at capacity stamp m) rows ps) ≡ length rows
unfolding placed_at
length-placed capacity stamp m [] rows = refl
length-placed capacity stamp m (p ∷ ps) rows =
    length-placed capacity stamp m ps (placed_at capacity stamp m rows p)
    ∙ length-set rows (p / bins_of_row) (first_fit capacity stamp (p % bins_of_row) m (row_at rows (p / bins_of_row)))

length-changed : (stamp : ℕ) (change : List Member → List Member) (tag : List ℕ) (ps : List ℕ) (rows : List Row) → length (fold (changed_at stamp change tag) rows ps) ≡ length rows
unfolding changed_at
length-changed stamp change tag [] rows = refl
length-changed stamp change tag (p ∷ ps) rows = length-changed stamp change tag ps (changed_at stamp change tag rows p) ∙ length-set rows (p / bins_of_row) _

length-chosen : (t : Bool) (a b : Step) (n : ℕ) → length a.version.rows ≡ n → length b.version.rows ≡ n → length (if t then a else b).version.rows ≡ n
length-chosen true a b n p q = p
length-chosen false a b n p q = q

pub step-length : (v : Version) (c : Call) → length (step v c).version.rows ≡ length v.rows
unfolding step
step-length v (call.Put tag label) =
    let m : Member = record { tag = tag; label = label } in
    let ps = positions_of v.parameters.rows tag in
    length-chosen (is_some (fin.get v.labels tag)) (replace v tag label) _ (length v.rows) (length-changed (v.count + 1) (λ bin. relabelled bin tag label) tag ps v.rows)
    (length-chosen (fits v.parameters (placed v.parameters (v.count + 1) m v.rows)) _ _ (length v.rows) (length-placed v.parameters.capacity (v.count + 1) m ps v.rows) refl)
step-length v (call.Drop tag) =
    length-chosen (is_some (fin.get v.labels tag)) (remove v tag) _ (length v.rows) (length-changed (v.count + 1) (λ bin. without bin tag) tag (positions_of v.parameters.rows tag) v.rows) refl
step-length v call.Ask = refl
step-length v (call.Repack q from) =
    length-chosen (leb (greatest_stamp (row_at v.rows q)) from) (repack v q _) _ (length v.rows) (length-set v.rows q (packed_row v.parameters.capacity (v.count + 1) (members_of_row (row_at v.rows q)))) refl
