-- One entry more in a book is the step of its call.
use Rattle.std.specs.Prelude.{◌≡◌, ℕ, ◌+◌, ◌≤◌, ◌<◌, Bool, true, false, is_some, nat_le, ◌&&◌, List, [], ◌∷◌, ◌++◌, length, if◌then◌else◌}
use Rattle.std.specs.List.{fold}
use Rattle.std.specs.FinMap as fin
use Rattle.std.proofs.Common.{refl, sym, ap, ◌∙◌, subst, length-append}
use Rattle.std.proofs.lemmas.Bool.{le-leb, lt-leb}
use Rattle.psi_bundle.specs.declared.history.Call.{Call}
use Rattle.psi_bundle.specs.declared.history.Call.TheVariants as call
use Rattle.psi_bundle.specs.declared.history.Answer.{Answer}
use Rattle.psi_bundle.specs.declared.history.Answer.TheVariants as answer
use Rattle.psi_bundle.specs.declared.history.Entry.{Entry}
use Rattle.psi_bundle.specs.Bins.{relabelled, without}
use Rattle.psi_bundle.specs.Versions.{Version, Row, Labels, placed, placed_at, changed, changed_at, planes_of, cells_of}
use Rattle.item_slots.specs.Tags.{positions_of}
use Rattle.psi_bundle.specs.Steps.{Step, step, replace, add, remove, fits, next, unchanged}
use Rattle.sender_core.specs.Kept.{Kept, Contents, version_of, rows_of, KeepCaches, IsStep}
use Rattle.sender_core.specs.States.{GainsEntry}
use Rattle.sender_core.proofs.Caches.{same-rows}

pub first_of_two : (b : Bool) (x y : Step) → b ≡ true → (if b then x else y) ≡ x
first_of_two b x y e = rw e refl

pub second_of_two : (b : Bool) (x y : Step) → b ≡ false → (if b then x else y) ≡ y
second_of_two b x y e = rw e refl

-- the rows after first fit of a new tag
abbrev pub fitted : Version → List ℕ → List ℕ → List Row
fitted v tag label = placed v.parameters (v.count + 1) (record { tag = tag; label = label }) v.rows

pub step-replaced : (v : Version) (tag label : List ℕ) → is_some (fin.get v.labels tag) ≡ true → step v (call.Put tag label) ≡ replace v tag label
unfolding step
step-replaced v tag label has = first_of_two (is_some (fin.get v.labels tag)) (replace v tag label) (add v tag label (fitted v tag label)) has

step-new : (v : Version) (tag label : List ℕ) → is_some (fin.get v.labels tag) ≡ false → step v (call.Put tag label) ≡ add v tag label (fitted v tag label)
unfolding step
step-new v tag label lacks = second_of_two (is_some (fin.get v.labels tag)) (replace v tag label) (add v tag label (fitted v tag label)) lacks

pub step-added : (v : Version) (tag label : List ℕ) → is_some (fin.get v.labels tag) ≡ false → fits v.parameters (fitted v tag label) ≡ true
    → step v (call.Put tag label) ≡ record { answer = answer.Added; version = next v (fin.insert v.labels tag label) (fitted v tag label) }
step-added v tag label lacks fit = step-new v tag label lacks ∙ first_of_two (fits v.parameters (fitted v tag label)) _ _ fit

pub step-full : (v : Version) (tag label : List ℕ) → is_some (fin.get v.labels tag) ≡ false → fits v.parameters (fitted v tag label) ≡ false
    → step v (call.Put tag label) ≡ record { answer = answer.Full (planes_of v.parameters (fitted v tag label)) (cells_of v.parameters (fitted v tag label)); version = unchanged v }
step-full v tag label lacks full = step-new v tag label lacks ∙ second_of_two (fits v.parameters (fitted v tag label)) _ _ full

pub step-removed : (v : Version) (tag : List ℕ) → is_some (fin.get v.labels tag) ≡ true → step v (call.Drop tag) ≡ remove v tag
unfolding step
step-removed v tag has = first_of_two (is_some (fin.get v.labels tag)) (remove v tag) (record { answer = answer.Absent; version = unchanged v }) has

pub step-absent : (v : Version) (tag : List ℕ) → is_some (fin.get v.labels tag) ≡ false → step v (call.Drop tag) ≡ record { answer = answer.Absent; version = unchanged v }
unfolding step
step-absent v tag lacks = second_of_two (is_some (fin.get v.labels tag)) (remove v tag) (record { answer = answer.Absent; version = unchanged v }) lacks

pub step-seen : (v : Version) → step v call.Ask ≡ record { answer = answer.Seen; version = unchanged v }
unfolding step
step-seen v = refl

module _ {C : Type 0} (old new : Contents C) where
  -- the version after an entry
  pub version-entered : (labels : Labels) (rows : List (List (Kept C))) (e : Entry) → GainsEntry old new labels rows e → version_of new ≡ next (version_of old) labels (rows_of rows)
  version-entered labels rows e h =
      let counted : length new.journal ≡ length old.journal + 1 = ap length h.written ∙ length-append old.journal (e ∷ []) in
      λ i. record { parameters = h.parameters i; count = counted i; labels = h.labelled i; rows = rows_of (h.stands i) }

  -- an entry that is written after a part of the contents was changed
  pub entered-after : (mid : Contents C) (before labels : Labels) (rows : List (List (Kept C))) (e : Entry) → mid.parameters ≡ old.parameters → mid.start ≡ old.start → mid.journal ≡ old.journal → before ≡ labels
      → GainsEntry mid new before rows e → GainsEntry old new labels rows e
  entered-after mid before labels rows e parameters start journal is h = record {
    parameters = h.parameters ∙ parameters;
    start = h.start ∙ start;
    labelled = h.labelled ∙ is;
    stands = h.stands;
    written = h.written ∙ ap (λ (es : List Entry). es ++ e ∷ []) journal;
  }

  -- an entry that is written after the rows were as before
  pub entered-undone : (mid : Contents C) (rows : List (List (Kept C))) → rows ≡ old.rows → (e : Entry) → mid.parameters ≡ old.parameters → mid.start ≡ old.start → mid.journal ≡ old.journal
      → GainsEntry mid new (version_of old).labels rows e → GainsEntry old new (version_of old).labels old.rows e
  entered-undone mid rows is e parameters start journal h =
      entered-after mid (version_of old).labels (version_of old).labels old.rows e parameters start journal refl (subst (λ (rs : List (List (Kept C))). GainsEntry mid new (version_of old).labels rs e) is h)

  -- an entry with the step's answer, labels and rows
  pub entered : (c : Call) (s : Step) (labels : Labels) (rows : List (List (Kept C))) → step (version_of old) c ≡ s → s.version ≡ next (version_of old) labels (rows_of rows)
      → GainsEntry old new labels rows (record { call = c; answer = s.answer }) → KeepCaches (length old.journal + 1) old.rows rows → IsStep old new c s.answer
  entered c s labels rows is to h keep = record {
    same_parameters = h.parameters;
    same_start = h.start;
    answered = ap (λ (t : Step). t.answer) (sym is);
    version = version-entered labels rows _ h ∙ sym to ∙ ap (λ (t : Step). t.version) (sym is);
    journal = h.written;
    caches = subst (KeepCaches (length old.journal + 1) old.rows) (sym h.stands) keep;
  }

  pub replaced : (tag label : List ℕ) (rows : List (List (Kept C))) → is_some (fin.get (version_of old).labels tag) ≡ true
      → rows_of rows ≡ changed old.parameters (length old.journal + 1) (λ bin. relabelled bin tag label) tag (rows_of old.rows)
      → GainsEntry old new (fin.insert (version_of old).labels tag label) rows (record { call = call.Put tag label; answer = answer.Replaced })
      → KeepCaches (length old.journal + 1) old.rows rows → IsStep old new (call.Put tag label) answer.Replaced
  replaced tag label rows has made h keep =
      let v = version_of old in
      entered (call.Put tag label) (replace v tag label) (fin.insert v.labels tag label) rows (step-replaced v tag label has) (ap (next v (fin.insert v.labels tag label)) (sym made)) h keep

  pub added : (tag label : List ℕ) (rows : List (List (Kept C))) → is_some (fin.get (version_of old).labels tag) ≡ false
      → rows_of rows ≡ fitted (version_of old) tag label → fits old.parameters (rows_of rows) ≡ true
      → GainsEntry old new (fin.insert (version_of old).labels tag label) rows (record { call = call.Put tag label; answer = answer.Added })
      → KeepCaches (length old.journal + 1) old.rows rows → IsStep old new (call.Put tag label) answer.Added
  added tag label rows lacks made fit h keep =
      let v = version_of old in
      entered (call.Put tag label) _ (fin.insert v.labels tag label) rows (step-added v tag label lacks (ap (fits old.parameters) (sym made) ∙ fit)) (ap (next v (fin.insert v.labels tag label)) (sym made)) h keep

  pub full : (tag label : List ℕ) (rows : List (List (Kept C))) → is_some (fin.get (version_of old).labels tag) ≡ false
      → rows_of rows ≡ fitted (version_of old) tag label → fits old.parameters (rows_of rows) ≡ false
      → GainsEntry old new (version_of old).labels old.rows (record { call = call.Put tag label; answer = answer.Full (planes_of old.parameters (rows_of rows)) (cells_of old.parameters (rows_of rows)) })
      → IsStep old new (call.Put tag label) (answer.Full (planes_of old.parameters (rows_of rows)) (cells_of old.parameters (rows_of rows)))
  full tag label rows lacks made over h =
      let v = version_of old in
      let is = step-full v tag label lacks (ap (fits old.parameters) (sym made) ∙ over) ∙ ap (λ (rs : List Row). record { answer = answer.Full (planes_of old.parameters rs) (cells_of old.parameters rs); version = unchanged v }) (sym made) in
      entered (call.Put tag label) _ v.labels old.rows is refl h (same-rows (length old.journal + 1) old.rows)

  pub removed : (tag : List ℕ) (rows : List (List (Kept C))) → is_some (fin.get (version_of old).labels tag) ≡ true
      → rows_of rows ≡ changed old.parameters (length old.journal + 1) (λ bin. without bin tag) tag (rows_of old.rows)
      → GainsEntry old new (fin.remove (version_of old).labels tag) rows (record { call = call.Drop tag; answer = answer.Removed })
      → KeepCaches (length old.journal + 1) old.rows rows → IsStep old new (call.Drop tag) answer.Removed
  removed tag rows has made h keep =
      let v = version_of old in
      entered (call.Drop tag) (remove v tag) (fin.remove v.labels tag) rows (step-removed v tag has) (ap (next v (fin.remove v.labels tag)) (sym made)) h keep

  pub absent : (tag : List ℕ) → is_some (fin.get (version_of old).labels tag) ≡ false
      → GainsEntry old new (version_of old).labels old.rows (record { call = call.Drop tag; answer = answer.Absent }) → IsStep old new (call.Drop tag) answer.Absent
  absent tag lacks h =
      let v = version_of old in
      entered (call.Drop tag) _ v.labels old.rows (step-absent v tag lacks) refl h (same-rows (length old.journal + 1) old.rows)

  pub seen : GainsEntry old new (version_of old).labels old.rows (record { call = call.Ask; answer = answer.Seen }) → IsStep old new call.Ask answer.Seen
  seen h =
      let v = version_of old in
      entered call.Ask _ v.labels old.rows (step-seen v) refl h (same-rows (length old.journal + 1) old.rows)

  -- rows that a change left, with the count and the positions as the code has them
  module _ (n : ℕ) (before rows : List (List (Kept C))) (ps : List ℕ) (tag : List ℕ)
      (is_n : n ≡ length old.journal) (is_before : before ≡ old.rows) (is_ps : ps ≡ positions_of old.parameters.rows tag) (keep : KeepCaches (n + 1) before rows) where
    keep_old : KeepCaches (length old.journal + 1) old.rows rows
    keep_old = subst (λ (rs : List (List (Kept C))). KeepCaches (length old.journal + 1) rs rows) is_before (subst (λ (k : ℕ). KeepCaches (k + 1) before rows) is_n keep)

    pub replaced-by : (label : List ℕ) → is_some (fin.get (version_of old).labels tag) ≡ true
        → rows_of rows ≡ fold (changed_at (n + 1) (λ bin. relabelled bin tag label) tag) (rows_of before) ps
        → GainsEntry old new (fin.insert (version_of old).labels tag label) rows (record { call = call.Put tag label; answer = answer.Replaced })
        → IsStep old new (call.Put tag label) answer.Replaced
    replaced-by label has made h =
        replaced tag label rows has (made ∙ (λ i. fold (changed_at (is_n i + 1) (λ bin. relabelled bin tag label) tag) (rows_of (is_before i)) (is_ps i))) h keep_old

    pub removed-by : is_some (fin.get (version_of old).labels tag) ≡ true
        → rows_of rows ≡ fold (changed_at (n + 1) (λ bin. without bin tag) tag) (rows_of before) ps
        → GainsEntry old new (fin.remove (version_of old).labels tag) rows (record { call = call.Drop tag; answer = answer.Removed })
        → IsStep old new (call.Drop tag) answer.Removed
    removed-by has made h =
        removed tag rows has (made ∙ (λ i. fold (changed_at (is_n i + 1) (λ bin. without bin tag) tag) (rows_of (is_before i)) (is_ps i))) h keep_old

    module _ (label : List ℕ) (lacks : is_some (fin.get (version_of old).labels tag) ≡ false)
        (made : rows_of rows ≡ fold (placed_at old.parameters.capacity (n + 1) (record { tag = tag; label = label })) (rows_of before) ps)
        (planes cells : ℕ) (is_planes : planes ≡ planes_of old.parameters (rows_of rows)) (is_cells : cells ≡ cells_of old.parameters (rows_of rows)) where
      fitted_is : rows_of rows ≡ fitted (version_of old) tag label
      fitted_is = made ∙ (λ i. fold (placed_at old.parameters.capacity (is_n i + 1) (record { tag = tag; label = label })) (rows_of (is_before i)) (is_ps i))

      fits_is : (a b : Bool) → nat_le planes 64 ≡ a → nat_le cells 4096 ≡ b → fits old.parameters (rows_of rows) ≡ a && b
      fits_is a b p q = λ i. (ap (λ (k : ℕ). nat_le k 64) (sym is_planes) ∙ p) i && (ap (λ (k : ℕ). nat_le k 4096) (sym is_cells) ∙ q) i

      pub added-by : planes ≤ 64 → cells ≤ 4096 → GainsEntry old new (fin.insert (version_of old).labels tag label) rows (record { call = call.Put tag label; answer = answer.Added })
          → IsStep old new (call.Put tag label) answer.Added
      added-by p q h = added tag label rows lacks fitted_is (fits_is true true (le-leb planes 64 p) (le-leb cells 4096 q)) h keep_old

      full_of : fits old.parameters (rows_of rows) ≡ false → GainsEntry old new (version_of old).labels old.rows (record { call = call.Put tag label; answer = answer.Full planes cells })
          → IsStep old new (call.Put tag label) (answer.Full planes cells)
      full_of over h =
          let told : answer.Full planes cells ≡ answer.Full (planes_of old.parameters (rows_of rows)) (cells_of old.parameters (rows_of rows)) = λ i. answer.Full (is_planes i) (is_cells i) in
          subst (IsStep old new (call.Put tag label)) (sym told)
          (full tag label rows lacks fitted_is over (subst (λ (a : Answer). GainsEntry old new (version_of old).labels old.rows (record { call = call.Put tag label; answer = a })) told h))

      both_false : (b : Bool) → b && false ≡ false
      both_false true = refl
      both_false false = refl

      pub full-planes : 64 < planes → GainsEntry old new (version_of old).labels old.rows (record { call = call.Put tag label; answer = answer.Full planes cells })
          → IsStep old new (call.Put tag label) (answer.Full planes cells)
      full-planes p h = full_of (fits_is false (nat_le cells 4096) (lt-leb planes 64 p) refl) h

      pub full-cells : 4096 < cells → GainsEntry old new (version_of old).labels old.rows (record { call = call.Put tag label; answer = answer.Full planes cells })
          → IsStep old new (call.Put tag label) (answer.Full planes cells)
      full-cells q h = full_of (fits_is (nat_le planes 64) false refl (lt-leb cells 4096 q) ∙ both_false (nat_le planes 64)) h
