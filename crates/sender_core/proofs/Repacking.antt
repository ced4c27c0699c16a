-- A Repack of a book: what is packed, and the entry.
use Rattle.std.specs.Prelude.{◌≡◌, ℕ, zero, suc, ◌+◌, ◌≤◌, ◌<◌, Bool, true, false, nat_le, List, [], ◌∷◌, length, map, None, slice_set, if◌then◌else◌}
use Rattle.std.specs.List.{fold}
use Rattle.std.proofs.Common.{refl, sym, ap, ◌∙◌, subst, arith, inl, inr}
use Rattle.std.proofs.lemmas.Bool.{le-leb, lt-leb}
use Rattle.std.proofs.lemmas.List.{length-map, map-set, get_or-set_same}
use Rattle.psi_bundle.specs.declared.member.Member.{Member}
use Rattle.psi_bundle.specs.declared.history.Call.TheVariants as call
use Rattle.psi_bundle.specs.declared.history.Answer.{Answer}
use Rattle.psi_bundle.specs.declared.history.Answer.TheVariants as answer
use Rattle.psi_bundle.specs.Bins.{accepts, bin_at}
use Rattle.psi_bundle.specs.Versions.{Version, Row, Stamped, row_at, bins_at, first_fit, joined, packed_row, members_of_row, greatest_stamp}
use Rattle.psi_bundle.specs.Shows.{packed_bins}
use Rattle.psi_bundle.specs.Steps.{Step, step, next, unchanged}
use Rattle.psi_bundle.specs.Histories.{replay}
use Rattle.sender_core.specs.Kept.{Kept, Contents, RowSight, row_of, rows_of, version_of, start_of, kept_row, kept_at, IsSameOrBare, RowKeepsCaches, IsStep, IsConsistent}
use Rattle.sender_core.specs.States.{GainsEntry}
use Rattle.sender_core.specs.Changes.{bare_with}
use Rattle.sender_core.specs.Given.{IsViewOf, IsPackedFor}
use Rattle.sender_core.proofs.Caches.{same-rows, rows-set}
use Rattle.sender_core.proofs.Entering.{first_of_two, second_of_two, entered}
use Rattle.sender_core.proofs.RowLists.{row-alone}
use Rattle.sender_core.proofs.SoundPacked.{CanStand, length-packed}
use Rattle.sender_core.proofs.StampHistories.{rows-stand}

-- ---- first fit does not look at stamps

-- the same bundles with this stamp
abbrev restamped : ℕ → Row → Row
restamped s row = map {A = Stamped} {B = Stamped} (λ u. record { stamp = s; bins = u.bins }) row

restamped-chosen : (s : ℕ) (t : Bool) (a b c d : Row) → a ≡ restamped s c → b ≡ restamped s d → (if t then a else b) ≡ restamped s (if t then c else d)
restamped-chosen s true a b c d p q = p
restamped-chosen s false a b c d p q = q

first_fit-restamped : (capacity s t b : ℕ) (m : Member) (row : Row) → first_fit capacity s b m (restamped s row) ≡ restamped s (first_fit capacity t b m row)
unfolding first_fit
first_fit-restamped capacity s t b m [] = refl
first_fit-restamped capacity s t b m (u ∷ us) =
    restamped-chosen s (accepts capacity (bin_at u.bins b) m.tag) _ _ (joined t b m u ∷ us) (u ∷ first_fit capacity t b m us) refl
    (ap (λ (row : Row). record { stamp = s; bins = u.bins } ∷ row) (first_fit-restamped capacity s t b m us))

fold-restamped : (capacity s t : ℕ) (ms : List (ℕ × Member)) (row : Row)
    → fold (λ row m. first_fit capacity s m.0 m.1 row) (restamped s row) ms ≡ restamped s (fold (λ row m. first_fit capacity t m.0 m.1 row) row ms)
fold-restamped capacity s t [] row = refl
fold-restamped capacity s t (m ∷ ms) row =
    ap (λ (first : Row). fold (λ row m. first_fit capacity s m.0 m.1 row) first ms) (first_fit-restamped capacity s t m.0 m.1 row)
    ∙ fold-restamped capacity s t ms (first_fit capacity t m.0 m.1 row)

row-bare : (C : Type 0) (s : ℕ) (row : Row) → row_of {C = C} (map (bare_with s) (map (λ (u : Stamped). u.bins) row)) ≡ restamped s row
row-bare C s [] = refl
row-bare C s (u ∷ us) = ap (λ (row : Row). record { stamp = s; bins = u.bins } ∷ row) (row-bare C s us)

-- the packed bundles, stamped
row-packed : (C : Type 0) (capacity s : ℕ) (row : Row) → row_of {C = C} (map (bare_with s) (packed_bins capacity row)) ≡ packed_row capacity s (members_of_row row)
row-packed C capacity s row = row-bare C s (packed_row capacity 0 (members_of_row row)) ∙ sym (fold-restamped capacity s 0 (members_of_row row) [])

-- the number of packed bundles, whatever their stamp
pub length-packed_row : (capacity s : ℕ) (row : Row) → length (packed_row capacity s (members_of_row row)) ≡ length (packed_bins capacity row)
length-packed_row capacity s row =
    ap length (sym (row-packed ℕ capacity s row)) ∙ length-map (map (bare_with {C = ℕ} s) (packed_bins capacity row)) _ ∙ length-map (packed_bins capacity row) (bare_with {C = ℕ} s)

bare-at : {C : Type 0} (s : ℕ) (packed : List (List (List Member))) (u : ℕ) (k : Kept C) → IsSameOrBare s k (kept_at (map (bare_with s) packed) u)
bare-at s [] u k = inr (inr refl, refl)
bare-at s (b ∷ bs) zero k = inr (inl refl, refl)
bare-at s (b ∷ bs) (suc u) k = bare-at s bs u k

no_elements : {X : Type 0} (xs : List X) → length xs ≡ 0 → xs ≡ []
no_elements [] e = refl
no_elements (x ∷ xs) e = absurd (omega arith)

-- a row that was packed has no caches
bare-none : {C : Type 0} (s : ℕ) (packed : List (List (List Member))) (u : ℕ) → (kept_at {C = C} (map (bare_with s) packed) u).cache ≡ None
bare-none s [] u = refl
bare-none s (b ∷ bs) zero = refl
bare-none s (b ∷ bs) (suc u) = bare-none s bs u

pub bare-packed : {C : Type 0} (old new : List (List (Kept C))) (r s : ℕ) (row : List (Kept C)) (packed : List (List (List Member))) → r < length old → new ≡ slice_set old r row
    → row ≡ map (bare_with s) packed → (u : ℕ) → (kept_at (kept_row new r) u).cache ≡ None
bare-packed {C = C} old new r s row packed lt is is_row u =
    ap (λ (ks : List (Kept C)). (kept_at ks u).cache) (ap (λ (rows : List (List (Kept C))). kept_row rows r) is ∙ get_or-set_same old r row [] lt ∙ is_row) ∙ bare-none s packed u

pub bare-empty : {C : Type 0} (old new : List (List (Kept C))) (r : ℕ) → new ≡ old → length (kept_row old r) ≡ 0 → (u : ℕ) → (kept_at (kept_row new r) u).cache ≡ None
bare-empty {C = C} old new r same none u =
    ap (λ (ks : List (Kept C)). (kept_at ks u).cache) (ap (λ (rows : List (List (Kept C))). kept_row rows r) same ∙ no_elements (kept_row old r) none)

-- ---- the step

-- the step of a Repack that is not refused, of this row
abbrev packed_step : Version → ℕ → Row → Step
packed_step v r row = record {
  answer = answer.Done (length row) (length (packed_row v.parameters.capacity (v.count + 1) (members_of_row row)));
  version = next v v.labels (slice_set v.rows r (packed_row v.parameters.capacity (v.count + 1) (members_of_row row)));
}

step-packed : (v : Version) (r from : ℕ) → nat_le (greatest_stamp (row_at v.rows r)) from ≡ true → step v (call.Repack r from) ≡ packed_step v r (row_at v.rows r)
unfolding step
step-packed v r from old = first_of_two (nat_le (greatest_stamp (row_at v.rows r)) from) (packed_step v r (row_at v.rows r)) _ old

step-moved : (v : Version) (r from : ℕ) → nat_le (greatest_stamp (row_at v.rows r)) from ≡ false
    → step v (call.Repack r from) ≡ record { answer = answer.Moved (greatest_stamp (row_at v.rows r)); version = unchanged v }
unfolding step
step-moved v r from new = second_of_two (nat_le (greatest_stamp (row_at v.rows r)) from) (packed_step v r (row_at v.rows r)) _ new

set-none : (rows : List Row) (r : ℕ) → row_at rows r ≡ [] → slice_set rows r [] ≡ rows
set-none [] r e = refl
set-none (row ∷ rows) zero e = ap (λ (w : Row). w ∷ rows) (sym e)
set-none (row ∷ rows) (suc r) e = ap (λ (ws : List Row). row ∷ ws) (set-none rows r e)

module _ {C : Type 0} (old new : Contents C) (r from : ℕ) where
  -- the stamps of the row
  newest-is : greatest_stamp (row_of (kept_row old.rows r)) ≡ greatest_stamp (row_at (rows_of old.rows) r)
  newest-is = ap greatest_stamp (sym (row-alone old.rows r))

  pub moved : (stamp : ℕ) → stamp ≡ greatest_stamp (row_of (kept_row old.rows r)) → from < stamp
      → GainsEntry old new (version_of old).labels old.rows (record { call = call.Repack r from; answer = answer.Moved stamp }) → IsStep old new (call.Repack r from) (answer.Moved stamp)
  moved stamp is above h =
      let v = version_of old in
      let told : stamp ≡ greatest_stamp (row_at v.rows r) = is ∙ newest-is in
      let over : from < greatest_stamp (row_at v.rows r) = subst (λ (k : ℕ). from < k) told above in
      subst (λ (k : ℕ). IsStep old new (call.Repack r from) (answer.Moved k)) (sym told)
      (entered old new (call.Repack r from) _ v.labels old.rows (step-moved v r from (lt-leb (greatest_stamp (row_at v.rows r)) from over)) refl
      (subst (λ (k : ℕ). GainsEntry old new v.labels old.rows (record { call = call.Repack r from; answer = answer.Moved k })) told h) (same-rows (length old.journal + 1) old.rows))

  module _ (stamp : ℕ) (is : stamp ≡ greatest_stamp (row_of (kept_row old.rows r))) (below : stamp ≤ from) where
    stands : nat_le (greatest_stamp (row_at (rows_of old.rows) r)) from ≡ true
    stands = ap (λ (k : ℕ). nat_le k from) (sym (is ∙ newest-is)) ∙ le-leb stamp from below

    pub emptied : (before : ℕ) → before ≡ length (kept_row old.rows r) → before ≡ 0
        → GainsEntry old new (version_of old).labels old.rows (record { call = call.Repack r from; answer = answer.Done 0 0 }) → IsStep old new (call.Repack r from) (answer.Done 0 0)
    emptied before is_before none h =
        let v = version_of old in
        let row : row_at v.rows r ≡ [] = row-alone old.rows r ∙ ap row_of (no_elements (kept_row old.rows r) (sym is_before ∙ none)) in
        entered old new (call.Repack r from) (packed_step v r []) v.labels old.rows (step-packed v r from stands ∙ ap (packed_step v r) row) (ap (next v v.labels) (set-none v.rows r row)) h
        (same-rows (length old.journal + 1) old.rows)

    module _ (packed : List (List (List Member))) (row : List (Kept C)) (n : ℕ) (is_n : n ≡ length old.journal) (is_row : row ≡ map (bare_with (n + 1)) packed)
        (is_packed : packed ≡ packed_bins old.parameters.capacity (row_of (kept_row old.rows r))) where
      row-anew : row_of row ≡ packed_row old.parameters.capacity (length old.journal + 1) (members_of_row (row_at (rows_of old.rows) r))
      row-anew =
          ap row_of is_row
          ∙ (λ i. row_of {C = C} (map (bare_with (is_n i + 1)) (is_packed i)))
          ∙ row-packed C old.parameters.capacity (length old.journal + 1) (row_of (kept_row old.rows r))
          ∙ ap (λ (w : Row). packed_row old.parameters.capacity (length old.journal + 1) (members_of_row w)) (sym (row-alone old.rows r))

      pub packed-in : (before after : ℕ) → before ≡ length (kept_row old.rows r) → after ≡ length packed
          → GainsEntry old new (version_of old).labels (slice_set old.rows r row) (record { call = call.Repack r from; answer = answer.Done before after })
          → IsStep old new (call.Repack r from) (answer.Done before after)
      packed-in before after is_before is_after h =
          let v = version_of old in
          let anew = packed_row old.parameters.capacity (length old.journal + 1) (members_of_row (row_at v.rows r)) in
          let lengths : before ≡ length (row_at v.rows r) = is_before ∙ sym (length-map (kept_row old.rows r) _) ∙ ap length (sym (row-alone old.rows r)) in
          let count : after ≡ length anew = is_after ∙ sym (length-map packed (bare_with {C = C} (n + 1))) ∙ ap length (sym is_row) ∙ sym (length-map row _) ∙ ap length row-anew in
          let told : answer.Done before after ≡ answer.Done (length (row_at v.rows r)) (length anew) = λ i. answer.Done (lengths i) (count i) in
          let keep : RowKeepsCaches (length old.journal + 1) (kept_row old.rows r) row =
          subst (RowKeepsCaches (length old.journal + 1) (kept_row old.rows r)) (sym (is_row ∙ (λ i. map (bare_with (is_n i + 1)) packed)))
          (λ u. bare-at (length old.journal + 1) packed u (kept_at (kept_row old.rows r) u)) in
          let to : (packed_step v r (row_at v.rows r)).version ≡ next v v.labels (rows_of (slice_set old.rows r row)) =
          ap (next v v.labels) (ap (slice_set v.rows r) (sym row-anew) ∙ sym (map-set row_of old.rows r row)) in
          subst (IsStep old new (call.Repack r from)) (sym told)
          (entered old new (call.Repack r from) (packed_step v r (row_at v.rows r)) v.labels (slice_set old.rows r row) (step-packed v r from stands) to
          (subst (λ (a : Answer). GainsEntry old new v.labels (slice_set old.rows r row) (record { call = call.Repack r from; answer = a })) told h)
          (rows-set (length old.journal + 1) old.rows r row keep))

-- ---- what a Repack would answer

module _ {C : Type 0} (h : Contents C) (r from stamp : ℕ) (is : stamp ≡ greatest_stamp (row_of (kept_row h.rows r))) where
  newest_is : stamp ≡ greatest_stamp (row_at (rows_of h.rows) r)
  newest_is = is ∙ ap greatest_stamp (sym (row-alone h.rows r))

  pub would-move : from < stamp → answer.Moved stamp ≡ (step (version_of h) (call.Repack r from)).answer
  would-move above =
      let v = version_of h in
      ap answer.Moved newest_is ∙ ap (λ (t : Step). t.answer) (sym (step-moved v r from (lt-leb (greatest_stamp (row_at v.rows r)) from (subst (λ (k : ℕ). from < k) newest_is above))))

  pub would-pack : (before after : ℕ) (packed : List (List (List Member))) → stamp ≤ from → packed ≡ packed_bins h.parameters.capacity (row_of (kept_row h.rows r)) → before ≡ length (kept_row h.rows r) → after ≡ length packed
      → answer.Done before after ≡ (step (version_of h) (call.Repack r from)).answer
  would-pack before after packed below is_packed is_before is_after =
      let v = version_of h in
      let row = row-alone h.rows r in
      let lengths : before ≡ length (row_at v.rows r) = is_before ∙ sym (length-map (kept_row h.rows r) _) ∙ ap length (sym row) in
      let anew : after ≡ length (packed_row h.parameters.capacity (v.count + 1) (members_of_row (row_at v.rows r))) =
      is_after ∙ ap length is_packed ∙ ap (λ (w : Row). length (packed_bins h.parameters.capacity w)) (sym row) ∙ sym (length-packed_row h.parameters.capacity (v.count + 1) (row_at v.rows r)) in
      (λ i. answer.Done (lengths i) (anew i))
      ∙ ap (λ (t : Step). t.answer) (sym (step-packed v r from (ap (λ (k : ℕ). nat_le k from) (sym newest_is) ∙ le-leb stamp from below)))

-- ---- a view of the book's history

module _ {C : Type 0} (contents : C → List (List Member)) (is_under : C → List ℕ → Type 0) where
  -- first fit of a row's members has no more bundles than the row
  pub packed-fewer : (h : Contents C) (r : ℕ) (packed : List (List (List Member))) → IsConsistent contents is_under h → packed ≡ packed_bins h.parameters.capacity (row_of (kept_row h.rows r))
      → length packed ≤ length (kept_row h.rows r)
  packed-fewer h r packed was is =
      let row = row_of (kept_row h.rows r) in
      let at : row_at (rows_of h.rows) r ≡ row = row-alone h.rows r in
      let fit = length-packed h.parameters.capacity 0 row was.passed.ranges.some_members
      (λ u b. subst (λ (w : Row). CanStand h.parameters.capacity (bin_at (bins_at w u) b)) at (record { apart = was.sound.apart r u b; within = was.sound.within_capacity r u b })) in
      let bins = length-map (packed_row h.parameters.capacity 0 (members_of_row row)) (λ (u : Stamped). u.bins) in
      let long = length-map (kept_row h.rows r) (λ (k : Kept C). let u : Stamped = record { stamp = k.stamp; bins = k.bins } in u) in
      omega (arith, ap length is, bins, fit, long)

  pub packed-for : (h : Contents C) (view : RowSight C) (packed : List (List (List Member))) → IsConsistent contents is_under h → IsViewOf (start_of h) h.journal view
      → packed ≡ packed_bins h.parameters.capacity (row_of view.bundles) → IsPackedFor h view.row view.from packed
  packed-for h view packed was seen is = record { bundled = same; fewer = few }
    where
      r : ℕ
      r = view.row

      here : row_at (replay (start_of h) h.journal).rows r ≡ row_of (kept_row h.rows r)
      here = ap (λ (v : Version). row_at v.rows r) was.replayed ∙ row-alone h.rows r

      same : greatest_stamp (row_of (kept_row h.rows r)) ≤ view.from → 0 < length (kept_row h.rows r) → packed ≡ packed_bins h.parameters.capacity (row_of (kept_row h.rows r))
      same below some =
          elim (rows-stand (start_of h) h.journal was.begun r view.from seen.1 (subst (λ (row : Row). greatest_stamp row ≤ view.from) (sym here) below)) [
            | inl stood ↦ is ∙ ap (packed_bins h.parameters.capacity) (seen.2 ∙ sym stood ∙ here)
            | inr none ↦ absurd (omega (arith, some, length-map (kept_row h.rows r) (λ (k : Kept C). let u : Stamped = record { stamp = k.stamp; bins = k.bins } in u), ap length (sym here ∙ none)))
          ]

      few : greatest_stamp (row_of (kept_row h.rows r)) ≤ view.from → 0 < length (kept_row h.rows r) → length packed ≤ length (kept_row h.rows r)
      few below some = packed-fewer h r packed was (same below some)

  -- what is packed from the row as it stands
  pub packed-standing : (h : Contents C) (r from : ℕ) (packed : List (List (List Member))) → IsConsistent contents is_under h
      → (greatest_stamp (row_of (kept_row h.rows r)) ≤ from → packed ≡ packed_bins h.parameters.capacity (row_of (kept_row h.rows r))) → IsPackedFor h r from packed
  packed-standing h r from packed was is = record {
    bundled = λ below some. is below;
    fewer = λ below some. packed-fewer h r packed was (is below);
  }
