-- Rows of a book after one of them was replaced, and folds over a tag's positions.
use Rattle.std.specs.Prelude.{◌≡◌, ℕ, ◌+◌, ◌/◌, ◌%◌, ◌<◌, Bool, true, List, [], ◌∷◌, ◌++◌, Some, None, length, map, drop, slice_index_or, slice_set, if◌then◌else◌}
use Rattle.std.specs.List.{fold, position_from}
use Rattle.std.specs.Arc.{arc_value}
use Rattle.std.proofs.Common.{refl, sym, ap, ◌∙◌, arith, add-one, subst, Vec, Global}
use Rattle.std.proofs.lemmas.List.{map-set, map-append, get_or_default, length-map}
use Rattle.std.proofs.Math.Seq.{drop-cons}
use Rattle.std.proofs.Math.ListN.{get_or-map}
use Rattle.psi_bundle.specs.declared.member.Member.{Member}
use Rattle.psi_bundle.specs.declared.cached.Shown.{Shown}
use Rattle.item_slots.specs.Tags.{bins_of_row}
use Rattle.psi_bundle.specs.Bins.{accepts, holds, bin_at, empty_bins}
use Rattle.psi_bundle.specs.Versions.{Stamped, first_fit, joined, empty_bundle, with_bin, placed_at, changed_at, row_at, greatest_stamp}
use Rattle.sender_core.specs.declared.rows.Change.{Change}
use Rattle.sender_core.specs.Kept.{Kept, stamped_of, row_of, rows_of, kept_row, KeepCaches}
use Rattle.sender_core.specs.Shown.{kept_of, kept_of_row, kept_of_rows}
use Rattle.sender_core.specs.Changes.{bin_after, changed_bundle}
use Rattle.sender_core.proofs.Caches.{row-set, row-append, rows-set, changed-alone}
use Rattle.psi_bundle.proofs.FirstFit.{position-map, position_passes, place-at, place-none}

-- one more position of a fold
pub fold_more : {A : Type 0} (f : A → ℕ → A) (done after all : A) (ps : List ℕ) (i d : ℕ) → i < length ps → after ≡ f done (slice_index_or ps i d)
    → fold f done (drop i ps) ≡ all → fold f after (drop (i + 1) ps) ≡ all
fold_more f done after all ps i d lt is so_far =
    ap (λ (a : _). fold f a (drop (i + 1) ps)) is
    ∙ ap (λ (n : ℕ). fold f (f done (slice_index_or ps i d)) (drop n ps)) (add-one i)
    ∙ ap (fold f done) (sym (drop-cons ps i d lt))
    ∙ so_far

module _ {C : Type 0} where
  -- a row of vectors, read as what is kept
  pub kept_row-at : (items : List (Vec (Shown C) Global)) (r : ℕ) (v : Vec (Shown C) Global) → r < length items → kept_row (kept_of_rows items) r ≡ kept_of_row (slice_index_or items r v).items
  kept_row-at items r v lt =
      let kept : Vec (Shown C) Global → List (Kept C) = λ row. kept_of_row row.items in
      get_or_default (kept_of_rows items) r [] (kept v) (omega (arith, length-map items kept, lt)) ∙ get_or-map kept items r v

  pub kept_rows-set : (items : List (Vec (Shown C) Global)) (r : ℕ) (v : Vec (Shown C) Global) → kept_of_rows (slice_set items r v) ≡ slice_set (kept_of_rows items) r (kept_of_row v.items)
  kept_rows-set items r v = map-set (λ (row : Vec (Shown C) Global). kept_of_row row.items) items r v

  pub row-alone : (rows : List (List (Kept C))) (r : ℕ) → row_at (rows_of rows) r ≡ row_of (kept_row rows r)
  row-alone rows r = get_or-map row_of rows r []

  -- a row with a member placed in it
  pub placed-once : (capacity stamp p : ℕ) (m : Member) (rows : List (List (Kept C))) (row : List (Kept C))
      → row_of row ≡ first_fit capacity stamp (p % bins_of_row) m (row_of (kept_row rows (p / bins_of_row)))
      → rows_of (slice_set rows (p / bins_of_row) row) ≡ placed_at capacity stamp m (rows_of rows) p
  unfolding placed_at
  placed-once capacity stamp p m rows row is =
      map-set row_of rows (p / bins_of_row) row
      ∙ ap (slice_set (rows_of rows) (p / bins_of_row)) (is ∙ ap (first_fit capacity stamp (p % bins_of_row) m) (sym (row-alone rows (p / bins_of_row))))

  -- a row with a change in it
  pub changed-once : (stamp p : ℕ) (c : Change) (tag : List ℕ) (rows : List (List (Kept C))) (row : List (Kept C))
      → row ≡ map (changed_bundle stamp (p % bins_of_row) c tag) (kept_row rows (p / bins_of_row))
      → rows_of (slice_set rows (p / bins_of_row) row) ≡ changed_at stamp (bin_after c tag) tag (rows_of rows) p
  unfolding changed_at
  changed-once stamp p c tag rows row is =
      let b = p % bins_of_row in
      let f : Stamped → Stamped = λ u. if holds (bin_at u.bins b) tag then with_bin stamp b (bin_after c tag (bin_at u.bins b)) u else u in
      map-set row_of rows (p / bins_of_row) row
      ∙ ap (slice_set (rows_of rows) (p / bins_of_row))
      (ap row_of is ∙ changed-alone stamp b c tag (kept_row rows (p / bins_of_row)) ∙ ap (map f) (sym (row-alone rows (p / bins_of_row))))

  -- a row that was replaced, after it was read
  pub row-read : (items : List (Vec (Shown C) Global)) (r : ℕ) (old : Vec (Shown C) Global) → r < length items → old ≡ slice_index_or items r old → kept_row (kept_of_rows items) r ≡ kept_of_row old.items
  row-read items r old lt here = kept_row-at items r old lt ∙ ap (λ (v : Vec (Shown C) Global). kept_of_row v.items) (sym here)

  -- its length
  pub length-read : (items : List (Vec (Shown C) Global)) (r : ℕ) (old : Vec (Shown C) Global) → r < length items → old ≡ slice_index_or items r old → length (kept_row (kept_of_rows items) r) ≡ length old.items
  length-read items r old lt here = ap length (row-read items r old lt here) ∙ length-map old.items kept_of

  -- its greatest stamp
  pub newest-read : (items : List (Vec (Shown C) Global)) (r : ℕ) (old : Vec (Shown C) Global) (shown : List (Shown C)) (n : ℕ) → r < length items → old ≡ slice_index_or items r old
      → n ≡ greatest_stamp (row_of (kept_of_row shown)) → shown ≡ old.items → n ≡ greatest_stamp (row_of (kept_row (kept_of_rows items) r))
  newest-read items r old shown n lt here is same =
      is ∙ ap (λ (us : List (Shown C)). greatest_stamp (row_of (kept_of_row us))) same ∙ ap (λ (ks : List (Kept C)). greatest_stamp (row_of ks)) (sym (row-read items r old lt here))

-- a member in a row of shown bundles
module _ {C : Type 0} (capacity stamp b : ℕ) (m : Member) (items : List (Shown C)) where
  -- the bundle that is found accepts the member
  pub found-accepts : (i : ℕ) (r : Shown C) (bins : List (List Member)) → position_from (λ u. accepts capacity (bin_at (arc_value u.bundle) b) m.tag) 0 items ≡ Some i → r ≡ slice_index_or items i r
      → bins ≡ arc_value r.bundle → accepts capacity (bin_at bins b) m.tag ≡ true
  found-accepts i r bins e here is =
      let test : Shown C → Bool = λ u. accepts capacity (bin_at (arc_value u.bundle) b) m.tag in
      ap (λ (bs : List (List Member)). accepts capacity (bin_at bs b) m.tag) is ∙ ap test here ∙ position_passes test items 0 i r (e ∙ ap Some (omega arith))

  -- it is changed
  module _ (i : ℕ) (r new : Shown C) (bins bundle : List (List Member)) (e : position_from (λ u. accepts capacity (bin_at (arc_value u.bundle) b) m.tag) 0 items ≡ Some i)
      (here : r ≡ slice_index_or items i r) (is : bins ≡ arc_value r.bundle) (changed_is : bundle ≡ slice_set bins b (bin_at bins b ++ m ∷ []))
      (new_is : kept_of new ≡ record { stamp = stamp; bins = bundle; cache = None }) where
    pub fitted-at : row_of (kept_of_row (slice_set items i new)) ≡ first_fit capacity stamp b m (row_of (kept_of_row items))
    fitted-at =
        let found = position-map kept_of (λ (k : Kept C). accepts capacity (bin_at k.bins b) m.tag) items 0 ∙ e in
        let at : kept_of r ≡ slice_index_or (kept_of_row items) i (kept_of r) = sym (get_or-map kept_of items i r ∙ ap kept_of (sym here)) in
        let to : stamped_of (kept_of new) ≡ joined stamp b m (stamped_of (kept_of r)) = ap stamped_of new_is
        ∙ ap (λ (bs : List (List Member)). record { stamp = stamp; bins = bs }) (changed_is ∙ ap (λ (bs : List (List Member)). slice_set bs b (bin_at bs b ++ m ∷ [])) is) in
        ap row_of (map-set kept_of items i new) ∙ place-at stamped_of capacity stamp b m (kept_of_row items) i (kept_of r) (kept_of new) found at to

  -- none is found, and a new one is made
  module _ (new : Shown C) (bundle : List (List Member)) (after : List (Shown C)) (e : position_from (λ u. accepts capacity (bin_at (arc_value u.bundle) b) m.tag) 0 items ≡ None)
      (made_is : bundle ≡ slice_set empty_bins b (bin_at empty_bins b ++ m ∷ [])) (new_is : kept_of new ≡ record { stamp = stamp; bins = bundle; cache = None })
      (after_is : after ≡ items ++ new ∷ []) where
    pub fitted-none : row_of (kept_of_row after) ≡ first_fit capacity stamp b m (row_of (kept_of_row items))
    fitted-none =
        let found = position-map kept_of (λ (k : Kept C). accepts capacity (bin_at k.bins b) m.tag) items 0 ∙ e in
        let to : stamped_of (kept_of new) ≡ joined stamp b m (empty_bundle stamp) = ap stamped_of new_is ∙ ap (λ (bs : List (List Member)). record { stamp = stamp; bins = bs }) made_is in
        ap (λ (us : List (Shown C)). row_of (kept_of_row us)) after_is ∙ ap row_of (map-append kept_of items (new ∷ [])) ∙ place-none stamped_of capacity stamp b m (kept_of_row items) (kept_of new) found to

-- a member in the row of a position
module _ {C : Type 0} (capacity stamp p : ℕ) (m : Member) (items : List (Vec (Shown C) Global)) (v : Vec (Shown C) Global)
    (within : p / bins_of_row < length items) (here : v ≡ slice_index_or items (p / bins_of_row) v) (us : List (Shown C)) (is_row : us ≡ v.items)
    (new : Shown C) (bins bundle : List (List Member)) (new_is : kept_of new ≡ record { stamp = stamp; bins = bundle; cache = None }) where
  bare_new : ((kept_of new).stamp ≡ stamp) × ((kept_of new).cache ≡ None)
  bare_new = (ap (λ (k : Kept C). k.stamp) new_is, ap (λ (k : Kept C). k.cache) new_is)

  row_is : row_of (kept_row (kept_of_rows items) (p / bins_of_row)) ≡ row_of (kept_of_row us)
  row_is = ap row_of (row-read items (p / bins_of_row) v within here ∙ ap kept_of_row (sym is_row))

  -- a bundle takes it
  pub placed-found : (i : ℕ) (r : Shown C) → position_from (λ u. accepts capacity (bin_at (arc_value u.bundle) (p % bins_of_row)) m.tag) 0 us ≡ Some i → r ≡ slice_index_or v.items i r
      → bins ≡ arc_value r.bundle → bundle ≡ slice_set bins (p % bins_of_row) (bin_at bins (p % bins_of_row) ++ m ∷ [])
      → (rows : List (List (Kept C))) → rows ≡ slice_set (kept_of_rows items) (p / bins_of_row) (slice_set (kept_row (kept_of_rows items) (p / bins_of_row)) i (kept_of new))
      → (rows_of rows ≡ placed_at capacity stamp m (rows_of (kept_of_rows items)) p) × KeepCaches stamp (kept_of_rows items) rows
  placed-found i r e at is changed_is rows is_rows =
      let q = p / bins_of_row in
      let all = kept_of_rows items in
      let row = kept_row all q in
      let found : r ≡ slice_index_or us i r = at ∙ ap (λ (xs : List (Shown C)). slice_index_or xs i r) (sym is_row) in
      let fit = fitted-at capacity stamp (p % bins_of_row) m us i r new bins bundle e found is changed_is new_is in
      let set : slice_set row i (kept_of new) ≡ kept_of_row (slice_set us i new) =
      ap (λ (ks : List (Kept C)). slice_set ks i (kept_of new)) (row-read items q v within here ∙ ap kept_of_row (sym is_row)) ∙ sym (map-set kept_of us i new) in (
        ap rows_of is_rows
            ∙ placed-once capacity stamp p m all (slice_set row i (kept_of new)) (ap row_of set ∙ fit ∙ ap (first_fit capacity stamp (p % bins_of_row) m) (sym row_is)),
        subst (KeepCaches stamp all) (sym is_rows) (rows-set stamp all q _ (row-set stamp (kept_of new) bare_new row i)),
      )

  -- a new last bundle takes it
  pub placed-none : position_from (λ u. accepts capacity (bin_at (arc_value u.bundle) (p % bins_of_row)) m.tag) 0 us ≡ None → bundle ≡ slice_set empty_bins (p % bins_of_row) (bin_at empty_bins (p % bins_of_row) ++ m ∷ [])
      → (rows : List (List (Kept C))) → rows ≡ slice_set (kept_of_rows items) (p / bins_of_row) (kept_row (kept_of_rows items) (p / bins_of_row) ++ kept_of new ∷ [])
      → (rows_of rows ≡ placed_at capacity stamp m (rows_of (kept_of_rows items)) p) × KeepCaches stamp (kept_of_rows items) rows
  placed-none e made_is rows is_rows =
      let q = p / bins_of_row in
      let all = kept_of_rows items in
      let row = kept_row all q in
      let fit = fitted-none capacity stamp (p % bins_of_row) m us new bundle (us ++ new ∷ []) e made_is new_is refl in
      let added : row ++ kept_of new ∷ [] ≡ kept_of_row (us ++ new ∷ []) =
      ap (λ (ks : List (Kept C)). ks ++ kept_of new ∷ []) (row-read items q v within here ∙ ap kept_of_row (sym is_row)) ∙ sym (map-append kept_of us (new ∷ [])) in (
        ap rows_of is_rows
            ∙ placed-once capacity stamp p m all (row ++ kept_of new ∷ []) (ap row_of added ∙ fit ∙ ap (first_fit capacity stamp (p % bins_of_row) m) (sym row_is)),
        subst (KeepCaches stamp all) (sym is_rows) (rows-set stamp all q _ (row-append stamp (kept_of new) bare_new row)),
      )
