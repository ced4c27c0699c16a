-- Undo logs that grow and are rolled back.
use Rattle.std.specs.Prelude.{◌≡◌, ℕ, ◌<◌, List, [], ◌∷◌, ◌++◌, length, take, Some, None, slice_index_or, slice_set}
use Rattle.std.proofs.Common.{refl, sym, ap, ◌∙◌, subst, arith, Vec, Global}
use Rattle.std.proofs.lemmas.List.{length-set, length-map, map-set, map-append, set-set, set-get_or, get_or-set_same, take-map}
use Rattle.std.proofs.Math.Seq.{take-append_seam}
use Rattle.std.proofs.Math.ListN.{get_or-map}
use Rattle.psi_bundle.specs.declared.cached.Shown.{Shown}
use Rattle.sender_core.specs.declared.undo.Undo.{Undo}
use Rattle.sender_core.specs.Kept.{Kept, kept_row}
use Rattle.sender_core.specs.Shown.{kept_of, kept_of_row, kept_of_rows}
use Rattle.sender_core.specs.UndoLogs.{rows_before, CanUndo, rolled_back, CanRollBack, LeadsBack, StillLeadsBack}
use Rattle.sender_core.proofs.RowLists.{kept_rows-set, row-read, length-read}

module _ {C : Type 0} where
  -- the last change is undone first
  pub rolled-last : (us : List (Undo C)) (u : Undo C) (rows : List (List (Kept C))) → rolled_back (us ++ u ∷ []) rows ≡ rolled_back us (rows_before u rows)
  rolled-last [] u rows = refl
  rolled-last (v ∷ us) u rows = ap (rows_before v) (rolled-last us u rows)

  can-more : (us : List (Undo C)) (u : Undo C) (rows : List (List (Kept C))) → CanUndo u rows → CanRollBack us (rows_before u rows) → CanRollBack (us ++ u ∷ []) rows
  can-more [] u rows can rest = (can, tt)
  can-more (v ∷ us) u rows can rest = (subst (CanUndo v) (sym (rolled-last us u rows)) rest.0, can-more us u rows can rest.1)

  pub can-last : (us : List (Undo C)) (u : Undo C) (rows : List (List (Kept C))) → CanRollBack (us ++ u ∷ []) rows → CanUndo u rows × CanRollBack us (rows_before u rows)
  can-last [] u rows can = (can.0, tt)
  can-last (v ∷ us) u rows can =
      let rest = can-last us u rows can.1 in
      (rest.0, (subst (CanUndo v) (rolled-last us u rows) can.0, rest.1))

  -- one change more
  leads-more : (log : List (Undo C)) (u : Undo C) (old new : List (List (Kept C))) → CanUndo u new → rows_before u new ≡ old → StillLeadsBack log old (log ++ u ∷ []) new
  leads-more log u old new can is first h = record {
    can = can-more log u new can (subst (CanRollBack log) (sym is) h.can);
    to = rolled-last log u new ∙ ap (rolled_back log) is ∙ h.to;
  }

  module _ (rows : List (List (Kept C))) (r : ℕ) (within : r < length rows) where
    -- a row that was written
    written : (row : List (Kept C)) → kept_row (slice_set rows r row) r ≡ row
    written row = get_or-set_same rows r row [] within

    -- and then written as it was
    rewritten : (row : List (Kept C)) → slice_set (slice_set rows r row) r (kept_row rows r) ≡ rows
    rewritten row = set-set rows r row (kept_row rows r) ∙ set-get_or rows r []

    -- a bundle was replaced
    pub leads-replaced : (log : List (Undo C)) (i : ℕ) (old : Shown C) (new : Kept C) → i < length (kept_row rows r) → kept_of old ≡ slice_index_or (kept_row rows r) i (kept_of old)
        → StillLeadsBack log rows (log ++ record { row = r; index = i; bundle = Some old } ∷ []) (slice_set rows r (slice_set (kept_row rows r) i new))
    leads-replaced log i old new in_row was =
        let row = kept_row rows r in
        let after = slice_set rows r (slice_set row i new) in
        let size : length (kept_row after r) ≡ length row = ap length (written (slice_set row i new)) ∙ length-set row i new in
        let row_is : slice_set (kept_row after r) i (kept_of old) ≡ row =
        ap (λ (ks : List (Kept C)). slice_set ks i (kept_of old)) (written (slice_set row i new)) ∙ set-set row i new (kept_of old) ∙ ap (slice_set row i) was ∙ set-get_or row i (kept_of old) in
        leads-more log _ rows after (record { row = omega (arith, within, length-set rows r (slice_set row i new)); index = omega (arith, in_row, size) })
        (ap (slice_set after r) row_is ∙ rewritten (slice_set row i new))

    -- a last bundle was added
    pub leads-appended : (log : List (Undo C)) (i : ℕ) (new : Kept C) → i ≡ length (kept_row rows r)
        → StillLeadsBack log rows (log ++ record { row = r; index = i; bundle = None } ∷ []) (slice_set rows r (kept_row rows r ++ new ∷ []))
    leads-appended log i new last =
        let row = kept_row rows r in
        let after = slice_set rows r (row ++ new ∷ []) in
        let row_is : take i (kept_row after r) ≡ row = (λ j. take (last j) (written (row ++ new ∷ []) j)) ∙ take-append_seam row (new ∷ []) in
        leads-more log _ rows after (record { row = omega (arith, within, length-set rows r (row ++ new ∷ [])); index = tt }) (ap (slice_set after r) row_is ∙ rewritten (row ++ new ∷ []))

  -- a row of vectors in which a bundle was replaced
  pub replaced-is : (items : List (Vec (Shown C) Global)) (r i : ℕ) (v w : Vec (Shown C) Global) (shown : Shown C) → r < length items → v ≡ slice_index_or items r v → w.items ≡ slice_set v.items i shown
      → kept_of_rows (slice_set items r w) ≡ slice_set (kept_of_rows items) r (slice_set (kept_row (kept_of_rows items) r) i (kept_of shown))
  replaced-is items r i v w shown within here is =
      kept_rows-set items r w
      ∙ ap (slice_set (kept_of_rows items) r)
      (ap kept_of_row is ∙ map-set kept_of v.items i shown ∙ ap (λ (ks : List (Kept C)). slice_set ks i (kept_of shown)) (sym (row-read items r v within here)))

  -- in which a last one was added
  pub appended-is : (items : List (Vec (Shown C) Global)) (r : ℕ) (v w : Vec (Shown C) Global) (shown : Shown C) → r < length items → v ≡ slice_index_or items r v → w.items ≡ v.items ++ shown ∷ []
      → kept_of_rows (slice_set items r w) ≡ slice_set (kept_of_rows items) r (kept_row (kept_of_rows items) r ++ kept_of shown ∷ [])
  appended-is items r v w shown within here is =
      kept_rows-set items r w
      ∙ ap (slice_set (kept_of_rows items) r)
      (ap kept_of_row is ∙ map-append kept_of v.items (shown ∷ []) ∙ ap (λ (ks : List (Kept C)). ks ++ kept_of shown ∷ []) (sym (row-read items r v within here)))

  -- in which nothing changed
  pub same-is : (items : List (Vec (Shown C) Global)) (r : ℕ) (v w : Vec (Shown C) Global) → v ≡ slice_index_or items r v → w.items ≡ v.items → kept_of_rows (slice_set items r w) ≡ kept_of_rows items
  same-is items r v w here is =
      kept_rows-set items r w
      ∙ ap (slice_set (kept_of_rows items) r) (ap kept_of_row (is ∙ ap (λ (u : Vec (Shown C) Global). u.items) here))
      ∙ sym (kept_rows-set items r (slice_index_or items r v))
      ∙ ap kept_of_rows (set-get_or items r v)

  module _ (items : List (Vec (Shown C) Global)) (r i : ℕ) (v w : Vec (Shown C) Global) (within : r < length items) (here : v ≡ slice_index_or items r v) where
    -- the log after a bundle was replaced
    pub back-replaced : (x old shown : Shown C) (before log after : List (Undo C)) → i < length (kept_row (kept_of_rows items) r) → x ≡ slice_index_or v.items i x → old ≡ x → w.items ≡ slice_set v.items i shown
        → log ≡ before → after ≡ log ++ record { row = r; index = i; bundle = Some old } ∷ [] → StillLeadsBack before (kept_of_rows items) after (kept_of_rows (slice_set items r w))
    back-replaced x old shown before log after in_row was is_old is is_log is_after first h =
        let rows = kept_of_rows items in
        let at : kept_row rows r ≡ kept_of_row v.items = row-read items r v within here in
        let stood : kept_of old ≡ slice_index_or (kept_row rows r) i (kept_of old) =
        ap kept_of (is_old ∙ was) ∙ sym (get_or-map kept_of v.items i x) ∙ (λ j. slice_index_or (sym at j) i (kept_of (sym is_old j))) in
        let leads = leads-replaced rows r (omega (arith, within, length-map items (λ row. kept_of_row row.items))) log i old (kept_of shown) in_row stood first
        (subst (λ (us : List (Undo C)). LeadsBack us rows first) (sym is_log) h) in
        subst (λ (us : List (Undo C)). LeadsBack us (kept_of_rows (slice_set items r w)) first) (sym is_after)
        (subst (λ (ks : List (List (Kept C))). LeadsBack (log ++ record { row = r; index = i; bundle = Some old } ∷ []) ks first) (sym (replaced-is items r i v w shown within here is)) leads)

    -- after a last one was added
    pub back-appended : (shown : Shown C) (before log after : List (Undo C)) → i ≡ length v.items → w.items ≡ v.items ++ shown ∷ []
        → log ≡ before → after ≡ log ++ record { row = r; index = i; bundle = None } ∷ [] → StillLeadsBack before (kept_of_rows items) after (kept_of_rows (slice_set items r w))
    back-appended shown before log after last is is_log is_after first h =
        let rows = kept_of_rows items in
        let leads = leads-appended rows r (omega (arith, within, length-map items (λ row. kept_of_row row.items))) log i (kept_of shown) (last ∙ sym (length-read items r v within here)) first
        (subst (λ (us : List (Undo C)). LeadsBack us rows first) (sym is_log) h) in
        subst (λ (us : List (Undo C)). LeadsBack us (kept_of_rows (slice_set items r w)) first) (sym is_after)
        (subst (λ (ks : List (List (Kept C))). LeadsBack (log ++ record { row = r; index = i; bundle = None } ∷ []) ks first) (sym (appended-is items r v w shown within here is)) leads)

    -- after neither
    pub back-same : (before log : List (Undo C)) → w.items ≡ v.items → log ≡ before → StillLeadsBack before (kept_of_rows items) log (kept_of_rows (slice_set items r w))
    back-same before log is is_log first h =
        subst (λ (us : List (Undo C)). LeadsBack us (kept_of_rows (slice_set items r w)) first) (sym is_log)
        (subst (λ (ks : List (List (Kept C))). LeadsBack before ks first) (sym (same-is items r v w here is)) h)

    -- the rows before a change that is undone
    pub undone-replaced : (shown : Shown C) → w.items ≡ slice_set v.items i shown → kept_of_rows (slice_set items r w) ≡ rows_before (record { row = r; index = i; bundle = Some shown }) (kept_of_rows items)
    undone-replaced shown is = replaced-is items r i v w shown within here is

    pub undone-appended : w.items ≡ take i v.items → kept_of_rows (slice_set items r w) ≡ rows_before (record { row = r; index = i; bundle = None }) (kept_of_rows items)
    undone-appended is =
        kept_rows-set items r w
        ∙ ap (slice_set (kept_of_rows items) r)
        (ap kept_of_row is ∙ sym (take-map kept_of i v.items) ∙ ap (take i) (sym (row-read items r v within here)))
