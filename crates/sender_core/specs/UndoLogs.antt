-- An undo log: what stood where rows were changed, and the rows before the changes.
use Rattle.std.specs.Prelude.{◌≡◌, ℕ, ◌<◌, List, [], ◌∷◌, length, take, Option, Some, None, slice_set, ⊤}
use Rattle.psi_bundle.specs.declared.cached.Shown.{Shown}
use Rattle.sender_core.specs.declared.undo.Undo.{Undo}
use Rattle.sender_core.specs.Kept.{Kept, kept_row}
use Rattle.sender_core.specs.Shown.{kept_of}

module _ {C : Type 0} where
  -- a row before a change at an index: with the bundle that stood there, or without the last one, which came there
  abbrev pub row_before : ℕ → Option (Shown C) → List (Kept C) → List (Kept C)
  row_before index (Some shown) row = slice_set row index (kept_of shown)
  row_before index None row = take index row

  -- the rows before one change
  abbrev pub rows_before : Undo C → List (List (Kept C)) → List (List (Kept C))
  rows_before u rows = slice_set rows u.row (row_before u.index u.bundle (kept_row rows u.row))

  -- a bundle comes back only to an index that the row has
  abbrev pub HasIndex : ℕ → Option (Shown C) → List (Kept C) → Type 0
  HasIndex index (Some shown) row = index < length row
  HasIndex index None row = ⊤

  -- one change can be undone
  pub record CanUndo (u : Undo C) (rows : List (List (Kept C))) : Type 0 where
    pub row : u.row < length rows
    pub index : HasIndex u.index u.bundle (kept_row rows u.row)

  -- the rows before all changes of a log, of which the last is undone first
  abbrev pub rolled_back : List (Undo C) → List (List (Kept C)) → List (List (Kept C))
  rolled_back [] rows = rows
  rolled_back (u ∷ us) rows = rows_before u (rolled_back us rows)

  -- all changes of a log can be undone
  abbrev pub CanRollBack : List (Undo C) → List (List (Kept C)) → Type 0
  CanRollBack [] rows = ⊤
  CanRollBack (u ∷ us) rows = CanUndo u (rolled_back us rows) × CanRollBack us rows

  -- the log leads from these rows back to the first ones
  pub record LeadsBack (log : List (Undo C)) (rows first : List (List (Kept C))) : Type 0 where
    pub can : CanRollBack log rows
    pub to : rolled_back log rows ≡ first

  -- wherever the old log led back to, the new one leads
  abbrev pub StillLeadsBack : (old_log : List (Undo C)) (old_rows : List (List (Kept C))) (log : List (Undo C)) (rows : List (List (Kept C))) → Type 0
  StillLeadsBack old_log old_rows log rows = (first : List (List (Kept C))) → LeadsBack old_log old_rows first → LeadsBack log rows first
