-- The blocks of a builder's shelf.
use Rattle.std.proofs.Common.{◌≡◌, ℕ, ◌-◌, ◌<◌, ◌≤◌, inl, inr, List, [], ◌∷◌, ◌++◌, length, Option, Some, None, sym, ap, ◌∙◌, subst, arith}
use Rattle.std.specs.List.{All, fold}
use Rattle.std.proofs.lemmas.Bool.{cases_lt}
use Rattle.std.proofs.lemmas.List.Elements.{All-push}
use Rattle.std.proofs.lemmas.List.Sums.{fold-append}
use Rattle.psi_residue.specs.Parameters.{Parameters}
use Rattle.row_block.specs.Rows.{Block, cleared}
use Rattle.row_block.specs.Shelves.{shelf_room}
use Rattle.bundle_cache.specs.Caches.{IsBundleBlock}
use Rattle.sender_core.specs.declared.receipt.Now.{Now}
use Rattle.sender_core.specs.Tries.{Tried}
use Rattle.psi_rebuilder.specs.Building.{left_by, shelved}

module _ (p : Parameters) (old new : List Block) (block : Block) where
  -- a block that is given: it is kept, or handed back
  pub given : (back : Option Block) → (length old < shelf_room → (back ≡ None) × (new ≡ old ++ cleared block ∷ [])) → (shelf_room ≤ length old → (back ≡ Some block) × (new ≡ old))
      → All (IsBundleBlock p) old → IsBundleBlock p block → All (IsBundleBlock p) new
  given back kept full each is =
      elim (cases_lt (length old) shelf_room) [
        | inl room ↦ subst (λ (bs : List Block). All (IsBundleBlock p) bs) (sym (kept room).1) (All-push (IsBundleBlock p) old (cleared block) each (record { width = is.width; number = is.number }))
        | inr none ↦ subst (λ (bs : List Block). All (IsBundleBlock p) bs) (sym (full none).1) each
      ]

-- behind one receipt more
pub blocks-more : (first before after : ℕ) (receipts : List Tried) (r : Tried) → (first ≤ shelf_room → (before ≡ fold shelved first receipts) × (before ≤ shelf_room)) → (before ≤ shelf_room → after ≡ shelved before r)
    → first ≤ shelf_room → (after ≡ fold shelved first (receipts ++ r ∷ [])) × (after ≤ shelf_room)
blocks-more first before after receipts r so_far one within =
    let was = so_far within in
    let is = one was.1 in
    (is ∙ ap (λ (n : ℕ). shelved n r) was.0 ∙ sym (fold-append shelved first receipts (r ∷ [])), within-room r.instead before after is was.1)
  where
    within-room : (now : Option Now) (before after : ℕ) → after ≡ left_by now (before - 1) → before ≤ shelf_room → after ≤ shelf_room
    within-room None before after is le = omega (arith, is, le)
    within-room (Some now) before after is le = omega (arith, is, le)
