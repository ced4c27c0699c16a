-- A row whose bundles are changed one after another.
use Rattle.std.specs.Prelude.{◌≡◌, ℕ, zero, suc, ◌+◌, ◌%◌, ◌/◌, ◌<◌, List, [], ◌∷◌, length, map, slice_index_or, slice_set}
use Rattle.std.proofs.Common.{refl, sym, ap, ◌∙◌, subst, arith, add-one}
use Rattle.std.proofs.lemmas.List.{set-set, get_or-set_same}
use Rattle.item_slots.specs.Tags.{bins_of_row}
use Rattle.psi_bundle.specs.Versions.{changed_at}
use Rattle.sender_core.specs.declared.rows.Change.{Change}
use Rattle.sender_core.specs.Kept.{Kept, rows_of, kept_row, kept_at, KeepCaches}
use Rattle.sender_core.specs.Changes.{bin_after, changed_bundle, with_changed}
use Rattle.sender_core.proofs.Caches.{rows-set, row-changed}
use Rattle.sender_core.proofs.RowLists.{changed-once}

-- a list with f of its first n elements
abbrev pub front_changed : {X : Type 0} → (X → X) → ℕ → List X → List X
front_changed f zero xs = xs
front_changed f (suc n) [] = []
front_changed f (suc n) (x ∷ xs) = f x ∷ front_changed f n xs

module _ {X : Type 0} (f : X → X) where
  front-more : (xs : List X) (n : ℕ) (d : X) → n < length xs → slice_set (front_changed f n xs) n (f (slice_index_or (front_changed f n xs) n d)) ≡ front_changed f (suc n) xs
  front-more [] n d lt = absurd (omega (arith, lt))
  front-more (x ∷ xs) zero d lt = refl
  front-more (x ∷ xs) (suc n) d lt = ap (λ (ys : List X). f x ∷ ys) (front-more xs n d (omega (arith, lt)))

  front-all : (xs : List X) → front_changed f (length xs) xs ≡ map f xs
  front-all [] = refl
  front-all (x ∷ xs) = ap (λ (ys : List X). f x ∷ ys) (front-all xs)

  length-front : (xs : List X) (n : ℕ) → length (front_changed f n xs) ≡ length xs
  length-front xs zero = refl
  length-front [] (suc n) = refl
  length-front (x ∷ xs) (suc n) = ap suc (length-front xs n)

module _ {C : Type 0} (stamp b : ℕ) (c : Change) (tag : List ℕ) (first : List (List (Kept C))) (r : ℕ) where
  -- the rows where the first n bundles of row r are changed
  abbrev pub changed_to : ℕ → List (List (Kept C))
  changed_to n = slice_set first r (front_changed (changed_bundle stamp b c tag) n (kept_row first r))

  written : r < length first → (n : ℕ) → kept_row (changed_to n) r ≡ front_changed (changed_bundle stamp b c tag) n (kept_row first r)
  written within n = get_or-set_same first r _ [] within

  pub changed-length : r < length first → (n : ℕ) (rows : List (List (Kept C))) → rows ≡ changed_to n → length (kept_row rows r) ≡ length (kept_row first r)
  changed-length within n rows is = ap (λ (ks : List (List (Kept C))). length (kept_row ks r)) is ∙ ap length (written within n) ∙ length-front (changed_bundle stamp b c tag) (kept_row first r) n

  -- one bundle more
  pub changed-next : r < length first → (n : ℕ) (rows : List (List (Kept C))) → n < length (kept_row first r) → rows ≡ changed_to n → with_changed stamp b c tag rows r n ≡ changed_to (n + 1)
  changed-next within n rows lt is =
      let f = changed_bundle {C = C} stamp b c tag in
      let row = front_changed f n (kept_row first r) in
      ap (λ (ks : List (List (Kept C))). with_changed stamp b c tag ks r n) is
      ∙ ap (λ (ks : List (Kept C)). slice_set (slice_set first r row) r (slice_set ks n (f (kept_at ks n)))) (written within n)
      ∙ set-set first r row (slice_set row n (f (kept_at row n)))
      ∙ ap (slice_set first r) (front-more f (kept_row first r) n _ lt ∙ ap (λ (k : ℕ). front_changed f k (kept_row first r)) (sym (add-one n)))

  -- all of them
  changed-all : (n : ℕ) → n ≡ length (kept_row first r) → changed_to n ≡ slice_set first r (map (changed_bundle stamp b c tag) (kept_row first r))
  changed-all n is = ap changed_to is ∙ ap (slice_set first r) (front-all (changed_bundle stamp b c tag) (kept_row first r))

  pub caches-all : (n : ℕ) (rows : List (List (Kept C))) → n ≡ length (kept_row first r) → rows ≡ changed_to n → KeepCaches stamp first rows
  caches-all n rows all is = subst (KeepCaches stamp first) (sym (is ∙ changed-all n all)) (rows-set stamp first r _ (row-changed stamp b c tag (kept_row first r)))

-- a position's row of which all bundles are changed
pub changed-at : {C : Type 0} (stamp p : ℕ) (c : Change) (tag : List ℕ) (first rows : List (List (Kept C))) (n : ℕ) → n ≡ length (kept_row first (p / bins_of_row))
    → rows ≡ changed_to stamp (p % bins_of_row) c tag first (p / bins_of_row) n → rows_of rows ≡ changed_at stamp (bin_after c tag) tag (rows_of first) p
changed-at stamp p c tag first rows n all is =
    ap rows_of (is ∙ changed-all stamp (p % bins_of_row) c tag first (p / bins_of_row) n all) ∙ changed-once stamp p c tag first _ refl
