-- Caches beside bundles that stay or go.
use Rattle.std.specs.Prelude.{◌≡◌, ℕ, zero, suc, Bool, true, false, List, [], ◌∷◌, ◌++◌, map, None, slice_index_or, slice_set, if◌then◌else◌}
use Rattle.std.proofs.Common.{refl, sym, subst, ◌∙◌, inl, inr}
use Rattle.psi_bundle.specs.Bins.{holds, bin_at}
use Rattle.psi_bundle.specs.Versions.{Stamped, with_bin}
use Rattle.sender_core.specs.declared.rows.Change.{Change}
use Rattle.sender_core.specs.Kept.{Kept, stamped_of, row_of, kept_row, kept_at, IsSameOrBare, RowKeepsCaches, KeepCaches}
use Rattle.sender_core.specs.Changes.{bin_after, changed_bundle}

module _ {C : Type 0} (stamp : ℕ) where
  -- nothing changed
  pub same-row : (ks : List (Kept C)) → RowKeepsCaches stamp ks ks
  same-row ks u = inl refl

  pub same-rows : (rows : List (List (Kept C))) → KeepCaches stamp rows rows
  same-rows rows r u = inl refl

  -- one change after another
  same_after : (a b c : Kept C) → IsSameOrBare stamp a b → IsSameOrBare stamp b c → IsSameOrBare stamp a c
  same_after a b c (inl p) (inl q) = inl (q ∙ p)
  same_after a b c (inr p) (inl q) = subst (IsSameOrBare stamp a) (sym q) (inr p)
  same_after a b c p (inr q) = inr q

  pub rows-after : (a b c : List (List (Kept C))) → KeepCaches stamp a b → KeepCaches stamp b c → KeepCaches stamp a c
  rows-after a b c p q r u = same_after (kept_at (kept_row a r) u) (kept_at (kept_row b r) u) (kept_at (kept_row c r) u) (p r u) (q r u)

  module _ (new : Kept C) (bare : (new.stamp ≡ stamp) × (new.cache ≡ None)) where
    set_one : (ks : List (Kept C)) (i u : ℕ) (d : Kept C) → IsSameOrBare stamp (slice_index_or ks u d) (slice_index_or (slice_set ks i new) u d)
    set_one [] i u d = inl refl
    set_one (k ∷ ks) zero zero d = inr (inl bare.0, bare.1)
    set_one (k ∷ ks) zero (suc u) d = inl refl
    set_one (k ∷ ks) (suc i) zero d = inl refl
    set_one (k ∷ ks) (suc i) (suc u) d = set_one ks i u d

    append_one : (ks : List (Kept C)) (u : ℕ) (d : Kept C) → IsSameOrBare stamp (slice_index_or ks u d) (slice_index_or (ks ++ new ∷ []) u d)
    append_one [] zero d = inr (inl bare.0, bare.1)
    append_one [] (suc u) d = inl refl
    append_one (k ∷ ks) zero d = inl refl
    append_one (k ∷ ks) (suc u) d = append_one ks u d

    -- one bundle is new, and bare
    pub row-set : (ks : List (Kept C)) (i : ℕ) → RowKeepsCaches stamp ks (slice_set ks i new)
    row-set ks i u = set_one ks i u _

    pub row-append : (ks : List (Kept C)) → RowKeepsCaches stamp ks (ks ++ new ∷ [])
    row-append ks u = append_one ks u _

  -- one row is new
  pub rows-set : (rows : List (List (Kept C))) (r : ℕ) (row : List (Kept C)) → RowKeepsCaches stamp (kept_row rows r) row → KeepCaches stamp rows (slice_set rows r row)
  rows-set [] r row h q = same-row []
  rows-set (ks ∷ rows) zero row h zero = h
  rows-set (ks ∷ rows) zero row h (suc q) = same-row (kept_row rows q)
  rows-set (ks ∷ rows) (suc r) row h zero = same-row ks
  rows-set (ks ∷ rows) (suc r) row h (suc q) = rows-set rows r row h q

  module _ (b : ℕ) (c : Change) (tag : List ℕ) where
    bare_case : (t : Bool) (k new : Kept C) → (new.stamp ≡ stamp) × (new.cache ≡ None) → IsSameOrBare stamp k (if t then new else k)
    bare_case true k new bare = inr (inl bare.0, bare.1)
    bare_case false k new bare = inl refl

    map_one : (ks : List (Kept C)) (u : ℕ) (d : Kept C) → IsSameOrBare stamp (slice_index_or ks u d) (slice_index_or (map (changed_bundle stamp b c tag) ks) u d)
    map_one [] u d = inl refl
    map_one (k ∷ ks) zero d = bare_case (holds (bin_at k.bins b) tag) k (record { stamp = stamp; bins = slice_set k.bins b (bin_after c tag (bin_at k.bins b)); cache = None }) (refl, refl)
    map_one (k ∷ ks) (suc u) d = map_one ks u d

    -- each bundle that is changed is bare
    pub row-changed : (ks : List (Kept C)) → RowKeepsCaches stamp ks (map (changed_bundle stamp b c tag) ks)
    row-changed ks u = map_one ks u _

    stamped_case : (t : Bool) (k new : Kept C) → stamped_of (if t then new else k) ≡ (if t then stamped_of new else stamped_of k)
    stamped_case true k new = refl
    stamped_case false k new = refl

    -- the bundles alone of a changed row
    pub changed-alone : (ks : List (Kept C)) → row_of (map (changed_bundle stamp b c tag) ks)
        ≡ map {A = Stamped} {B = Stamped} (λ u. if holds (bin_at u.bins b) tag then with_bin stamp b (bin_after c tag (bin_at u.bins b)) u else u) (row_of ks)
    changed-alone [] = refl
    changed-alone (k ∷ ks) = λ i. stamped_case (holds (bin_at k.bins b) tag) k (record { stamp = stamp; bins = slice_set k.bins b (bin_after c tag (bin_at k.bins b)); cache = None }) i ∷ changed-alone ks i
