-- The bundles of a sound version can be cached.
use Rattle.std.proofs.Common.{◌≡◌, ℕ, zero, suc, ◌+◌, ◌<◌, ◌≤◌, Bool, true, false, not, List, [], ◌∷◌, ◌++◌, length, get_or, set, replicate, Some, ap, ◌∙◌, sym, subst, inl, inr, arith}
use Rattle.std.specs.Prelude.{nat_lt}
use Rattle.std.specs.Bool.{IsFalse}
use Rattle.std.specs.List.{All, list_any}
use Rattle.std.proofs.lemmas.Bool.{cases_Bool, cases_eq, cases_lt, and_parts, le-ltb, true≢false}
use Rattle.std.proofs.lemmas.List.Elements.{All-append}
use Rattle.std.proofs.lemmas.List.Folds.{list_any_at}
use Rattle.std.proofs.lemmas.List.Quantifiers.{all_pairs_push}
use Rattle.std.specs.FinMap as fin
use Rattle.std.proofs.lemmas.List.{get_or_default, get_or_past, get_or-replicate, get_or-set_same, get_or-set_other, length-append, length-replicate, length-set}
use Rattle.psi_residue.specs.Parameters.{Parameters}
use Rattle.psi_bundle.specs.declared.member.Member.{Member}
use Rattle.psi_bundle.specs.Bins.{AreApart, accepts, bin_at, empty_bins, shares_slot}
use Rattle.psi_bundle.proofs.BinChanges.{accepted-apart}
use Rattle.psi_bundle.proofs.EmptyBundle.{bin_at-empty}
use Rattle.psi_bundle.specs.Versions.{HasLabelLength, Version, row_at, bins_at, IsSound}
use Rattle.bundle_cache.specs.Caches.{IsCacheable}

pub sound-cacheable : (v : Version) (r u : ℕ) → IsSound v → IsCacheable v.parameters (bins_at (row_at v.rows r) u)
sound-cacheable v r u sound = record {
  within_capacity = λ b. sound.within_capacity r u b;
  apart = λ b. sound.apart r u b;
  labelled = λ b k d lt.
      let bin = bin_at (bins_at (row_at v.rows r) u) b in
      sound.labelled (get_or bin k d).tag (get_or bin k d).label (known b k d lt);
}
  where
    known : (b k : ℕ) (d : Member) → k < length (bin_at (bins_at (row_at v.rows r) u) b)
        → fin.get v.labels (get_or (bin_at (bins_at (row_at v.rows r) u) b) k d).tag ≡ Some (get_or (bin_at (bins_at (row_at v.rows r) u) b) k d).label
    known b k d lt =
        let bin = bin_at (bins_at (row_at v.rows r) u) b in
        (sound.nothing_else r u b (get_or bin k d) (k, lt, get_or_default bin k (get_or bin k d) d lt)).0

-- ---- bundles that are filled member by member

-- a bundle without members
pub cacheable-empty : (p : Parameters) → IsCacheable p empty_bins
cacheable-empty p = record {
  within_capacity = λ b. subst (λ (bin : List Member). length bin ≤ p.capacity) (sym (bin_at-empty b)) (omega arith);
  apart = λ b. subst AreApart (sym (bin_at-empty b)) (λ i j d before within. absurd (omega arith));
  labelled = λ b. subst (λ (bin : List Member). All (λ m. HasLabelLength p m.label) bin) (sym (bin_at-empty b)) (λ k d lt. absurd (omega arith));
}

none-any : {X : Type 0} (p : X → Bool) (xs : List X) → list_any p xs ≡ false → (k : ℕ) (d : X) → k < length xs → p (get_or xs k d) ≡ false
none-any p xs e k d lt =
    elim (cases_Bool (p (get_or xs k d))) [
      | inl t ↦ absurd (true≢false (sym (list_any_at p xs k d lt t) ∙ e))
      | inr f ↦ f
    ]

-- a claim on each bin after one was changed
each-changed : (P : List Member → Type 0) (bins : List (List Member)) (b : ℕ) (bin : List Member) → P bin → ((i : ℕ) → P (bin_at bins i)) → (i : ℕ) → P (bin_at (set bins b bin) i)
each-changed P bins b bin here each i =
    elim (cases_eq i b) [
      | inl same ↦
          elim (cases_lt b (length bins)) [
            | inl inside ↦ subst P (sym (ap (λ (j : ℕ). bin_at (set bins b bin) j) same ∙ get_or-set_same bins b bin [] inside)) here
            | inr past ↦ subst P (sym (get_or_past (set bins b bin) i [] (omega (arith, same, past, length-set bins b bin)) ∙ sym (get_or_past bins i [] (omega (arith, same, past))))) (each i)
          ]
      | inr other ↦ subst P (sym (get_or-set_other bins b i bin [] other)) (each i)
    ]

less : (a b : ℕ) → nat_lt a b ≡ true → a < b
less a b e =
    elim (cases_lt a b) [
      | inl lt ↦ lt
      | inr le ↦ absurd (true≢false (sym e ∙ le-ltb a b le))
    ]

-- one member more, in a bin that accepts it
pub cacheable-more : (p : Parameters) (bins : List (List Member)) (b : ℕ) (m : Member) → IsCacheable p bins → accepts p.capacity (bin_at bins b) m.tag ≡ true → HasLabelLength p m.label
    → IsCacheable p (set bins b (bin_at bins b ++ m ∷ []))
unfolding accepts
cacheable-more p bins b m h accepted size =
    let bin = bin_at bins b in
    let free : length bin < p.capacity = less (length bin) p.capacity (and_parts (nat_lt (length bin) p.capacity) (not (list_any (λ x. shares_slot x.tag m.tag) bin)) accepted).0 in
    let longer : length (bin ++ m ∷ []) ≡ length bin + 1 = length-append bin (m ∷ []) in
    record {
      within_capacity = each-changed (λ xs. length xs ≤ p.capacity) bins b (bin ++ m ∷ []) (omega (arith, free, longer)) h.within_capacity;
      apart =
          each-changed AreApart bins b (bin ++ m ∷ [])
          (all_pairs_push (λ x other. IsFalse (shares_slot x.tag other.tag)) bin m (h.apart b) (none-any (λ x. shares_slot x.tag m.tag) bin (accepted-apart p.capacity bin m.tag accepted))) h.apart;
      labelled =
          each-changed (λ xs. All (λ x. HasLabelLength p x.label) xs) bins b (bin ++ m ∷ [])
          (All-append (λ x. HasLabelLength p x.label) bin (m ∷ []) (h.labelled b) (All-one (λ x. HasLabelLength p x.label) m size)) h.labelled;
    }
  where
    All-one : (P : Member → Type 0) (x : Member) → P x → All P (x ∷ [])
    All-one P x h zero d lt = h
    All-one P x h (suc k) d lt = absurd (omega arith)
