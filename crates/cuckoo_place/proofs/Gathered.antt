-- The items that a search has reached: gathered in the order of the positions, and sorted then.
use Rattle.std.proofs.Common.{◌≡◌, ◌≢◌, ℕ, ◌+◌, ◌<◌, ◌≤◌, Bool, true, false, List, [], ◌∷◌, ◌++◌, length, get_or, eqb, Option, None, Some, refl, ap, sym, ◌∙◌, subst, arith, inl, inr, if◌then◌else◌}
use Rattle.std.specs.Prelude.{option_to_list}
use Rattle.std.specs.List.{Contains}
use Rattle.std.specs.List.Sorted.{IsPermutation, IsSorted}
use Rattle.std.specs.Ordering.{nat_cmp}
use Rattle.std.proofs.lemmas.Bool.{cases_lt}
use Rattle.std.proofs.lemmas.Bool.Decides.{Decides-eqb}
use Rattle.std.proofs.lemmas.Cmp.{nat_eq_equiv}
use Rattle.std.proofs.lemmas.List.{append-nil, get_or_past}
use Rattle.std.proofs.lemmas.List.Elements.{Contains-get_or, Contains-append_left, Contains-push, Contains-push_cases}
use Rattle.std.proofs.lemmas.List.Quantifiers.{all_pairs_push}
use Rattle.std.proofs.lemmas.List.Sorted.{IsNonDecreasingBy-from_sort, Contains-permutation, IsPermutation-sym}
use Rattle.std.proofs.lemmas.Map.Keys.{IsStrictlyIncreasing-from_distinct, IsDistinct-IsPermutation}
use Rattle.std.proofs.lemmas.Map.Made.{IsDistinct-from_AllPairs}
use Rattle.cuckoo_place.specs.Searches.{Holds, IsPlaced, IsSeen, reached_at, AreReached}
use Rattle.cuckoo_place.proofs.Distinct.{AreApart}

-- what a visited position's holder is
if_some : (b : Bool) (o : Option ℕ) (i : ℕ) → (if b then o else None) ≡ Some i → (b ≡ true) × (o ≡ Some i)
if_some true o i h = (refl, h)
if_some false o i h = cc

pub reached_held : (holders : List (Option ℕ)) (seen : List Bool) (p i : ℕ) → reached_at holders seen p ≡ Some i → IsSeen seen p × Holds holders i p
reached_held holders seen p i h = if_some (get_or seen p false) (get_or holders p None) i h

pub held_reached : (holders : List (Option ℕ)) (seen : List Bool) (p i : ℕ) → IsSeen seen p → Holds holders i p → reached_at holders seen p ≡ Some i
held_reached holders seen p i s h = ap (λ b. if b then get_or holders p None else None) s ∙ h

-- a held position is one of the table
pub holds_below : (holders : List (Option ℕ)) (i p : ℕ) → Holds holders i p → p < length holders
holds_below holders i p h =
    elim (cases_lt p (length holders)) [
      | inl b ↦ b
      | inr past ↦ let e = get_or_past holders p None past in cc
    ]

-- the items found at the first n places
pub record IsGathered (at : ℕ → Option ℕ) (n : ℕ) (xs : List ℕ) : Type 0 where
  pub apart : AreApart xs
  pub only : (i : ℕ) → Contains xs i → (p : ℕ) × (p < n) × (at p ≡ Some i)
  pub all : (i p : ℕ) → p < n → at p ≡ Some i → Contains xs i

pub gathered_none : (at : ℕ → Option ℕ) → IsGathered at 0 []
gathered_none at = record {
  apart = λ i j d lt b. absurd (omega arith);
  only = λ i h. absurd (omega (arith, h.1));
  all = λ i p lt e. absurd (omega arith);
}

same_some : (x y : ℕ) → Option.Some x ≡ Some y → x ≡ y
same_some x y e = cc

gathered_found : (at : ℕ → Option ℕ) → ((i p q : ℕ) → at p ≡ Some i → at q ≡ Some i → p ≡ q) → (n : ℕ) (xs : List ℕ) (x : ℕ) → at n ≡ Some x → IsGathered at n xs → IsGathered at (n + 1) (xs ++ x ∷ [])
gathered_found at once n xs x here g = record {
  apart = all_pairs_push (λ x y. x ≢ y) xs x g.apart
      (λ k d b e. let r = g.only (get_or xs k d) (Contains-get_or xs k d b) in
      let same = once x r.0 n (r.2 ∙ ap Some e) here in
      absurd (omega (arith, r.1, same)));
  only = λ i h.
      elim (Contains-push_cases xs x i h) [
        | inl a ↦ let r = g.only i a in (r.0, omega (arith, r.1), r.2)
        | inr e ↦ (n, omega arith, here ∙ ap Some e)
      ];
  all = λ i p lt e.
      elim (cases_lt p n) [
        | inl b ↦ Contains-append_left xs (x ∷ []) i (g.all i p b e)
        | inr past ↦
            let same : n ≡ p = omega arith in
            subst (λ j. Contains (xs ++ x ∷ []) j) (same_some x i (sym here ∙ ap at same ∙ e)) (Contains-push xs x)
      ];
}

gathered_nothing : (at : ℕ → Option ℕ) (n : ℕ) (xs : List ℕ) → at n ≡ None → IsGathered at n xs → IsGathered at (n + 1) xs
gathered_nothing at n xs here g = record {
  apart = g.apart;
  only = λ i h. let r = g.only i h in (r.0, omega (arith, r.1), r.2);
  all = λ i p lt e.
      elim (cases_lt p n) [
        | inl b ↦ g.all i p b e
        | inr past ↦
            let same : n ≡ p = omega arith in
            let no : None ≡ Option.Some i = sym here ∙ ap at same ∙ e in
            cc
      ];
}

pub gathered_more : (at : ℕ → Option ℕ) → ((i p q : ℕ) → at p ≡ Some i → at q ≡ Some i → p ≡ q) → (n : ℕ) (xs : List ℕ) (o : Option ℕ) → at n ≡ o → IsGathered at n xs → IsGathered at (n + 1) (xs ++ option_to_list o)
gathered_more at once n xs None here g = subst (λ ys. IsGathered at (n + 1) ys) (sym (append-nil xs)) (gathered_nothing at n xs here g)
gathered_more at once n xs (Some x) here g = gathered_found at once n xs x here g

-- with one item more, and sorted
pub sorted_reached : (holders : List (Option ℕ)) (seen : List Bool) (item n : ℕ) (xs ys : List ℕ) → IsGathered (reached_at holders seen) n xs → length holders ≤ n → ¬ IsPlaced holders item → IsPermutation (xs ++ item ∷ []) ys → IsSorted nat_cmp ys → AreReached holders seen item ys
sorted_reached holders seen item n xs ys g end unplaced permuted sorted =
    let apart = all_pairs_push (λ x y. x ≢ y) xs item g.apart
    (λ k d b e. let r = g.only (get_or xs k d) (Contains-get_or xs k d b) in
    unplaced (r.0, (reached_held holders seen r.0 item (r.2 ∙ ap Some e)).1))
    in
    record {
      rising = IsStrictlyIncreasing-from_distinct ys (IsNonDecreasingBy-from_sort (λ x. x) ys sorted) (IsDistinct-IsPermutation eqb nat_eq_equiv.symm (xs ++ item ∷ []) ys permuted (IsDistinct-from_AllPairs Decides-eqb (xs ++ item ∷ []) apart));
      itself = Contains-permutation (xs ++ item ∷ []) ys item permuted (Contains-push xs item);
      all = λ i p e.
          let b = holds_below holders i p (reached_held holders seen p i e).1 in
          Contains-permutation (xs ++ item ∷ []) ys i permuted (Contains-append_left xs (item ∷ []) i (g.all i p (omega (arith, b)) e));
      only = λ i h.
          elim (Contains-push_cases xs item i (Contains-permutation ys (xs ++ item ∷ []) i (IsPermutation-sym (xs ++ item ∷ []) ys permuted) h)) [
            | inl a ↦ let r = g.only i a in inr (r.0, r.2)
            | inr e ↦ inl (sym e)
          ];
    }
