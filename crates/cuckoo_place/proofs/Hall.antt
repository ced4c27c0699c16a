-- Hall's condition: what a failed search has reached are items whose positions together are fewer than they.
use Rattle.std.proofs.Common.{◌≡◌, ◌≢◌, ℕ, zero, suc, ◌<◌, Bool, true, false, List, [], ◌∷◌, ◌++◌, length, get_or, map, eqb, Option, None, Some, unwrap_or, refl, ap, sym, ◌∙◌, subst, arith, ◌⊎◌, inl, inr}
use Rattle.std.specs.List.{Contains, flat_map}
use Rattle.std.specs.Set.{distinct_count}
use Rattle.std.proofs.lemmas.Bool.{cases_lt}
use Rattle.std.proofs.lemmas.List.{length-map, get_or_past}
use Rattle.std.proofs.lemmas.List.Elements.{Contains-append_left, Contains-push, Contains-push_cases, Contains-get_or}
use Rattle.std.proofs.lemmas.List.Quantifiers.{all_pairs_push}
use Rattle.cuckoo_place.specs.Searches.{Holds, IsPlaced, IsAssignment, IsSeen, AreSeen, IsStuck}
use Rattle.cuckoo_place.proofs.Distinct.{AreApart, pigeonhole, count_le, contains_here, contains_there, contains_cases, contains_map, contains_mapped, contains_flat, apart_cons, apart_map}

-- ---- the visited positions, as a list
more : Bool → ℕ → List ℕ → List ℕ
more true k xs = xs ++ k ∷ []
more false k xs = xs

visited : List Bool → ℕ → List ℕ
visited seen zero = []
visited seen (suc k) = more (get_or seen k false) k (visited seen k)

more_has : (b : Bool) (k : ℕ) (xs : List ℕ) (p : ℕ) → Contains xs p → Contains (more b k xs) p
unfolding more
more_has true k xs p h = Contains-append_left xs (k ∷ []) p h
more_has false k xs p h = h

more_new : (b : Bool) (k : ℕ) (xs : List ℕ) → b ≡ true → Contains (more b k xs) k
unfolding more
more_new true k xs e = Contains-push xs k
more_new false k xs e = cc

more_cases : (b : Bool) (k : ℕ) (xs : List ℕ) (p : ℕ) → Contains (more b k xs) p → Contains xs p ⊎ ((k ≡ p) × (b ≡ true))
unfolding more
more_cases true k xs p h = elim (Contains-push_cases xs k p h) [ inl a ↦ inl a | inr e ↦ inr (e, refl) ]
more_cases false k xs p h = inl h

more_apart : (b : Bool) (k : ℕ) (xs : List ℕ) → ((p : ℕ) → Contains xs p → p < k) → AreApart xs → AreApart (more b k xs)
unfolding more
more_apart true k xs below old =
    all_pairs_push (λ x y. x ≢ y) xs k old (λ i d h e. let b = below _ (Contains-get_or xs i d h) in absurd (omega (arith, b, e)))
more_apart false k xs below old = old

visited_is : (seen : List Bool) (k p : ℕ) → Contains (visited seen k) p → (p < k) × IsSeen seen p
unfolding visited
visited_is seen zero p h = absurd (omega (arith, h.1))
visited_is seen (suc k) p h =
    elim (more_cases (get_or seen k false) k (visited seen k) p h) [
      | inl a ↦ let r = visited_is seen k p a in (omega (arith, r.0), r.1)
      | inr e ↦ (omega (arith, e.0), let P : ℕ → Type 0 = λ q. IsSeen seen q in subst P e.0 e.1)
    ]

visited_has : (seen : List Bool) (k p : ℕ) → p < k → IsSeen seen p → Contains (visited seen k) p
unfolding visited
visited_has seen zero p lt s = absurd (omega arith)
visited_has seen (suc k) p lt s =
    elim (cases_lt p k) [
      | inl b ↦ more_has (get_or seen k false) k (visited seen k) p (visited_has seen k p b s)
      | inr past ↦
          let e : p ≡ k = omega arith in
          rw e (more_new (get_or seen k false) k (visited seen k) (rw e at s))
    ]

visited_apart : (seen : List Bool) (k : ℕ) → AreApart (visited seen k)
unfolding visited
visited_apart seen zero = λ i j d lt below. absurd (omega arith)
visited_apart seen (suc k) = more_apart (get_or seen k false) k (visited seen k) (λ p h. (visited_is seen k p h).0) (visited_apart seen k)

-- a visited position is one of the table
pub seen_below : (seen : List Bool) (p : ℕ) → IsSeen seen p → p < length seen
seen_below seen p s =
    elim (cases_lt p (length seen)) [
      | inl b ↦ b
      | inr past ↦ let e = get_or_past seen p false past in cc
    ]

-- the holder of a position, where it has one
abbrev holder_of : List (Option ℕ) → ℕ → ℕ
holder_of holders p = unwrap_or (get_or holders p None) 0

module _ (count : ℕ) (choices : ℕ → List ℕ) (holders : List (Option ℕ)) (seen : List Bool) (item : ℕ) where
  -- the item that has no place, and the holders of the visited positions
  pub crew : List ℕ
  crew = item ∷ map (holder_of holders) (visited seen (length seen))

  length_crew : length crew ≡ suc (length (visited seen (length seen)))
  unfolding crew
  length_crew = ap suc (length-map (visited seen (length seen)) (holder_of holders))

  module _ (assigned : IsAssignment count choices holders) (known : item < count) (unplaced : ¬ IsPlaced holders item) (nowhere : AreSeen seen (choices item)) (stuck : (p : ℕ) → IsSeen seen p → IsStuck choices holders seen p) where
    stuck_holder : (p : ℕ) (s : IsSeen seen p) → holder_of holders p ≡ (stuck p s).holder
    stuck_holder p s = ap (λ o. unwrap_or o 0) (stuck p s).holds

    holds_it : (p : ℕ) → IsSeen seen p → Holds holders (holder_of holders p) p
    holds_it p s = (stuck p s).holds ∙ ap Some (sym (stuck_holder p s))

    is_visited : (p : ℕ) → Contains (visited seen (length seen)) p → IsSeen seen p
    is_visited p h = (visited_is seen (length seen) p h).1

    crew_cases : (i : ℕ) → Contains crew i → (item ≡ i) ⊎ ((p : ℕ) × IsSeen seen p × (holder_of holders p ≡ i))
    unfolding crew
    crew_cases i h =
        elim (contains_cases item _ i h) [
          | inl e ↦ inl e
          | inr r ↦ let m = contains_map (holder_of holders) (visited seen (length seen)) i r in inr (m.0, is_visited m.0 m.1, m.2)
        ]

    pub crew_held : (i : ℕ) → Contains crew i → (item ≡ i) ⊎ ((p : ℕ) × IsSeen seen p × Holds holders i p)
    crew_held i h =
        elim (crew_cases i h) [
          | inl e ↦ inl e
          | inr r ↦ inr (r.0, r.1, subst (λ j. Holds holders j r.0) r.2 (holds_it r.0 r.1))
        ]

    pub crew_item : Contains crew item
    unfolding crew
    crew_item = contains_here item _

    -- whoever holds a visited position is one of them
    pub crew_has : (i p : ℕ) → IsSeen seen p → Holds holders i p → Contains crew i
    unfolding crew
    crew_has i p s h =
        let e : holder_of holders p ≡ i = ap (λ o. unwrap_or o 0) h in
        contains_there item _ i (subst (λ j. Contains (map (holder_of holders) (visited seen (length seen))) j) e (contains_mapped (holder_of holders) _ p (visited_has seen (length seen) p (seen_below seen p s) s)))

    crew_seen : (i : ℕ) → Contains crew i → AreSeen seen (choices i)
    crew_seen i h =
        elim (crew_cases i h) [
          | inl e ↦ subst (λ j. AreSeen seen (choices j)) e nowhere
          | inr r ↦ subst (λ j. AreSeen seen (choices j)) (sym (stuck_holder r.0 r.1) ∙ r.2) (stuck r.0 r.1).nowhere
        ]

    crew_known : (i : ℕ) → Contains crew i → i < count
    crew_known i h =
        elim (crew_cases i h) [
          | inl e ↦ omega arith
          | inr r ↦ let b = assigned.known (holder_of holders r.0) r.0 (holds_it r.0 r.1) in omega (arith, b, r.2)
        ]

    crew_apart : AreApart crew
    unfolding crew
    crew_apart =
        apart_cons item _
        (λ y h e. let m = contains_map (holder_of holders) (visited seen (length seen)) y h in
        unplaced (m.0, subst (λ j. Holds holders j m.0) (m.2 ∙ sym e) (holds_it m.0 (is_visited m.0 m.1))))
        (apart_map (holder_of holders) (visited seen (length seen))
        (λ x y hx hy e. assigned.once (holder_of holders x) x y (holds_it x (is_visited x hx)) (subst (λ j. Holds holders j y) (sym e) (holds_it y (is_visited y hy))))
        (visited_apart seen (length seen)))

    -- no places for all items, each at one of its choices and no two at the same
    pub no_room : (f : ℕ → ℕ) → ((i : ℕ) → i < count → Contains (choices i) (f i)) → ((i j : ℕ) → i < count → j < count → f i ≡ f j → i ≡ j) → ⊥
    no_room f own apart =
        let short = pigeonhole (map f crew) (visited seen (length seen))
        (apart_map f crew (λ x y hx hy e. apart x y (crew_known x hx) (crew_known y hy) e) crew_apart)
        (λ q h. let m = contains_map f crew q h in
        let s = subst (λ p. IsSeen seen p) m.2 (crew_seen m.0 m.1 (f m.0) (own m.0 (crew_known m.0 m.1))) in
        visited_has seen (length seen) q (seen_below seen q s) s)
        in absurd (omega (arith, short, length_crew, length-map crew f))

    -- items that are just these have too few positions together
    pub crew_crowded : (items : List ℕ) → ((i : ℕ) → Contains crew i → Contains items i) → ((i : ℕ) → Contains items i → Contains crew i) → distinct_count eqb (flat_map choices items) < length items
    crew_crowded items all only =
        let few = count_le (flat_map choices items) (visited seen (length seen))
        (λ q h. let m = contains_flat choices items q h in
        let s = crew_seen m.0 (only m.0 m.1) q m.2 in
        visited_has seen (length seen) q (seen_below seen q s) s)
        in let many = pigeonhole crew items crew_apart all
        in omega (arith, few, many, length_crew)
