-- One move of a chain: a position is vacated, or an item takes it.
use Rattle.std.proofs.Common.{◌≡◌, ℕ, zero, suc, ◌+◌, ◌<◌, ◌≤◌, Bool, true, false, List, [], ◌∷◌, length, get_or, set, Option, None, Some, MatchBool, replicate, refl, ap, sym, ◌∙◌, subst, arith, ◌⊎◌, inl, inr, if◌then◌else◌}
use Rattle.std.specs.List.{Contains}
use Rattle.std.proofs.lemmas.Bool.{cases_eq, cases_lt}
use Rattle.std.proofs.lemmas.List.{get_or-set_same, get_or-set_other, set-set, set-get_or, get_or_default, get_or_past, get_or-replicate, length-replicate}
use Rattle.std.proofs.lemmas.List.Elements.{Contains-get_or}
use Rattle.cuckoo_place.specs.Searches.{Holds, IsPlaced, IsAssignment, IsSeen, IsSeenStill, AreSeen, AreStuck, IsStuck, IsVacated, IsSettled, IsNotVacated, IsNotSettled, IsRefused, unseen}

-- ---- visited positions
pub still_set : (seen : List Bool) (p : ℕ) → p < length seen → IsSeenStill seen (set seen p true)
still_set seen p b q s =
    elim (cases_eq q p) [
      | inl e ↦ rw e (get_or-set_same seen p true false b)
      | inr n ↦ get_or-set_other seen p q true false n ∙ s
    ]

pub seen_set : (seen : List Bool) (p q : ℕ) → IsSeen (set seen p true) q → (q ≡ p → ⊥) → IsSeen seen q
seen_set seen p q s n = sym (get_or-set_other seen p q true false n) ∙ s

unseen_one : (x y : Bool) → (x ≡ true → y ≡ true) → (if y then 0 else 1) ≤ (if x then 0 else 1)
unseen_one true true h = omega arith
unseen_one true false h = let e = h refl in cc
unseen_one false true h = omega arith
unseen_one false false h = omega arith

-- as more is visited, less is not
pub unseen_falls : (before after : List Bool) → length after ≡ length before → IsSeenStill before after → unseen after ≤ unseen before
unfolding unseen
unseen_falls [] [] same still = omega arith
unseen_falls [] (y ∷ ys) same still = absurd (omega arith)
unseen_falls (x ∷ xs) [] same still = absurd (omega arith)
unseen_falls (x ∷ xs) (y ∷ ys) same still =
    omega (arith, unseen_one x y (still 0), unseen_falls xs ys (omega arith) (λ p s. still (suc p) s))

-- and by one where a position is visited
pub unseen_set : (seen : List Bool) (p : ℕ) → p < length seen → get_or seen p false ≡ false → unseen (set seen p true) + 1 ≡ unseen seen
unfolding unseen
unseen_set [] p b new = absurd (omega arith)
unseen_set (true ∷ xs) zero b new = cc
unseen_set (false ∷ xs) zero b new = omega arith
unseen_set (x ∷ xs) (suc p) b new = omega (arith, unseen_set xs p (omega arith) new)

-- ---- holders
-- who holds what after one position changed hands
pub holds_set : (holders : List (Option ℕ)) (p : ℕ) (o : Option ℕ) (i q : ℕ) → p < length holders → Holds (set holders p o) i q → ((q ≡ p) × (o ≡ Some i)) ⊎ ((q ≡ p → ⊥) × Holds holders i q)
holds_set holders p o i q b h =
    elim (cases_eq q p) [
      | inl e ↦ inl (e, sym (get_or-set_same holders p o None b) ∙ subst (λ r. Holds (set holders p o) i r) e h)
      | inr n ↦ inr (n, sym (get_or-set_other holders p q o None n) ∙ h)
    ]

pub holds_new : (holders : List (Option ℕ)) (p i : ℕ) → p < length holders → Holds (set holders p (Some i)) i p
holds_new holders p i b = get_or-set_same holders p (Some i) None b

pub holds_other : (holders : List (Option ℕ)) (p : ℕ) (o : Option ℕ) (i q : ℕ) → (q ≡ p → ⊥) → Holds holders i q → Holds (set holders p o) i q
holds_other holders p o i q n h = get_or-set_other holders p q o None n ∙ h

-- whoever holds a position that another item took, or that was emptied, held it before
pub holds_emptied : (holders : List (Option ℕ)) (p i q : ℕ) → p < length holders → Holds (set holders p None) i q → (q ≡ p → ⊥) × Holds holders i q
holds_emptied holders p i q b h = elim (holds_set holders p None i q b h) [ inl e ↦ cc | inr r ↦ r ]

pub same_holder : (holders : List (Option ℕ)) (p i j : ℕ) → Holds holders i p → Holds holders j p → i ≡ j
same_holder holders p i j hi hj = cc

-- an assignment with one position emptied
pub emptied : (count : ℕ) (choices : ℕ → List ℕ) (holders : List (Option ℕ)) (p : ℕ) → p < length holders → IsAssignment count choices holders → IsAssignment count choices (set holders p None)
emptied count choices holders p b a = record {
  known = λ i q h. a.known i q (holds_emptied holders p i q b h).1;
  own = λ i q h. a.own i q (holds_emptied holders p i q b h).1;
  once = λ i q r h k. a.once i q r (holds_emptied holders p i q b h).1 (holds_emptied holders p i r b k).1;
}

-- the item that held it has no place then
pub emptied_free : (count : ℕ) (choices : ℕ → List ℕ) (holders : List (Option ℕ)) (p other : ℕ) → p < length holders → IsAssignment count choices holders → Holds holders other p → ¬ IsPlaced (set holders p None) other
emptied_free count choices holders p other b a held placed =
    let r = holds_emptied holders p other placed.0 b placed.1 in
    r.0 (a.once other placed.0 p r.1 held)

-- the others keep theirs
pub emptied_kept : (holders : List (Option ℕ)) (p i other : ℕ) → p < length holders → Holds holders other p → IsPlaced holders i → IsPlaced (set holders p None) i ⊎ (i ≡ other)
emptied_kept holders p i other b held placed =
    elim (cases_eq placed.0 p) [
      | inl e ↦ inr (same_holder holders p i other (subst (λ r. Holds holders i r) e placed.1) held)
      | inr n ↦ inl (placed.0, holds_other holders p None i placed.0 n placed.1)
    ]

-- ---- vacating
-- a position that is free already
pub vacant : (count : ℕ) (choices : ℕ → List ℕ) (seen : List Bool) (holders : List (Option ℕ)) (p : ℕ) → IsAssignment count choices holders → get_or holders p None ≡ None → IsVacated count choices seen holders holders p
vacant count choices seen holders p a free = record {
  assigned = a;
  free = free;
  kept = λ i h. h;
  only = λ i h. h;
  untouched = λ q s n. refl;
}

-- the holder found another place
pub moved_on : (count : ℕ) (choices : ℕ → List ℕ) (seen : List Bool) (holders after : List (Option ℕ)) (p other : ℕ) → p < length holders → IsSeen seen p → Holds holders other p → IsSettled count choices seen (set holders p None) after other → IsVacated count choices seen holders after p
moved_on count choices seen holders after p other b visited held s = record {
  assigned = s.assigned;
  free = s.untouched p visited ∙ get_or-set_same holders p None None b;
  kept = λ i h.
      elim (emptied_kept holders p i other b held h) [
        | inl r ↦ s.kept i r
        | inr e ↦ subst (λ j. IsPlaced after j) (sym e) s.placed
      ];
  only = λ i h.
      elim (s.only i h) [
        | inl r ↦ (r.0, (holds_emptied holders p i r.0 b r.1).1)
        | inr e ↦ (p, subst (λ j. Holds holders j p) (sym e) held)
      ];
  untouched = λ q seen_q n. s.untouched q seen_q ∙ get_or-set_other holders p q None None n;
}

-- it found none, and is back
pub back_again : (holders : List (Option ℕ)) (p other : ℕ) → Holds holders other p → set (set holders p None) p (Some other) ≡ holders
back_again holders p other held = set-set holders p None (Some other) ∙ ap (set holders p) (sym held) ∙ set-get_or holders p None

pub stays : (choices : ℕ → List ℕ) (holders after : List (Option ℕ)) (seen seen_after : List Bool) (p other : ℕ) → p < length holders → Holds holders other p → IsNotSettled choices (set holders p None) after seen seen_after other → IsNotVacated choices holders (set after p (Some other)) seen seen_after p
stays choices holders after seen seen_after p other b held s = record {
  same = ap (λ hs. set hs p (Some other)) s.same ∙ back_again holders p other held;
  stuck = record { holder = other; holds = held; nowhere = s.nowhere };
  others = λ q h.
      elim (s.others q h) [
        | inl r ↦ inl r
        | inr t ↦ inr (record { holder = t.holder; holds = (holds_emptied holders p t.holder q b t.holds).1; nowhere = t.nowhere })
      ];
}

-- ---- settling
-- an item takes a position that was vacated
pub taken : (count : ℕ) (choices : ℕ → List ℕ) (seen seen_now : List Bool) (holders after : List (Option ℕ)) (p item : ℕ) → p < length after → item < count → Contains (choices item) p → ¬ IsPlaced holders item → IsSeenStill seen seen_now → (IsSeen seen p → ⊥) → IsVacated count choices seen_now holders after p → IsSettled count choices seen holders (set after p (Some item)) item
taken count choices seen seen_now holders after p item b known own unplaced still new v =
    let absent : (q : ℕ) → Holds after item q → ⊥ = λ q h. unplaced (v.only item (q, h)) in
    let was_free : (i q : ℕ) → Holds after i q → q ≡ p → ⊥ = λ i q h e. let h' = subst (λ r. Holds after i r) e h in let f = v.free in cc in
    record {
      assigned = record {
        known = λ i q h. elim (holds_set after p (Some item) i q b h) [ inl r ↦ known_as item i known r.1 | inr r ↦ v.assigned.known i q r.1 ];
        own = λ i q h. elim (holds_set after p (Some item) i q b h) [ inl r ↦ own_as item i p q own r.0 r.1 | inr r ↦ v.assigned.own i q r.1 ];
        once = λ i q r hq hr.
            elim (holds_set after p (Some item) i q b hq) [
              | inl x ↦
                  elim (holds_set after p (Some item) i r b hr) [
                    | inl y ↦ x.0 ∙ sym y.0
                    | inr y ↦ absurd (absent r (held_as item i r x.1 y.1))
                  ]
              | inr x ↦
                  elim (holds_set after p (Some item) i r b hr) [
                    | inl y ↦ absurd (absent q (held_as item i q y.1 x.1))
                    | inr y ↦ v.assigned.once i q r x.1 y.1
                  ]
            ];
      };
      placed = (p, holds_new after p item b);
      kept = λ i h. let w = v.kept i h in (w.0, holds_other after p (Some item) i w.0 (was_free i w.0 w.1) w.1);
      only = λ i h.
          elim (holds_set after p (Some item) i h.0 b h.1) [
            | inl r ↦ inr (sym (some_same item i r.1))
            | inr r ↦ inl (v.only i (h.0, r.1))
          ];
      untouched = λ q s.
          let n : q ≡ p → ⊥ = λ e. new (subst (λ r. IsSeen seen r) e s) in
          get_or-set_other after p q (Some item) None n ∙ v.untouched q (still q s) n;
    } where
      some_same : (x y : ℕ) → Option.Some x ≡ Some y → x ≡ y
      some_same x y e = cc

      known_as : (x y : ℕ) → x < count → Option.Some x ≡ Some y → y < count
      known_as x y h e = subst (λ z. z < count) (some_same x y e) h

      own_as : (x y p q : ℕ) → Contains (choices x) p → q ≡ p → Option.Some x ≡ Some y → Contains (choices y) q
      own_as x y p q h eq e = subst (λ z. Contains (choices z) q) (some_same x y e) (subst (λ r. Contains (choices x) r) (sym eq) h)

      held_as : (x y q : ℕ) → Option.Some x ≡ Some y → Holds after y q → Holds after x q
      held_as x y q e h = subst (λ z. Holds after z q) (sym (some_same x y e)) h

-- a position could not be vacated, and the search goes on
pub goes_on : (choices : ℕ → List ℕ) (holders after : List (Option ℕ)) (start seen seen_after : List Bool) (p : ℕ) → p < length seen → AreStuck choices holders start seen → IsSeenStill (set seen p true) seen_after → IsNotVacated choices holders after (set seen p true) seen_after p → AreStuck choices holders start seen_after
goes_on choices holders after start seen seen_after p b stuck still v q s =
    elim (v.others q s) [
      | inl r ↦
          elim (cases_eq q p) [
            | inl e ↦ inr (subst (λ x. IsStuck choices holders seen_after x) (sym e) v.stuck)
            | inr n ↦
                elim (stuck q (seen_set seen p q r n)) [
                  | inl x ↦ inl x
                  | inr x ↦ inr (record { holder = x.holder; holds = x.holds; nowhere = λ c h. still c (still_set seen p b c (x.nowhere c h)) })
                ]
          ]
      | inr r ↦ inr r
    ]

-- ---- the loop over an item's choices
pub is_choice : (choices items : List ℕ) (k p : ℕ) → items ≡ choices → k < length items → p ≡ get_or items k 0 → Contains choices p
is_choice choices items k p same b at = subst (λ xs. Contains xs p) same (subst (λ q. Contains items q) (sym at) (Contains-get_or items k 0 b))

pub passed_more : (seen after : List Bool) (items : List ℕ) (n p : ℕ) → ((k : ℕ) → k < n → IsSeen seen (get_or items k 0)) → IsSeenStill seen after → p ≡ get_or items n 0 → IsSeen after p → (k : ℕ) → k < n + 1 → IsSeen after (get_or items k 0)
passed_more seen after items n p passed still at here k lt =
    elim (cases_lt k n) [
      | inl b ↦ still _ (passed k b)
      | inr past ↦
          let e : k ≡ n = omega arith in
          subst (λ q. IsSeen after q) (at ∙ ap (λ j. get_or items j 0) (sym e)) here
    ]

pub all_passed : (seen : List Bool) (choices items : List ℕ) (n : ℕ) → items ≡ choices → length items ≤ n → ((k : ℕ) → k < n → IsSeen seen (get_or items k 0)) → AreSeen seen choices
all_passed seen choices items n same end passed =
    subst (λ xs. AreSeen seen xs) same
    (λ p h. subst (λ q. IsSeen seen q) (get_or_default items h.0 0 p h.1 ∙ h.2) (passed h.0 (omega (arith, h.1))))

-- ---- a search that begins with nothing visited
pub nothing_seen : (n p : ℕ) → IsSeen (replicate n false) p → ⊥
nothing_seen n p s =
    elim (cases_lt p n) [
      | inl b ↦ let e = get_or-replicate n p false false b in cc
      | inr past ↦ let e = get_or_past (replicate n false) p false (omega (arith, length-replicate n false)) in cc
    ]

pub anew : (count : ℕ) (choices : ℕ → List ℕ) (seen seen_after : List Bool) (before after : List (Option ℕ)) (item : ℕ) (r : Bool) → ((p : ℕ) → IsSeen seen p → ⊥) → MatchBool r (IsSettled count choices seen before after item) (IsNotSettled choices before after seen seen_after item) → MatchBool r (IsSettled count choices [] before after item) (IsRefused choices before after seen_after item)
anew count choices seen seen_after before after item true none s = record { assigned = s.assigned; placed = s.placed; kept = s.kept; only = s.only; untouched = λ q h. cc }
anew count choices seen seen_after before after item false none s = record { same = s.same; nowhere = s.nowhere; stuck = λ p h. elim (s.others p h) [ inl x ↦ absurd (none p x) | inr x ↦ x ] }
