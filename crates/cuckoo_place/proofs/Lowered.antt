-- The last item's place is lowered, and the places stay the least.
use Rattle.std.proofs.Common.{◌≡◌, ℕ, ◌+◌, ◌<◌, List, [], ◌∷◌, ◌++◌, length, get_or, set, Option, None, ap, sym, ◌∙◌, subst, arith, ◌⊎◌, inl, inr}
use Rattle.std.specs.List.{Contains}
use Rattle.std.proofs.lemmas.Bool.{cases_eq, cases_lt}
use Rattle.std.proofs.lemmas.List.{length-set, length_push, get_or-set_same, get_or-set_other, set-set, set-get_or, get_or_append_left, get_or_push, get_or-take}
use Rattle.cuckoo_place.specs.Placements.{positions_at, IsPlacement, IsFirstPlacement}
use Rattle.cuckoo_place.specs.Searches.{choices_of, Holds, IsPlaced, IsAssignment, IsSettled, IsFull, NoneBegins}
use Rattle.cuckoo_place.proofs.Chains.{emptied_kept, same_holder}
use Rattle.cuckoo_place.proofs.Choices.{is_fixed, fixed_choice, free_choice, choices_free, choices_other}

-- an item with a fixed place holds it
pub at_fixed : (sets : List (List ℕ)) (fixed : List ℕ) (holders : List (Option ℕ)) → IsFull sets fixed holders → (i : ℕ) → i < length fixed → Holds holders i (get_or fixed i 0)
at_fixed sets fixed holders f i b =
    let at = f.all i (omega (arith, f.few)) in
    subst (λ p. Holds holders i p) (is_fixed sets fixed i at.0 b (f.assigned.own i at.0 at.1)) at.1

-- one more fixed place, which the item holds
pub full_more : (sets : List (List ℕ)) (places : List ℕ) (holders : List (Option ℕ)) (item p : ℕ) → IsFull sets places holders → length places ≡ item → item < length sets → Contains (positions_at sets item) p → Holds holders item p → IsFull sets (places ++ p ∷ []) holders
full_more sets places holders item p f len known own held =
    let longer = length_push places p in
    let last : get_or (places ++ p ∷ []) item 0 ≡ p = get_or_push places p 0 item len in
    record {
      assigned = record {
        known = f.assigned.known;
        own = λ i q h.
            elim (cases_lt i item) [
              | inl b ↦
                  let bi : i < length places = omega (arith, len) in
                  fixed_choice sets (places ++ p ∷ []) i q (omega (arith, longer)) (is_fixed sets places i q bi (f.assigned.own i q h) ∙ sym (get_or_append_left places (p ∷ []) 0 i bi))
              | inr past ↦
                  elim (cases_eq i item) [
                    | inl e ↦
                        fixed_choice sets (places ++ p ∷ []) i q (omega (arith, longer, len, e)) (f.assigned.once i q p h (subst (λ j. Holds holders j p) (sym e) held) ∙ sym last ∙ ap (λ j. get_or (places ++ p ∷ []) j 0) (sym e))
                    | inr n ↦
                        free_choice sets (places ++ p ∷ []) i q (omega (arith, longer, len, n)) (subst (λ c. Contains c q) (choices_free sets places i (omega (arith, len))) (f.assigned.own i q h))
                  ]
            ];
        once = f.assigned.once;
      };
      all = f.all;
      few = omega (arith, longer, len);
      own = λ i b.
          elim (cases_lt i item) [
            | inl lt ↦ let bi : i < length places = omega (arith, len) in subst (λ q. Contains (positions_at sets i) q) (sym (get_or_append_left places (p ∷ []) 0 i bi)) (f.own i bi)
            | inr past ↦
                let e : item ≡ i = omega (arith, longer, len) in
                subst (λ j. Contains (positions_at sets j) (get_or (places ++ p ∷ []) j 0)) e (subst (λ q. Contains (positions_at sets item) q) (sym last) own)
          ];
    }

-- another place for an item that holds none
pub reassigned : (sets : List (List ℕ)) (fixed : List ℕ) (holders : List (Option ℕ)) (item to : ℕ) → IsAssignment (length sets) (choices_of sets fixed) holders → ¬ IsPlaced holders item → IsAssignment (length sets) (choices_of sets (set fixed item to)) holders
reassigned sets fixed holders item to a unplaced = record {
  known = a.known;
  own = λ i p h. subst (λ c. Contains c p) (choices_other sets fixed item to i (λ e. unplaced (p, subst (λ j. Holds holders j p) e h))) (a.own i p h);
  once = a.once;
}

pub own_set : (sets : List (List ℕ)) (places : List ℕ) (item to : ℕ) → item < length places → Contains (positions_at sets item) to → ((i : ℕ) → i < length places → Contains (positions_at sets i) (get_or places i 0)) → (i : ℕ) → i < length (set places item to) → Contains (positions_at sets i) (get_or (set places item to) i 0)
own_set sets places item to bi own old i b =
    elim (cases_eq i item) [
      | inl e ↦ subst (λ j. Contains (positions_at sets j) (get_or (set places item to) j 0)) (sym e) (subst (λ q. Contains (positions_at sets item) q) (sym (get_or-set_same places item to 0 bi)) own)
      | inr n ↦ subst (λ q. Contains (positions_at sets i) q) (sym (get_or-set_other places item i to 0 n)) (old i (omega (arith, length-set places item to)))
    ]

-- an item that left its place was placed again, with another fixed place
pub moved_full : (sets : List (List ℕ)) (places : List ℕ) (holders after : List (Option ℕ)) (item from to : ℕ) → IsFull sets places holders → item < length places → from < length holders → Holds holders item from → Contains (positions_at sets item) to → IsSettled (length sets) (choices_of sets (set places item to)) [] (set holders from None) after item → IsFull sets (set places item to) after
moved_full sets places holders after item from to f bi bf held own s = record {
  assigned = s.assigned;
  all = λ i b.
      elim (emptied_kept holders from i item bf held (f.all i b)) [
        | inl r ↦ s.kept i r
        | inr e ↦ subst (λ j. IsPlaced after j) (sym e) s.placed
      ];
  few = omega (arith, length-set places item to, f.few);
  own = own_set sets places item to bi own f.own;
}

pub set_back : (places : List ℕ) (item to : ℕ) → set (set places item to) item (get_or places item 0) ≡ places
set_back places item to = set-set places item to (get_or places item 0) ∙ set-get_or places item 0

-- ---- the loop over an item's positions
-- what a try to move an item leaves
abbrev pub IsTried : (sets : List (List ℕ)) (before after : List ℕ) (item to : ℕ) → Type 0
IsTried sets before after item to = ((after ≡ set before item to) × (to < get_or before item 0)) ⊎ ((after ≡ before) × (to < get_or before item 0 → NoneBegins sets (set before item to)))

pub tried_same : (sets : List (List ℕ)) (before after : List ℕ) (item to q : ℕ) → IsTried sets before after item to → set after item q ≡ set before item q
tried_same sets before after item to q t =
    elim t [
      | inl r ↦ ap (λ xs. set xs item q) r.0 ∙ set-set before item to q
      | inr r ↦ ap (λ xs. set xs item q) r.0
    ]

pub least_more : (sets : List (List ℕ)) (before after items : List ℕ) (item n to : ℕ) → item < length before → to ≡ get_or items n 0 → IsTried sets before after item to → ((k : ℕ) → k < n → get_or items k 0 < get_or before item 0 → NoneBegins sets (set before item (get_or items k 0))) → (k : ℕ) → k < n + 1 → get_or items k 0 < get_or after item 0 → NoneBegins sets (set after item (get_or items k 0))
least_more sets before after items item n to bi at t old k lt low =
    subst (λ xs. NoneBegins sets xs) (sym (tried_same sets before after item to (get_or items k 0) t))
    (elim t [
      | inl r ↦
          let now : get_or after item 0 ≡ to = ap (λ xs. get_or xs item 0) r.0 ∙ get_or-set_same before item to 0 bi in
          elim (cases_lt k n) [
            | inl b ↦ old k b (omega (arith, low, now, r.1))
            | inr past ↦
                let e : k ≡ n = omega arith in
                let same : get_or items k 0 ≡ to = ap (λ j. get_or items j 0) e ∙ sym at in
                absurd (omega (arith, low, now, same))
          ]
      | inr r ↦
          let now : get_or after item 0 ≡ get_or before item 0 = ap (λ xs. get_or xs item 0) r.0 in
          elim (cases_lt k n) [
            | inl b ↦ old k b (omega (arith, low, now))
            | inr past ↦
                let e : k ≡ n = omega arith in
                let same : to ≡ get_or items k 0 = at ∙ ap (λ j. get_or items j 0) (sym e) in
                subst (λ q. NoneBegins sets (set before item q)) same (r.1 (omega (arith, low, now, same)))
          ]
    ])

-- ---- the loop over the items
-- no placement is below these places where it first differs from them
abbrev pub NoneBelow : List (List ℕ) → List ℕ → Type 0
NoneBelow sets places = (others : List ℕ) (k : ℕ) → IsPlacement sets others → k < length places → ((i : ℕ) → i < k → get_or others i 0 ≡ get_or places i 0) → get_or others k 0 < get_or places k 0 → ⊥

pub none_below_more : (sets : List (List ℕ)) (places after : List ℕ) (item p : ℕ) → length places ≡ item → length after ≡ item + 1 → item < length sets → ((i : ℕ) → i < item → get_or after i 0 ≡ get_or (places ++ p ∷ []) i 0) → ((q : ℕ) → Contains (positions_at sets item) q → q < get_or after item 0 → NoneBegins sets (set after item q)) → NoneBelow sets places → NoneBelow sets after
none_below_more sets places after item p len longer known kept least old others k pl b agree low =
    let same : (i : ℕ) → i < item → get_or after i 0 ≡ get_or places i 0 = λ i lt. kept i lt ∙ get_or_append_left places (p ∷ []) 0 i (omega (arith, len)) in
    elim (cases_lt k item) [
      | inl lt ↦ old others k pl (omega (arith, len)) (λ i h. agree i h ∙ same i (omega arith)) (let e = same k lt in omega (arith, low, e))
      | inr past ↦
          let e : k ≡ item = omega (arith, longer) in
          let q : ℕ = get_or others item 0 in
          let low_here : get_or others item 0 < get_or after item 0 = subst (λ j. get_or others j 0 < get_or after j 0) e low in
          least (get_or others item 0) (pl.own item known) low_here others pl
          (λ i h.
          elim (cases_eq i item) [
            | inl x ↦ ap (λ j. get_or others j 0) x ∙ sym (get_or-set_same after item (get_or others item 0) 0 (omega (arith, longer))) ∙ ap (λ j. get_or (set after item (get_or others item 0)) j 0) (sym x)
            | inr n ↦ agree i (omega (arith, h, length-set after item (get_or others item 0), longer, e, n)) ∙ sym (get_or-set_other after item i (get_or others item 0) 0 n)
          ])
    ]

-- all items have fixed places
pub first_found : (sets : List (List ℕ)) (places : List ℕ) (holders : List (Option ℕ)) → IsFull sets places holders → length places ≡ length sets → NoneBelow sets places → IsFirstPlacement sets places
first_found sets places holders f len none = record {
  placement = record {
    one_each = len;
    own = λ i b. f.own i (omega (arith, len));
    apart = λ i j lt b e.
        let hi = at_fixed sets places holders f i (omega (arith, len)) in
        let hj = at_fixed sets places holders f j (omega (arith, len)) in
        let same = same_holder holders (get_or places j 0) i j (subst (λ p. Holds holders i p) e hi) hj in
        absurd (omega (arith, same));
  };
  least = λ others pl below.
      none others below.0 pl below.1
      (λ i lt. sym (get_or-take below.0 others i 0 lt) ∙ ap (λ xs. get_or xs i 0) below.2 ∙ get_or-take below.0 places i 0 lt)
      below.3;
}
