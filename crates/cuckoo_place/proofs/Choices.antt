-- The choices of items of which the first have fixed places, and what a placement says.
use Rattle.std.proofs.Common.{◌≡◌, ℕ, ◌<◌, ◌≤◌, Bool, true, false, List, [], ◌∷◌, length, get_or, set, replicate, map, eqb, Option, None, refl, ap, sym, ◌∙◌, subst, arith, inl, inr, if◌then◌else◌, Decides}
use Rattle.std.specs.Prelude.{nat_lt}
use Rattle.std.specs.List.{All, Contains, flat_map}
use Rattle.std.specs.Set.{distinct_count}
use Rattle.std.proofs.lemmas.Bool.{cases_lt}
use Rattle.std.proofs.lemmas.Bool.Decides.{Decides-ltb}
use Rattle.std.proofs.lemmas.List.{length-map, length-set, length-replicate, get_or-set_other, get_or_past, get_or-replicate}
use Rattle.std.proofs.lemmas.List.Elements.{All-contains, All-get_or, Contains-get_or}
use Rattle.std.proofs.lemmas.Map.Keys.{below_from_sorted, sorted_from_strictly_increasing}
use Rattle.cuckoo_place.specs.Placements.{positions_at, IsPlacement, IsCrowded, HasNoPlacement}
use Rattle.cuckoo_place.specs.Searches.{choices_of, AreChoicesBelow, IsPlaced, IsAssignment, IsSeen, AreSeen, IsStuck, AreReached, IsRefused, NoneBegins}
use Rattle.cuckoo_place.proofs.Distinct.{AreApart, le_count, apart_map, contains_map, contains_cases, flat_contains}
use Rattle.cuckoo_place.proofs.Hall.{crew, crew_has, crew_held, crew_item, crew_crowded, no_room}
use Rattle.cuckoo_place.proofs.Gathered.{reached_held, held_reached}

is_true : (b : Bool) (P : Type 0) → Decides b P → P → b ≡ true
is_true b P d h = d.1 h

is_false : (b : Bool) (m n : ℕ) → Decides b (m < n) → n ≤ m → b ≡ false
is_false true m n d h = let lt : m < n = d.0 refl in absurd (omega arith)
is_false false m n d h = refl

-- an item with a fixed place has that choice alone
pub choices_fixed : (sets : List (List ℕ)) (fixed : List ℕ) (i : ℕ) → i < length fixed → choices_of sets fixed i ≡ get_or fixed i 0 ∷ []
choices_fixed sets fixed i b = ap (λ t. if t then get_or fixed i 0 ∷ [] else positions_at sets i) (is_true (nat_lt i (length fixed)) _ (Decides-ltb i (length fixed)) b)

-- another has its set
pub choices_free : (sets : List (List ℕ)) (fixed : List ℕ) (i : ℕ) → length fixed ≤ i → choices_of sets fixed i ≡ positions_at sets i
choices_free sets fixed i past = ap (λ t. if t then get_or fixed i 0 ∷ [] else positions_at sets i) (is_false (nat_lt i (length fixed)) i (length fixed) (Decides-ltb i (length fixed)) past)

pub choices_none : (sets : List (List ℕ)) → choices_of sets [] ≡ positions_at sets
choices_none sets = λ t i. choices_free sets [] i (omega arith) t

-- a fixed place is what the item holds
pub is_fixed : (sets : List (List ℕ)) (fixed : List ℕ) (i p : ℕ) → i < length fixed → Contains (choices_of sets fixed i) p → p ≡ get_or fixed i 0
is_fixed sets fixed i p b h =
    elim (contains_cases (get_or fixed i 0) [] p (subst (λ c. Contains c p) (choices_fixed sets fixed i b) h)) [
      | inl e ↦ sym e
      | inr r ↦ absurd (omega (arith, r.1))
    ]

pub fixed_choice : (sets : List (List ℕ)) (fixed : List ℕ) (i p : ℕ) → i < length fixed → p ≡ get_or fixed i 0 → Contains (choices_of sets fixed i) p
fixed_choice sets fixed i p b e = subst (λ c. Contains c p) (sym (choices_fixed sets fixed i b)) (0, omega arith, sym e)

pub free_choice : (sets : List (List ℕ)) (fixed : List ℕ) (i p : ℕ) → length fixed ≤ i → Contains (positions_at sets i) p → Contains (choices_of sets fixed i) p
free_choice sets fixed i p past h = subst (λ c. Contains c p) (sym (choices_free sets fixed i past)) h

pub choices_below : (n : ℕ) (sets : List (List ℕ)) (fixed : List ℕ) → AreChoicesBelow n (positions_at sets) → ((i : ℕ) → i < length fixed → Contains (positions_at sets i) (get_or fixed i 0)) → AreChoicesBelow n (choices_of sets fixed)
choices_below n sets fixed below own i p h =
    elim (cases_lt i (length fixed)) [
      | inl b ↦ below i p (subst (λ q. Contains (positions_at sets i) q) (sym (is_fixed sets fixed i p b h)) (own i b))
      | inr past ↦ below i p (subst (λ c. Contains c p) (choices_free sets fixed i past) h)
    ]

-- another fixed place changes no other item's choices
pub choices_other : (sets : List (List ℕ)) (fixed : List ℕ) (item to i : ℕ) → (i ≡ item → ⊥) → choices_of sets fixed i ≡ choices_of sets (set fixed item to) i
choices_other sets fixed item to i n =
    let same = length-set fixed item to in
    elim (cases_lt i (length fixed)) [
      | inl b ↦ choices_fixed sets fixed i b ∙ ap (λ x. x ∷ []) (sym (get_or-set_other fixed item i to 0 n)) ∙ sym (choices_fixed sets (set fixed item to) i (omega (arith, same)))
      | inr past ↦ choices_free sets fixed i past ∙ sym (choices_free sets (set fixed item to) i (omega (arith, same)))
    ]

-- ---- placements
pub place_once : (sets : List (List ℕ)) (places : List ℕ) → IsPlacement sets places → (i j : ℕ) → i < length sets → j < length sets → get_or places i 0 ≡ get_or places j 0 → i ≡ j
place_once sets places pl i j bi bj e =
    elim (cases_lt i j) [
      | inl lt ↦ absurd (pl.apart i j lt bj e)
      | inr past ↦
          elim (cases_lt j i) [
            | inl lt ↦ absurd (pl.apart j i lt bi (sym e))
            | inr also ↦ omega arith
          ]
    ]

-- where items are crowded there is no placement
pub crowded_unplaced : (sets : List (List ℕ)) (items : List ℕ) → IsCrowded sets items → HasNoPlacement sets
crowded_unplaced sets items c places pl =
    let f : ℕ → ℕ = λ i. get_or places i 0 in
    let known : (i : ℕ) → Contains items i → i < length sets = λ i h. All-contains (λ j. j < length sets) items i c.known h in
    let apart : AreApart items = λ i j d lt b e. let rises = below_from_sorted items i j d (sorted_from_strictly_increasing items c.rising) lt b in absurd (omega (arith, rises, e)) in
    let many = le_count (map f items) (flat_map (positions_at sets) items)
    (apart_map f items (λ x y hx hy e. place_once sets places pl x y (known x hx) (known y hy) e) apart)
    (λ q h. let m = contains_map f items q h in
    flat_contains (positions_at sets) items m.0 q m.1 (subst (λ r. Contains (positions_at sets m.0) r) m.2 (pl.own m.0 (known m.0 m.1))))
    in
    let few = c.too_many in
    omega (arith, many, few, length-map items f)

-- the items that a failed search has reached are crowded
pub crowd_found : (sets : List (List ℕ)) (holders : List (Option ℕ)) (seen : List Bool) (item : ℕ) (items : List ℕ) → IsAssignment (length sets) (choices_of sets []) holders → item < length sets → ¬ IsPlaced holders item → AreSeen seen (choices_of sets [] item) → ((p : ℕ) → IsSeen seen p → IsStuck (choices_of sets []) holders seen p) → AreReached holders seen item items → IsCrowded sets items
crowd_found sets holders seen item items a known unplaced nowhere stuck r =
    let ch = choices_of sets [] in
    let n = length sets in
    record {
      rising = r.rising;
      known = λ k d b.
          elim (r.only (get_or items k d) (Contains-get_or items k d b)) [
            | inl e ↦ omega (arith, e)
            | inr h ↦ a.known (get_or items k d) h.0 (reached_held holders seen h.0 (get_or items k d) h.1).1
          ];
      too_many = subst (λ (c : ℕ → List ℕ). distinct_count eqb (flat_map c items) < length items) (choices_none sets)
          (crew_crowded n ch holders seen item a known unplaced nowhere stuck items
          (λ i h.
          elim (crew_held n ch holders seen item a known unplaced nowhere stuck i h) [
            | inl e ↦ subst (λ j. Contains items j) e r.itself
            | inr w ↦ r.all i w.0 (held_reached holders seen w.0 i w.1 w.2)
          ])
          (λ i h.
          elim (r.only i h) [
            | inl e ↦ subst (λ j. Contains (crew n ch holders seen item) j) (sym e) (crew_item n ch holders seen item a known unplaced nowhere stuck)
            | inr w ↦ let at = reached_held holders seen w.0 i w.1 in crew_has n ch holders seen item a known unplaced nowhere stuck i w.0 at.0 at.1
          ]));
    }

-- where an item has no place beside fixed ones, no placement begins with them
pub refused_none : (sets : List (List ℕ)) (fixed : List ℕ) (holders after : List (Option ℕ)) (seen : List Bool) (item : ℕ) → IsAssignment (length sets) (choices_of sets fixed) holders → item < length sets → ¬ IsPlaced holders item → IsRefused (choices_of sets fixed) holders after seen item → NoneBegins sets fixed
refused_none sets fixed holders after seen item a known unplaced r places pl begins =
    no_room (length sets) (choices_of sets fixed) holders seen item a known unplaced r.nowhere r.stuck (λ i. get_or places i 0)
    (λ i b.
    elim (cases_lt i (length fixed)) [
      | inl lt ↦ fixed_choice sets fixed i (get_or places i 0) lt (begins i lt)
      | inr past ↦ free_choice sets fixed i (get_or places i 0) past (pl.own i b)
    ])
    (λ i j bi bj e. place_once sets places pl i j bi bj e)

pub crowd_of_refused : (sets : List (List ℕ)) (holders after : List (Option ℕ)) (seen : List Bool) (item : ℕ) (items : List ℕ) → IsAssignment (length sets) (choices_of sets []) holders → item < length sets → ¬ IsPlaced holders item → IsRefused (choices_of sets []) holders after seen item → AreReached after seen item items → IsCrowded sets items
crowd_of_refused sets holders after seen item items a known unplaced r got =
    crowd_found sets holders seen item items a known unplaced r.nowhere r.stuck (subst (λ hs. AreReached hs seen item items) r.same got)

-- ---- the start
pub sets_below : (n : ℕ) (sets : List (List ℕ)) → All (All (λ p. p < n)) sets → AreChoicesBelow n (positions_at sets)
sets_below n sets below i p h =
    elim (cases_lt i (length sets)) [
      | inl b ↦ All-contains (λ q. q < n) (positions_at sets i) p (All-get_or (All (λ q. q < n)) sets i [] b below) h
      | inr past ↦
          let none : Contains [] p = subst (λ c. Contains c p) (get_or_past sets i [] past) h in
          absurd (omega (arith, none.1))
    ]

pub none_placed : (n i : ℕ) → ¬ IsPlaced (replicate n None) i
none_placed n i placed =
    let nobody : Option ℕ = None in
    elim (cases_lt placed.0 n) [
      | inl b ↦ let no : None ≡ Option.Some i = sym (get_or-replicate n placed.0 None None b) ∙ placed.1 in cc
      | inr past ↦ let no : None ≡ Option.Some i = sym (get_or_past (replicate n None) placed.0 None (omega (arith, length-replicate n nobody))) ∙ placed.1 in cc
    ]
