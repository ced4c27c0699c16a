-- Lists of numbers without repeats, and how many different numbers a list has.
use Rattle.std.proofs.Common.{◌≡◌, ◌≢◌, ℕ, zero, suc, ◌<◌, ◌≤◌, Bool, true, false, cond, ◌||◌, List, [], ◌∷◌, length, get_or, map, eqb, refl, ap, sym, ◌∙◌, arith, ◌⊎◌, inl, inr}
use Rattle.std.specs.List.{AllPairs, AllByRecursion, Contains, IsDistinct, flat_map, list_any}
use Rattle.std.specs.Set.{unique_keys, distinct_count, is_member}
use Rattle.std.proofs.lemmas.Bool.Decides.{Decides-eqb}
use Rattle.std.proofs.lemmas.Cmp.{nat_eq_equiv}
use Rattle.std.proofs.lemmas.List.{get_or-map, length-map}
use Rattle.std.proofs.lemmas.List.Elements.{Contains-get_or, Contains-append_left, Contains-append_right, Contains-append_cases}
use Rattle.std.proofs.lemmas.Map.Keys.{IsDistinct-cons, IsDistinct-from_apart}
use Rattle.std.proofs.lemmas.Map.Made.{length-le_from_is_member, is_member-Decides, IsDistinct-from_AllPairs}
use Rattle.std.proofs.lemmas.Map.Steps.{list_any_congr}

-- no two elements are the same
abbrev pub AreApart : List ℕ → Type 0
AreApart xs = AllPairs (λ x y. x ≢ y) xs

-- a list without repeats is no longer than one that has its elements
pub pigeonhole : (xs ys : List ℕ) → AreApart xs → ((q : ℕ) → Contains xs q → Contains ys q) → length xs ≤ length ys
pigeonhole xs ys apart within =
    length-le_from_is_member nat_eq_equiv xs ys (IsDistinct-from_AllPairs Decides-eqb xs apart)
    (λ q h. (is_member-Decides Decides-eqb ys q).1 (within q ((is_member-Decides Decides-eqb xs q).0 h)))

-- ---- the different elements
or_false : (b c : Bool) → (b || c) ≡ false → (b ≡ false) × (c ≡ false)
or_false true c h = cc
or_false false c h = (refl, h)

none_passes : (p : ℕ → Bool) (ys : List ℕ) → list_any p ys ≡ false → AllByRecursion (λ y. p y ≡ false) ys
none_passes p [] h = tt
none_passes p (y ∷ ys) h = let e = or_false (p y) (list_any p ys) h in (e.0, none_passes p ys e.1)

kept_distinct : (x : ℕ) (us : List ℕ) (b : Bool) → list_any (eqb x) us ≡ b → IsDistinct eqb us → IsDistinct eqb (cond b us (x ∷ us))
kept_distinct x us true e d = d
kept_distinct x us false e d = IsDistinct-cons eqb x us (none_passes (eqb x) us e) d

dropped_member : (x q : ℕ) (us xs : List ℕ) (c : Bool) → eqb q x ≡ c → list_any (eqb x) xs ≡ true → list_any (eqb q) us ≡ list_any (eqb q) xs → list_any (eqb q) us ≡ (c || list_any (eqb q) xs)
dropped_member x q us xs true e h same = same ∙ list_any_congr nat_eq_equiv q x xs e ∙ h
dropped_member x q us xs false e h same = same

kept_member : (x q : ℕ) (us xs : List ℕ) (b : Bool) → list_any (eqb x) xs ≡ b → list_any (eqb q) us ≡ list_any (eqb q) xs → list_any (eqb q) (cond b us (x ∷ us)) ≡ (eqb q x || list_any (eqb q) xs)
kept_member x q us xs true h same = dropped_member x q us xs (eqb q x) refl h same
kept_member x q us xs false h same = ap (λ r. eqb q x || r) same

member_unique : (xs : List ℕ) (q : ℕ) → is_member eqb (unique_keys eqb xs) q ≡ is_member eqb xs q
member_unique [] q = refl
member_unique (x ∷ xs) q = kept_member x q (unique_keys eqb xs) xs (is_member eqb xs x) refl (member_unique xs q)

distinct_unique : (xs : List ℕ) → IsDistinct eqb (unique_keys eqb xs)
distinct_unique [] = IsDistinct-from_apart eqb [] (λ i j d lt below. absurd (omega arith))
distinct_unique (x ∷ xs) = kept_distinct x (unique_keys eqb xs) (is_member eqb xs x) (member_unique xs x) (distinct_unique xs)

-- a list has at most as many different elements as a list that has them
pub count_le : (xs ys : List ℕ) → ((q : ℕ) → Contains xs q → Contains ys q) → distinct_count eqb xs ≤ length ys
count_le xs ys within =
    length-le_from_is_member nat_eq_equiv (unique_keys eqb xs) ys (distinct_unique xs)
    (λ q h. (is_member-Decides Decides-eqb ys q).1 (within q ((is_member-Decides Decides-eqb xs q).0 (sym (member_unique xs q) ∙ h))))

-- a list without repeats is no longer than the different elements of one that has its elements
pub le_count : (xs ys : List ℕ) → AreApart xs → ((q : ℕ) → Contains xs q → Contains ys q) → length xs ≤ distinct_count eqb ys
le_count xs ys apart within =
    length-le_from_is_member nat_eq_equiv xs (unique_keys eqb ys) (IsDistinct-from_AllPairs Decides-eqb xs apart)
    (λ q h. member_unique ys q ∙ (is_member-Decides Decides-eqb ys q).1 (within q ((is_member-Decides Decides-eqb xs q).0 h)))

-- ---- the elements of longer lists
pub contains_here : (x : ℕ) (xs : List ℕ) → Contains (x ∷ xs) x
contains_here x xs = (0, omega arith, refl)

pub contains_there : (y : ℕ) (xs : List ℕ) (x : ℕ) → Contains xs x → Contains (y ∷ xs) x
contains_there y xs x h = (suc h.0, omega (arith, h.1), h.2)

pub contains_cases : (y : ℕ) (xs : List ℕ) (x : ℕ) → Contains (y ∷ xs) x → (y ≡ x) ⊎ Contains xs x
contains_cases y xs x (zero, b, e) = inl e
contains_cases y xs x (suc k, b, e) = inr (k, omega (arith, b), e)

pub contains_map : (f : ℕ → ℕ) (xs : List ℕ) (y : ℕ) → Contains (map f xs) y → (x : ℕ) × Contains xs x × (f x ≡ y)
contains_map f xs y h =
    let b : h.0 < length xs = omega (arith, h.1, length-map xs f) in
    (get_or xs h.0 0, Contains-get_or xs h.0 0 b, sym (get_or-map f xs h.0 0 y b) ∙ h.2)

pub contains_flat : (c : ℕ → List ℕ) (xs : List ℕ) (p : ℕ) → Contains (flat_map c xs) p → (x : ℕ) × Contains xs x × Contains (c x) p
contains_flat c [] p h = absurd (omega (arith, h.1))
contains_flat c (x ∷ xs) p h =
    elim (Contains-append_cases (c x) (flat_map c xs) p h) [
      | inl a ↦ (x, contains_here x xs, a)
      | inr b ↦ let r = contains_flat c xs p b in (r.0, contains_there x xs r.0 r.1, r.2)
    ]

pub flat_contains : (c : ℕ → List ℕ) (xs : List ℕ) (x p : ℕ) → Contains xs x → Contains (c x) p → Contains (flat_map c xs) p
flat_contains c [] x p h at = absurd (omega (arith, h.1))
flat_contains c (y ∷ xs) x p h at =
    elim (contains_cases y xs x h) [
      | inl e ↦ Contains-append_left (c y) (flat_map c xs) p (rw e at)
      | inr r ↦ Contains-append_right (c y) (flat_map c xs) p (flat_contains c xs x p r at)
    ]

-- ---- longer lists without repeats
pub contains_mapped : (f : ℕ → ℕ) (xs : List ℕ) (x : ℕ) → Contains xs x → Contains (map f xs) (f x)
contains_mapped f xs x h = (h.0, omega (arith, h.1, length-map xs f), get_or-map f xs h.0 x (f x) h.1 ∙ ap f h.2)

pub apart_cons : (x : ℕ) (xs : List ℕ) → ((y : ℕ) → Contains xs y → x ≢ y) → AreApart xs → AreApart (x ∷ xs)
apart_cons x xs new old zero zero d lt below = absurd (omega arith)
apart_cons x xs new old zero (suc j) d lt below = new (get_or xs j d) (Contains-get_or xs j d (omega arith))
apart_cons x xs new old (suc i) zero d lt below = absurd (omega arith)
apart_cons x xs new old (suc i) (suc j) d lt below = old i j d (omega arith) (omega arith)

pub apart_map : (f : ℕ → ℕ) (xs : List ℕ) → ((x y : ℕ) → Contains xs x → Contains xs y → f x ≡ f y → x ≡ y) → AreApart xs → AreApart (map f xs)
apart_map f xs inj old i j d lt below =
    let bj : j < length xs = omega (arith, length-map xs f) in
    let bi : i < length xs = omega arith in
    λ e. old i j 0 lt bj (inj _ _ (Contains-get_or xs i 0 bi) (Contains-get_or xs j 0 bj) (sym (get_or-map f xs i 0 d bi) ∙ e ∙ get_or-map f xs j 0 d bj))
