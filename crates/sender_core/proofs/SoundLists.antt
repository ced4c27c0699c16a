-- Tests, filters, maps and counts of lists.
use Rattle.std.proofs.Common.{◌≡◌, ◌⊎◌, ℕ, ◌+◌, ◌<◌, Bool, true, false, cond, List, [], ◌∷◌, length, map, get_or, set, Option, Some, None, is_some, filter, count_by, All, AllPairs, Contains, inl, inr, refl, sym, ap, subst, arith}
use Rattle.std.specs.List.{list_any, AllByRecursion}
use Rattle.std.proofs.lemmas.Bool.{cases_eq, cases_lt, or_parts, true≢false, false≢true}
use Rattle.std.proofs.lemmas.List.{get_or-set_other, get_or-map, set_past, length-map}
use Rattle.std.proofs.lemmas.List.Elements.{All-from_recursion, All-weaker, All-contains_itself, All-contains, All-filter, All-map, filter_passes}
use Rattle.std.proofs.lemmas.List.Sums.{sum_by-cons}
use Rattle.std.proofs.lemmas.Grind.{get_or-set_at}

-- ---- a written place

-- a place is as it was, or it is the one that was written
pub set-cases : {X : Type 0} (xs : List X) (q r : ℕ) (y d : X)
    → (get_or (set xs q y) r d ≡ get_or xs r d) ⊎ ((r ≡ q) × (q < length xs) × (get_or (set xs q y) r d ≡ y))
set-cases {X = X} xs q r y d =
    elim (cases_eq r q) [
      | inr other ↦ inl (get_or-set_other xs q r y d other)
      | inl same ↦ elim (cases_lt q (length xs)) [
        | inl lt ↦ inr (same, lt, get_or-set_at xs q r y d same lt)
        | inr past ↦ inl (ap (λ (ys : List X). get_or ys r d) (set_past xs q y past))
      ]
    ]

-- ---- options

pub some_value : {X : Type 0} (o : Option X) → is_some o ≡ true → (x : X) × (o ≡ Some x)
some_value None e = absurd (false≢true e)
some_value (Some x) e = (x, refl)

pub no_value : {X : Type 0} (o : Option X) → is_some o ≡ false → o ≡ None
no_value None e = refl
no_value (Some x) e = absurd (true≢false e)

-- ---- a test of some element

pub none-any : {X : Type 0} (p : X → Bool) (xs : List X) → list_any p xs ≡ false → AllByRecursion (λ x. p x ≡ false) xs
none-any p [] e = tt
none-any p (x ∷ xs) e = let parts = or_parts (p x) (list_any p xs) e in (parts.0, none-any p xs parts.1)

pub none-any_at : {X : Type 0} (p : X → Bool) (xs : List X) → list_any p xs ≡ false → All (λ x. p x ≡ false) xs
none-any_at p xs e = All-from_recursion (λ x. p x ≡ false) xs (none-any p xs e)

-- ---- filters

pub filter_all : {X : Type 0} (p : X → Bool) (xs : List X) → AllByRecursion (λ x. p x ≡ true) xs → filter p xs ≡ xs
filter_all p [] h = refl
filter_all {X = X} p (x ∷ xs) h = kept (p x) h.0 (filter_all p xs h.1)
  where
    kept : (b : Bool) → b ≡ true → filter p xs ≡ xs → cond b (x ∷ filter p xs) (filter p xs) ≡ x ∷ xs
    kept true e rest = ap (λ (ys : List X). x ∷ ys) rest
    kept false e rest = absurd (false≢true e)

pub Contains-filter : {X : Type 0} (p : X → Bool) (xs : List X) (x : X) → Contains (filter p xs) x → Contains xs x
Contains-filter p xs x h = All-contains (Contains xs) (filter p xs) x (All-filter p (Contains xs) xs (All-contains_itself xs)) h

pub passes_filter : {X : Type 0} (p : X → Bool) (xs : List X) (x : X) → Contains (filter p xs) x → p x ≡ true
passes_filter p xs x h = All-contains (λ y. p y ≡ true) (filter p xs) x (filter_passes p xs) h

-- ---- maps

pub Contains-map : {X Y : Type 0} (f : X → Y) (xs : List X) (y : Y) → Contains (map f xs) y → (x : X) × Contains xs x × (y ≡ f x)
Contains-map {X = X} f xs y h =
    All-contains (λ z. (x : X) × Contains xs x × (z ≡ f x)) (map f xs) y
    (All-map (λ z. (x : X) × Contains xs x × (z ≡ f x)) f xs (All-weaker (Contains xs) (λ x. (w : X) × Contains xs w × (f x ≡ f w)) (λ x c. (x, c, refl)) xs (All-contains_itself xs))) h

pub map_fixed : {X : Type 0} (f : X → X) (xs : List X) → AllByRecursion (λ x. f x ≡ x) xs → map f xs ≡ xs
map_fixed f [] h = refl
map_fixed f (x ∷ xs) h = λ i. h.0 i ∷ map_fixed f xs h.1 i

pub AllPairs-map : {X : Type 0} (R : X → X → Type 0) (f : X → X) (xs : List X) → ((x y : X) → R x y → R (f x) (f y)) → AllPairs R xs → AllPairs R (map f xs)
AllPairs-map R f xs keeps h i j d before within =
    let size : length (map f xs) ≡ length xs = length-map xs f in
    let second : j < length xs = omega (arith, size, within) in
    let first : i < length xs = omega arith in
    subst (λ x. R x (get_or (map f xs) j d)) (sym (get_or-map f xs i d d first))
    (subst (λ y. R (f (get_or xs i d)) y) (sym (get_or-map f xs j d d second)) (keeps _ _ (h i j d before second)))

-- ---- counts

-- 1 for a test that passes
abbrev pub one_if : Bool → ℕ
one_if b = cond b 1 0

pub count-cons : {X : Type 0} (p : X → Bool) (x : X) (xs : List X) → count_by p (x ∷ xs) ≡ one_if (p x) + count_by p xs
count-cons p x xs = sum_by-cons (λ y. cond (p y) 1 0) x xs

-- no element passes
pub count-none : {X : Type 0} (p : X → Bool) (xs : List X) → AllByRecursion (λ x. p x ≡ false) xs → count_by p xs ≡ 0
count-none p [] h = refl
count-none p (x ∷ xs) h =
    let rest = count-none p xs h.1 in
    let first : one_if (p x) ≡ 0 = ap one_if h.0 in
    omega (arith, count-cons p x xs, rest, first)

-- a filter that keeps all that count
pub count-filter : {X : Type 0} (q p : X → Bool) (xs : List X) → ((x : X) → p x ≡ false → q x ≡ false) → count_by q (filter p xs) ≡ count_by q xs
count-filter q p [] h = refl
count-filter q p (x ∷ xs) h = step (p x) refl (count-filter q p xs h)
  where
    step : (b : Bool) → p x ≡ b → count_by q (filter p xs) ≡ count_by q xs → count_by q (cond b (x ∷ filter p xs) (filter p xs)) ≡ count_by q (x ∷ xs)
    step true e rest = omega (arith, count-cons q x (filter p xs), count-cons q x xs, rest)
    step false e rest =
        let none : one_if (q x) ≡ 0 = ap one_if (h x e) in
        omega (arith, count-cons q x xs, rest, none)

-- a map that changes nothing of what counts
pub count-map : {X : Type 0} (q : X → Bool) (f : X → X) (xs : List X) → ((x : X) → q (f x) ≡ q x) → count_by q (map f xs) ≡ count_by q xs
count-map q f [] h = refl
count-map q f (x ∷ xs) h =
    let rest = count-map q f xs h in
    let first : one_if (q (f x)) ≡ one_if (q x) = ap one_if (h x) in
    omega (arith, count-cons q (f x) (map f xs), count-cons q x xs, rest, first)
