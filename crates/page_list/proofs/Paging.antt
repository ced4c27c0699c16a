-- Where a value stands in pages of 64 values.
use Rattle.std.proofs.Common.{◌≡◌, ℕ, zero, suc, ◌+◌, ◌-◌, ◌*◌, ◌/◌, ◌%◌, ◌<◌, ◌≤◌, List, [], ◌∷◌, ◌++◌, length, map, get_or, set, replicate, refl, ap, ◌∙◌, sym, subst, inl, inr, arith}
use Rattle.std.specs.List.{slice_get}
use Rattle.std.proofs.lemmas.Bool.{cases_lt}
use Rattle.std.proofs.lemmas.List.{length-append, length-map, length-set, length-replicate, get_or-map, replicate-append-replicate, set-append_left, set-append_right}
use Rattle.page_list.specs.Pages.{values_of, IsPaged}

-- the values are as many as they are said to be
pub length-values : {V : Type 0} (n : ℕ) (pages : List (List V)) → IsPaged n pages → length (values_of pages) ≡ n
length-values n [] h = omega (arith, h)
length-values n (page ∷ rest) h =
    let more = length-values (n - 64) rest h.2 in
    omega (arith, length-append page (values_of rest), h.0, h.1, more)

-- the page of a place is there
pub page_within : {V : Type 0} (n : ℕ) (pages : List (List V)) (i : ℕ) → IsPaged n pages → i < n → i / 64 < length pages
page_within n [] i h lt = absurd (omega (arith, h))
page_within n (page ∷ rest) i h lt =
    elim (cases_lt i 64) [
      | inl first ↦ omega arith
      | inr later ↦ let more = page_within (n - 64) rest (i - 64) h.2 (omega arith) in omega arith
    ]

-- a place of a later page is a place of the pages behind the first one
page_later : (i : ℕ) → 64 ≤ i → i / 64 ≡ suc ((i - 64) / 64)
page_later i h = omega arith

place_later : (i : ℕ) → 64 ≤ i → i % 64 ≡ (i - 64) % 64
place_later i h = omega arith

page_first : (i : ℕ) → i < 64 → i / 64 ≡ 0
page_first i h = omega arith

place_first : (i : ℕ) → i < 64 → i % 64 ≡ i
place_first i h = omega arith

-- the place stands in its page
pub place_within : {V : Type 0} (n : ℕ) (pages : List (List V)) (i : ℕ) → IsPaged n pages → i < n → i % 64 < length (get_or pages (i / 64) [])
place_within n [] i h lt = absurd (omega (arith, h))
place_within {V} n (page ∷ rest) i h lt =
    elim (cases_lt i 64) [
      | inl first ↦
          let here : i < length page = omega (arith, h.1) in
          subst (λ (k : ℕ). i % 64 < length (get_or (page ∷ rest) k [])) (sym (page_first i first))
          (subst (λ (k : ℕ). k < length page) (sym (place_first i first)) here)
      | inr later ↦
          subst (λ (k : ℕ). i % 64 < length (get_or (page ∷ rest) k [])) (sym (page_later i later))
          (subst (λ (k : ℕ). k < length (get_or rest ((i - 64) / 64) [])) (sym (place_later i later)) (place_within (n - 64) rest (i - 64) h.2 (omega arith)))
    ]

slice_get-append_left : {V : Type 0} (xs ys : List V) (i : ℕ) → i < length xs → slice_get (xs ++ ys) i ≡ slice_get xs i
slice_get-append_left [] ys i lt = absurd (omega arith)
slice_get-append_left (x ∷ xs) ys zero lt = refl
slice_get-append_left (x ∷ xs) ys (suc i) lt = slice_get-append_left xs ys i (omega arith)

slice_get-append_right : {V : Type 0} (xs ys : List V) (i : ℕ) → length xs ≤ i → slice_get (xs ++ ys) i ≡ slice_get ys (i - length xs)
slice_get-append_right [] ys i le = let same : i ≡ i - 0 = omega arith in ap (λ (k : ℕ). slice_get ys k) same
slice_get-append_right (x ∷ xs) ys zero le = absurd (omega arith)
slice_get-append_right (x ∷ xs) ys (suc i) le =
    let same : i - length xs ≡ suc i - suc (length xs) = omega arith in
    slice_get-append_right xs ys i (omega arith) ∙ ap (λ (k : ℕ). slice_get ys k) same

-- the value at a place
pub slice_get-values : {V : Type 0} (n : ℕ) (pages : List (List V)) (i : ℕ) → IsPaged n pages → i < n
    → slice_get (values_of pages) i ≡ slice_get (get_or pages (i / 64) []) (i % 64)
slice_get-values n [] i h lt = absurd (omega (arith, h))
slice_get-values n (page ∷ rest) i h lt =
    elim (cases_lt i 64) [
      | inl first ↦
          slice_get-append_left page (values_of rest) i (omega (arith, h.1))
          ∙ ap (λ (k : ℕ). slice_get page k) (sym (place_first i first))
          ∙ ap (λ (k : ℕ). slice_get (get_or (page ∷ rest) k []) (i % 64)) (sym (page_first i first))
      | inr later ↦
          let full : length page ≡ 64 = omega (arith, h.1) in
          slice_get-append_right page (values_of rest) i (omega arith)
          ∙ ap (λ (k : ℕ). slice_get (values_of rest) (i - k)) full
          ∙ slice_get-values (n - 64) rest (i - 64) h.2 (omega arith)
          ∙ ap (λ (k : ℕ). slice_get (get_or rest ((i - 64) / 64) []) k) (sym (place_later i later))
          ∙ ap (λ (k : ℕ). slice_get (get_or (page ∷ rest) k []) (i % 64)) (sym (page_later i later))
    ]

-- the pages with another value at one place
abbrev pub with_value : {V : Type 0} → List (List V) → ℕ → V → List (List V)
with_value pages i v = set pages (i / 64) (set (get_or pages (i / 64) []) (i % 64) v)

with_value-first : {V : Type 0} (page : List V) (rest : List (List V)) (i : ℕ) (v : V) → i < 64 → with_value (page ∷ rest) i v ≡ set page i v ∷ rest
with_value-first page rest i v first =
    ap (λ (k : ℕ). set (page ∷ rest) k (set (get_or (page ∷ rest) k []) (i % 64) v)) (page_first i first)
    ∙ ap (λ (k : ℕ). set page k v ∷ rest) (place_first i first)

with_value-later : {V : Type 0} (page : List V) (rest : List (List V)) (i : ℕ) (v : V) → 64 ≤ i → with_value (page ∷ rest) i v ≡ page ∷ with_value rest (i - 64) v
with_value-later page rest i v later =
    ap (λ (k : ℕ). set (page ∷ rest) k (set (get_or (page ∷ rest) k []) (i % 64) v)) (page_later i later)
    ∙ ap (λ (k : ℕ). page ∷ set rest ((i - 64) / 64) (set (get_or rest ((i - 64) / 64) []) k v)) (place_later i later)

-- their values are the same but at that place
pub values-with_value : {V : Type 0} (n : ℕ) (pages : List (List V)) (i : ℕ) (v : V) → IsPaged n pages → i < n
    → values_of (with_value pages i v) ≡ set (values_of pages) i v
values-with_value n [] i v h lt = absurd (omega (arith, h))
values-with_value {V} n (page ∷ rest) i v h lt =
    elim (cases_lt i 64) [
      | inl first ↦
          ap values_of (with_value-first page rest i v first) ∙ sym (set-append_left page (values_of rest) i v (omega (arith, h.1)))
      | inr later ↦
          let full : length page ≡ 64 = omega (arith, h.1) in
          ap values_of (with_value-later page rest i v later)
          ∙ ap (λ (vs : List V). page ++ vs) (values-with_value (n - 64) rest (i - 64) v h.2 (omega arith))
          ∙ sym (set-append_right page (values_of rest) 64 i v full later)
    ]

-- and they are pages of so many values as before
pub IsPaged-with_value : {V : Type 0} (n : ℕ) (pages : List (List V)) (i : ℕ) (v : V) → IsPaged n pages → i < n → IsPaged n (with_value pages i v)
IsPaged-with_value n [] i v h lt = absurd (omega (arith, h))
IsPaged-with_value {V} n (page ∷ rest) i v h lt =
    elim (cases_lt i 64) [
      | inl first ↦
          let P : List (List V) → Type 0 = λ pages. IsPaged n pages in
          subst P (sym (with_value-first page rest i v first)) (h.0, length-set page i v ∙ h.1, h.2)
      | inr later ↦
          let P : List (List V) → Type 0 = λ pages. IsPaged n pages in
          subst P (sym (with_value-later page rest i v later)) (h.0, h.1, IsPaged-with_value (n - 64) rest (i - 64) v h.2 (omega arith))
    ]

-- full pages of one value before others of it
pub values-filled : {V : Type 0} (size k r : ℕ) (v : V) (rest : List (List V)) → values_of rest ≡ replicate r v
    → values_of (replicate k (replicate size v) ++ rest) ≡ replicate (k * size + r) v
values-filled size zero r v rest e = e ∙ ap (λ (n : ℕ). replicate n v) (omega arith)
values-filled {V} size (suc k) r v rest e =
    let count : size + (k * size + r) ≡ suc k * size + r = omega arith in
    ap (λ (vs : List V). replicate size v ++ vs) (values-filled size k r v rest e)
    ∙ replicate-append-replicate size (k * size + r) v
    ∙ ap (λ (n : ℕ). replicate n v) count

pub IsPaged-filled : {V : Type 0} (k r : ℕ) (page : List V) (rest : List (List V)) → length page ≡ 64 → IsPaged r rest
    → IsPaged (k * 64 + r) (replicate k page ++ rest)
IsPaged-filled {V} zero r page rest full h =
    let P : ℕ → Type 0 = λ n. IsPaged n rest in
    let none : r ≡ 0 * 64 + r = omega arith in
    subst P none h
IsPaged-filled {V} (suc k) r page rest full h =
    let P : ℕ → Type 0 = λ n. IsPaged n (replicate k page ++ rest) in
    let less : k * 64 + r ≡ suc k * 64 + r - 64 = omega arith in
    (omega arith, omega (arith, full), subst P less (IsPaged-filled k r page rest full h))

-- pages behind handles, and the list that they are seen as
pub record Shows {H V : Type 0} (value : H → List V) (n : ℕ) (handles : List H) (shown : List V) : Type 0 where
  pub paged : IsPaged n (map value handles)
  pub values : values_of (map value handles) ≡ shown

pub length-shown : {H V : Type 0} (value : H → List V) (n : ℕ) (handles : List H) (shown : List V) → Shows value n handles shown → length shown ≡ n
length-shown value n handles shown s = ap length (sym s.values) ∙ length-values n (map value handles) s.paged

-- the page of a place has a handle
pub handle_within : {H V : Type 0} (value : H → List V) (n : ℕ) (handles : List H) (shown : List V) (i : ℕ) → Shows value n handles shown
    → i < length shown → i / 64 < length handles
handle_within value n handles shown i s lt =
    let within : i < n = omega (arith, length-shown value n handles shown s) in
    omega (arith, page_within n (map value handles) i s.paged within, length-map handles value)

-- the page behind the handle that was read
page_behind : {H V : Type 0} (value : H → List V) (n : ℕ) (handles : List H) (shown : List V) (i : ℕ) (handle : H) → Shows value n handles shown
    → i < length shown → handle ≡ get_or handles (i / 64) handle → value handle ≡ get_or (map value handles) (i / 64) []
page_behind value n handles shown i handle s lt read =
    ap value read ∙ sym (get_or-map value handles (i / 64) handle [] (handle_within value n handles shown i s lt))

-- has the place
pub place_behind : {H V : Type 0} (value : H → List V) (n : ℕ) (handles : List H) (shown : List V) (i : ℕ) (handle : H) → Shows value n handles shown
    → i < length shown → handle ≡ get_or handles (i / 64) handle → i % 64 < length (value handle)
place_behind value n handles shown i handle s lt read =
    subst (λ (page : List _). i % 64 < length page) (sym (page_behind value n handles shown i handle s lt read))
    (place_within n (map value handles) i s.paged (omega (arith, length-shown value n handles shown s)))

-- and its value
pub slice_get-shown : {H V : Type 0} (value : H → List V) (n : ℕ) (handles : List H) (shown : List V) (i : ℕ) (handle : H) → Shows value n handles shown
    → i < length shown → handle ≡ get_or handles (i / 64) handle → slice_get shown i ≡ slice_get (value handle) (i % 64)
slice_get-shown {V = V} value n handles shown i handle s lt read =
    ap (λ (vs : List V). slice_get vs i) (sym s.values)
    ∙ slice_get-values n (map value handles) i s.paged (omega (arith, length-shown value n handles shown s))
    ∙ ap (λ (page : List V). slice_get page (i % 64)) (sym (page_behind value n handles shown i handle s lt read))

-- with a handle of another page that has another value there, the list has that value there
pub Shows-replaced : {H V : Type 0} (value : H → List V) (n : ℕ) (handles new : List H) (shown page : List V) (i : ℕ) (handle : H) (v : V)
    → Shows value n handles shown → i < length shown → handle ≡ get_or handles (i / 64) handle → page ≡ set (value handle) (i % 64) v
    → map value new ≡ set (map value handles) (i / 64) page → Shows value n new (set shown i v)
Shows-replaced {V = V} value n handles new shown page i handle v s lt read page-is new-is =
    let within : i < n = omega (arith, length-shown value n handles shown s) in
    let pages : map value new ≡ with_value (map value handles) i v
    = new-is
    ∙ ap (λ (p : List V). set (map value handles) (i / 64) p) page-is
    ∙ ap (λ (p : List V). set (map value handles) (i / 64) (set p (i % 64) v)) (page_behind value n handles shown i handle s lt read) in
    let P : List (List V) → Type 0 = λ pages. IsPaged n pages in
    record {
      paged = subst P (sym pages) (IsPaged-with_value n (map value handles) i v s.paged within);
      values = ap values_of pages ∙ values-with_value n (map value handles) i v s.paged within ∙ ap (λ (vs : List V). set vs i v) s.values;
    }

-- full pages of one value, and behind them a page with the rest where there is a rest
pub Shows-filled : {H V : Type 0} (value : H → List V) (n : ℕ) (handles : List H) (v : V) (rest : List (List V)) → IsPaged (n % 64) rest
    → values_of rest ≡ replicate (n % 64) v → map value handles ≡ replicate (n / 64) (replicate 64 v) ++ rest → Shows value n handles (replicate n v)
Shows-filled {V = V} value n handles v rest paged values e =
    let P : List (List V) → Type 0 = λ pages. IsPaged n pages in
    let Q : ℕ → Type 0 = λ k. IsPaged k (replicate (n / 64) (replicate 64 v) ++ rest) in
    let whole : n / 64 * 64 + n % 64 ≡ n = omega arith in
    record {
      paged = subst P (sym e) (subst Q whole (IsPaged-filled (n / 64) (n % 64) (replicate 64 v) rest (length-replicate 64 v) paged));
      values = ap values_of e ∙ values-filled 64 (n / 64) (n % 64) v rest values ∙ ap (λ (k : ℕ). replicate k v) whole;
    }
