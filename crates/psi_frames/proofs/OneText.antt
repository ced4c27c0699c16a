-- Replies of one lane that serve rounds are those of the one-thread sender.
use Rattle.std.specs.Prelude.{◌≡◌, ℕ, suc, ◌+◌, ◌-◌, ◌<◌, ◌≤◌, min, Bool, true, false, nat_eq, nat_lt, List, [], ◌∷◌, ◌++◌, length, Option, Some, None}
use Rattle.std.specs.List.{All, AllPairs, AllByRecursion, range_with_len}
use Rattle.std.proofs.Common.{refl, sym, ap, ◌∙◌, ◌⊎◌, arith, inl, inr, append-nil, get_or, length-append}
use Rattle.std.proofs.Math.Seq.{get_or-append_seam}
use Rattle.std.proofs.lemmas.Bool.Decides.{nat_tests}
use Rattle.std.proofs.lemmas.List.Elements.{recursion_from_All}
use Rattle.std.proofs.lemmas.List.FromFn.{get_or-range_with_len, length-range_with_len}
use Rattle.psi_residue.specs.Parameters.{Parameters}
use Rattle.psi_bundle.specs.declared.history.Entry.{Entry}
use Rattle.psi_bundle.specs.Versions.{Version}
use Rattle.psi_bundle.specs.Histories.{most_entries}
use Rattle.psi_frames.specs.declared.request.Request.{Request}
use Rattle.psi_frames.specs.Requests.{code_of}
use Rattle.psi_frames.specs.Served.{Exchange, place_of, places_in, places_of_round, all_places, uncoded_of_round, first_place, AreServed, IsOneLane, PlacesRise}
use Rattle.psi_frames.proofs.Each.{each-weaker}
use Rattle.psi_frames.proofs.Following.{before}
use Rattle.psi_frames.proofs.Placed.{IsCodedRight, places-append, places-few, places-none, uncoded-append}
use Rattle.psi_frames.proofs.Ranges.{RisesFrom, rising-range}

-- places that rise in pairs rise in the list of them
head_pairs : (R : Exchange → Exchange → Type 0) (e : Exchange) (es : List Exchange) → AllPairs R (e ∷ es) → All (R e) es
head_pairs R e es pairs k d lt = pairs 0 (suc k) d (omega arith) (omega (arith, lt))

tail_pairs : (R : Exchange → Exchange → Type 0) (e : Exchange) (es : List Exchange) → AllPairs R (e ∷ es) → AllPairs R es
tail_pairs R e es pairs i j d lt le = pairs (suc i) (suc j) d (omega (arith, lt)) (omega (arith, le))

abbrev pub IsFrom : ℕ → Exchange → Type 0
IsFrom low e = (n : ℕ) → place_of e.reply ≡ Some n → low ≤ n

places-rise_by : (keep : ℕ → Bool) (low : ℕ) (e : Exchange) (es : List Exchange) (b : Bool) (o : Option ℕ) → keep e.round ≡ b → place_of e.reply ≡ o → IsFrom low e
    → (AllByRecursion (IsFrom low) es → RisesFrom low (places_in keep es))
    → ((x : ℕ) → AllByRecursion (IsFrom (x + 1)) es → RisesFrom (x + 1) (places_in keep es))
    → AllByRecursion (PlacesRise e) es → AllByRecursion (IsFrom low) es → RisesFrom low (places_in keep (e ∷ es))
places-rise_by keep low e es false o kept place from same more rise far = rw kept (same far)
places-rise_by keep low e es true None kept place from same more rise far = rw (kept, place) (same far)
places-rise_by keep low e es true (Some x) kept place from same more rise far =
    let here = from x place in
    let rest = more x (each-weaker (PlacesRise e) (IsFrom (x + 1)) (λ f h n at. let up = h x n place at in omega (arith, up)) es rise) in
    rw (kept, place) (here, rest)

pub places-rise : (keep : ℕ → Bool) (low : ℕ) (es : List Exchange) → AllPairs PlacesRise es → AllByRecursion (IsFrom low) es → RisesFrom low (places_in keep es)
places-rise keep low [] rise far = tt
places-rise keep low (e ∷ es) rise far =
    let rest = tail_pairs PlacesRise e es rise in
    places-rise_by keep low e es (keep e.round) (place_of e.reply) refl refl far.0 (places-rise keep low es rest) (λ x. places-rise keep (x + 1) es rest)
    (recursion_from_All (PlacesRise e) es (head_pairs PlacesRise e es rise)) far.1

from-zero : (es : List Exchange) → AllByRecursion (IsFrom 0) es
from-zero [] = tt
from-zero (e ∷ es) = ((λ n at. omega arith), from-zero es)

-- exchanges without places
places-empty : (keep : ℕ → Bool) (es : List Exchange) → AllByRecursion (λ e. place_of e.reply ≡ None) es → places_in keep es ≡ []
places-empty keep [] h = refl
places-empty keep (e ∷ es) h = by_kept (keep e.round) refl h.0 (places-empty keep es h.1) where
  by_kept : (b : Bool) → keep e.round ≡ b → place_of e.reply ≡ None → places_in keep es ≡ [] → places_in keep (e ∷ es) ≡ []
  by_kept true kept none rest = rw (kept, none) rest
  by_kept false kept none rest = rw kept rest

-- every place up to a round is one before it, or one of it
split_one : (k : ℕ) (e : Exchange) (es : List Exchange) (o : Option ℕ) → place_of e.reply ≡ o → (e.round ≡ k) ⊎ (e.round < k)
    → length (all_places es) ≡ length (before k es) + length (places_of_round k es)
    → length (all_places (e ∷ es)) ≡ length (before k (e ∷ es)) + length (places_of_round k (e ∷ es))
split_one k e es None place (inl same) rest =
    let early : nat_lt e.round k ≡ false = grind (arith, nat_tests, same) in
    let here : nat_eq k e.round ≡ true = grind (arith, nat_tests, same) in
    rw (early, here, place) rest
split_one k e es (Some x) place (inl same) rest =
    let early : nat_lt e.round k ≡ false = grind (arith, nat_tests, same) in
    let here : nat_eq k e.round ≡ true = grind (arith, nat_tests, same) in
    rw (early, here, place) (omega (arith, rest))
split_one k e es None place (inr below) rest =
    let early : nat_lt e.round k ≡ true = grind (arith, nat_tests, below) in
    let here : nat_eq k e.round ≡ false = grind (arith, nat_tests, below) in
    rw (early, here, place) rest
split_one k e es (Some x) place (inr below) rest =
    let early : nat_lt e.round k ≡ true = grind (arith, nat_tests, below) in
    let here : nat_eq k e.round ≡ false = grind (arith, nat_tests, below) in
    rw (early, here, place) (omega (arith, rest))

same_or_below : (n k : ℕ) → n ≤ k → (n ≡ k) ⊎ (n < k)
same_or_below n k le = by_test (nat_lt n k) refl where
  by_test : (b : Bool) → nat_lt n k ≡ b → (n ≡ k) ⊎ (n < k)
  by_test true test = inr (grind (arith, nat_tests, test))
  by_test false test = inl (grind (arith, nat_tests, test, le))

places-split : (k : ℕ) (es : List Exchange) → AllByRecursion (λ e. e.round ≤ k) es → length (all_places es) ≡ length (before k es) + length (places_of_round k es)
places-split k [] h = refl
places-split k (e ∷ es) h = split_one k e es (place_of e.reply) refl (same_or_below e.round k h.0) (places-split k es h.1)

-- An exchange among all: those before it, and those behind it.
pub record IsSplit (whole before_it behind_it : List Exchange) (e : Exchange) : Type 0 where
  pub all : whole ≡ before_it ++ e ∷ behind_it
  pub earlier : AllByRecursion (λ f. f.round ≤ e.round) before_it
  pub later : AllByRecursion (λ f. e.round ≤ f.round) behind_it

-- the places before its round stand before it
before-split : (whole xs ys : List Exchange) (e : Exchange) → IsSplit whole xs ys e → before e.round whole ≡ before e.round xs
before-split whole xs ys e split =
    let late : AllByRecursion (λ f. nat_lt f.round e.round ≡ false) ys = each-weaker (λ f. e.round ≤ f.round) (λ f. nat_lt f.round e.round ≡ false) (λ f le. grind (arith, nat_tests, le)) ys split.later in
    let here : nat_lt e.round e.round ≡ false = grind (arith, nat_tests) in
    ap (before e.round) split.all ∙ places-append (λ k. nat_lt k e.round) xs (e ∷ ys)
    ∙ ap (λ (zs : List ℕ). before e.round xs ++ zs) (places-none (λ k. nat_lt k e.round) (e ∷ ys) (here, late)) ∙ append-nil (before e.round xs)

-- the places of its round
of-split : (whole xs ys : List Exchange) (e : Exchange) → IsSplit whole xs ys e → places_of_round e.round whole ≡ places_of_round e.round xs ++ places_of_round e.round (e ∷ ys)
of-split whole xs ys e split = ap (places_of_round e.round) split.all ∙ places-append (nat_eq e.round) xs (e ∷ ys)

-- the count of entries before it, where each place so far has one
pub count-split : (given : List Entry) (whole xs ys : List Exchange) (e : Exchange) → IsSplit whole xs ys e
    → length given + length (all_places xs) ≡ first_place given e.round whole + length (places_of_round e.round xs)
count-split given whole xs ys e split =
    let parts = places-split e.round xs split.earlier in
    let first = ap length (before-split whole xs ys e split) in
    omega (arith, parts, first)

-- the number at a place of a range
at-range : (low n x : ℕ) (xs ys : List ℕ) → xs ++ x ∷ ys ≡ range_with_len low n → (x ≡ low + length xs) × (length xs < n)
at-range low n x xs ys e =
    let size : length xs + suc (length ys) ≡ n = sym (length-append xs (x ∷ ys)) ∙ ap length e ∙ length-range_with_len low n in
    let lt : length xs < n = omega (arith, size) in
    (sym (get_or-append_seam xs x ys 0) ∙ ap (λ (zs : List ℕ). get_or zs (length xs) 0) e ∙ get_or-range_with_len low n (length xs) 0 lt, lt)

-- the exchange's own place among those of its round
own_place : (e : Exchange) (ys : List Exchange) (x : ℕ) → place_of e.reply ≡ Some x → places_of_round e.round (e ∷ ys) ≡ x ∷ places_of_round e.round ys
own_place e ys x place = let here : nat_eq e.round e.round ≡ true = grind (arith, nat_tests) in rw (here, place) refl

no_place : (e : Exchange) (ys : List Exchange) → place_of e.reply ≡ None → AllByRecursion (λ f. place_of f.reply ≡ None) ys → places_of_round e.round (e ∷ ys) ≡ []
no_place e ys none rest = places-empty (nat_eq e.round) (e ∷ ys) (none, rest)

-- an uncoded exchange of its round counts
own_uncoded : (e : Exchange) (ys : List Exchange) → code_of e.request ≡ None → uncoded_of_round e.round (e ∷ ys) ≡ suc (uncoded_of_round e.round ys)
own_uncoded e ys code = let here : nat_eq e.round e.round ≡ true = grind (arith, nat_tests) in rw (here, code) refl

uncoded-split : (whole xs ys : List Exchange) (e : Exchange) → IsSplit whole xs ys e → code_of e.request ≡ None
    → uncoded_of_round e.round whole ≡ uncoded_of_round e.round xs + suc (uncoded_of_round e.round ys)
uncoded-split whole xs ys e split code =
    ap (uncoded_of_round e.round) split.all ∙ uncoded-append e.round xs (e ∷ ys) ∙ ap (λ (n : ℕ). uncoded_of_round e.round xs + n) (own_uncoded e ys code)

-- All exchanges, of one lane.
module _ (p : Parameters) (start : Version) (given history : List Entry) (rounds : List (List Request)) (whole : List Exchange)
    (served : AreServed p start given history rounds whole) (one : IsOneLane whole) where
  -- the places of a round are a range
  round-range : (k : ℕ) → k < length rounds
      → let n = min (uncoded_of_round k whole) (most_entries - first_place given k whole) in
      (length (places_of_round k whole) ≡ n) × (places_of_round k whole ≡ range_with_len (first_place given k whole) n)
  round-range k lt =
      rising-range (first_place given k whole) (min (uncoded_of_round k whole) (most_entries - first_place given k whole)) (places_of_round k whole)
      (places-rise (nat_eq k) 0 whole one.rising (from-zero whole)) (served.placed.places k lt)

  -- an exchange with a place has the count of entries before it, and the journal had room
  pub place-is : (xs ys : List Exchange) (e : Exchange) (x : ℕ) → IsSplit whole xs ys e → e.round < length rounds → place_of e.reply ≡ Some x
      → (x ≡ length given + length (all_places xs)) × (x < most_entries)
  place-is xs ys e x split lt place =
      let range = round-range e.round lt in
      let first = first_place given e.round whole in
      let there = at-range first (min (uncoded_of_round e.round whole) (most_entries - first)) x (places_of_round e.round xs) (places_of_round e.round ys)
      (ap (λ (zs : List ℕ). places_of_round e.round xs ++ zs) (sym (own_place e ys x place)) ∙ sym (of-split whole xs ys e split) ∙ range.1) in
      let counted = count-split given whole xs ys e split in
      (omega (arith, there.0, counted), omega (arith, there.0, there.1))

  -- one without a code that has none found the journal full
  pub full-is : (xs ys : List Exchange) (e : Exchange) → IsSplit whole xs ys e → e.round < length rounds → code_of e.request ≡ None → place_of e.reply ≡ None
      → AllByRecursion (λ f. place_of f.reply ≡ None) ys → AllByRecursion IsCodedRight xs → most_entries ≤ length given + length (all_places xs)
  full-is xs ys e split lt code none rest right =
      let range = round-range e.round lt in
      let first = first_place given e.round whole in
      let mine : length (places_of_round e.round whole) ≡ length (places_of_round e.round xs) =
      ap length (of-split whole xs ys e split ∙ ap (λ (zs : List ℕ). places_of_round e.round xs ++ zs) (no_place e ys none rest) ∙ append-nil (places_of_round e.round xs)) in
      let few = places-few e.round xs right in
      let more = uncoded-split whole xs ys e split code in
      let counted = count-split given whole xs ys e split in
      omega (arith, range.0, mine, few, more, counted)
