-- Places round by round: those before a round, and what holds of every place from the first on.
use Rattle.std.proofs.Common.{◌≡◌, ℕ, zero, suc, ◌+◌, ◌-◌, ◌<◌, ◌≤◌, Bool, true, false, nat_eq, nat_lt, List, [], ◌∷◌, length, Option, None, Some, get_or, refl, sym, ap, ◌∙◌, subst, arith, inl, inr, add-one}
use Rattle.std.specs.List.{All, AllByRecursion, cons_option, range_with_len}
use Rattle.std.specs.List.Sorted.{IsPermutation}
use Rattle.std.proofs.lemmas.Bool.{cases_lt}
use Rattle.std.proofs.lemmas.Bool.Decides.{nat_tests}
use Rattle.std.proofs.lemmas.List.Elements.{All-from_recursion}
use Rattle.std.proofs.lemmas.List.FromFn.{get_or-range_with_len, length-range_with_len}
use Rattle.std.proofs.lemmas.List.Sorted.{All-permutation, length_permutation}
use Rattle.psi_frames.specs.Served.{Exchange, place_of, places_in, places_of_round}
use Rattle.psi_frames.proofs.Following.{before}

-- what holds of each place of the exchanges holds of the places of some rounds
pub each-places : (P : ℕ → Type 0) (keep : ℕ → Bool) (es : List Exchange) → AllByRecursion (λ e. (x : ℕ) → place_of e.reply ≡ Some x → P x) es → AllByRecursion P (places_in keep es)
each-places P keep [] h = tt
each-places P keep (e ∷ es) h = by_place (keep e.round) refl (place_of e.reply) refl (each-places P keep es h.1) where
  by_place : (b : Bool) → keep e.round ≡ b → (o : Option ℕ) → place_of e.reply ≡ o → AllByRecursion P (places_in keep es) → AllByRecursion P (places_in keep (e ∷ es))
  by_place false is o place rest = rw is rest
  by_place true is None place rest = rw (is, place) rest
  by_place true is (Some x) place rest = rw (is, place) (h.0 x place, rest)

length-cons_option : (o : Option ℕ) (xs : List ℕ) → length (cons_option o xs) ≡ length (cons_option o []) + length xs
length-cons_option None xs = omega arith
length-cons_option (Some x) xs = omega arith

-- the places before the next round are those before this one, and those of this one
pub before-more : (k : ℕ) (es : List Exchange) → length (before (k + 1) es) ≡ length (before k es) + length (places_of_round k es)
before-more k [] = refl
before-more k (e ∷ es) =
    let rest = before-more k es in
    let o = place_of e.reply in
    elim (cases_lt e.round k) [
      | inl below ↦
          let a : nat_lt e.round (k + 1) ≡ true = grind (arith, nat_tests) in
          let b : nat_lt e.round k ≡ true = grind (arith, nat_tests) in
          let c : nat_eq k e.round ≡ false = grind (arith, nat_tests) in
          rw (a, b, c) (omega (arith, rest, length-cons_option o (before (k + 1) es), length-cons_option o (before k es)))
      | inr from ↦ elim (cases_lt k e.round) [
        | inl above ↦
            let a : nat_lt e.round (k + 1) ≡ false = grind (arith, nat_tests) in
            let b : nat_lt e.round k ≡ false = grind (arith, nat_tests) in
            let c : nat_eq k e.round ≡ false = grind (arith, nat_tests) in
            rw (a, b, c) rest
        | inr here ↦
            let a : nat_lt e.round (k + 1) ≡ true = grind (arith, nat_tests) in
            let b : nat_lt e.round k ≡ false = grind (arith, nat_tests) in
            let c : nat_eq k e.round ≡ true = grind (arith, nat_tests) in
            rw (a, b, c) (omega (arith, rest, length-cons_option o (before (k + 1) es), length-cons_option o (places_of_round k es)))
      ]
    ]

before-none : (es : List Exchange) → before 0 es ≡ []
before-none [] = refl
before-none (e ∷ es) = let b : nat_lt e.round 0 ≡ false = grind (arith, nat_tests) in rw b (before-none es)

-- the numbers of a range
in_range : (P : ℕ → Type 0) (base n j : ℕ) → All P (range_with_len base n) → base ≤ j → j < base + n → P j
in_range P base n j h low high =
    let at : get_or (range_with_len base n) (j - base) 0 ≡ j = get_or-range_with_len base n (j - base) 0 (omega arith) ∙ omega arith in
    subst P at (h (j - base) 0 (omega (arith, length-range_with_len base n)))

-- where the places of each round follow on, what holds of each place of the exchanges holds of every number below the places of
-- the first rounds, from the first place on
module _ (P : ℕ → Type 0) (first : ℕ) (es : List Exchange) (few : ℕ → ℕ) (h : AllByRecursion (λ e. (x : ℕ) → place_of e.reply ≡ Some x → P x) es) where
  pub first-rounds : (n rounds : ℕ) → ((k : ℕ) → k < rounds → IsPermutation (places_of_round k es) (range_with_len (first + length (before k es)) (few k))) → n ≤ rounds
      → (j : ℕ) → first ≤ j → j < first + length (before n es) → P j
  first-rounds zero rounds follow le j from lt = absurd (omega (arith, ap length (before-none es)))
  first-rounds (suc n) rounds follow le j low lt =
      let base = length (before n es) in
      let moves = follow n (omega arith) in
      let size : length (places_of_round n es) ≡ few n = sym (length_permutation (places_of_round n es) (range_with_len (first + base) (few n)) moves) ∙ length-range_with_len (first + base) (few n) in
      let more = before-more n es in
      let lt_more : j < first + length (before (n + 1) es) = rw add-one lt in
      elim (cases_lt j (first + base)) [
        | inl below ↦ first-rounds n rounds follow (omega arith) j low below
        | inr from ↦
            let all = All-permutation P (places_of_round n es) (range_with_len (first + base) (few n)) moves (All-from_recursion P (places_of_round n es) (each-places P (nat_eq n) es h)) in
            in_range P (first + base) (few n) j all (omega arith) (omega (arith, more, size, lt_more))
      ]
