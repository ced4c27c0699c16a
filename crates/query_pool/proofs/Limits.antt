-- How many places there are: as many as requests without a code, or the journal is full.
use Rattle.std.specs.Prelude.{◌≡◌, ◌⊎◌, ℕ, ◌≤◌, Bool, true, false, nat_eq, List, [], ◌∷◌, length, Option, Some, None, IsSome}
use Rattle.std.specs.List.{AllByRecursion}
use Rattle.std.proofs.Common.{refl, ap, arith, inl, inr}
use Rattle.std.proofs.lemmas.Bool.Decides.{nat_tests}
use Rattle.psi_frames.specs.declared.reply.Reply.{Reply}
use Rattle.psi_frames.specs.declared.reply.Reply.TheVariants as reply
use Rattle.psi_frames.specs.Requests.{code_of, journal_full}
use Rattle.psi_frames.specs.Served.{Exchange, HasPlaceOrIsFull, all_places, from_of, place_of, places_in, uncoded_of_round}
use Rattle.psi_frames.proofs.Placed.{IsCodedRight}

-- one exchange more of round 0 adds no more places than requests without a code
few-more : (e : Exchange) (es : List Exchange) (c o : Option ℕ) → e.round ≡ 0 → code_of e.request ≡ c → place_of e.reply ≡ o → IsCodedRight e
    → length (all_places es) ≤ uncoded_of_round 0 es → length (all_places (e ∷ es)) ≤ uncoded_of_round 0 (e ∷ es)
few-more e es None None first code place right rest =
    let here : nat_eq 0 e.round ≡ true = grind (arith, nat_tests, first) in rw (here, code, place) (omega (arith, rest))
few-more e es None (Some x) first code place right rest =
    let here : nat_eq 0 e.round ≡ true = grind (arith, nat_tests, first) in rw (here, code, place) (omega (arith, rest))
few-more e es (Some c) None first code place right rest =
    let here : nat_eq 0 e.round ≡ true = grind (arith, nat_tests, first) in rw (here, code, place) rest
few-more e es (Some c) (Some x) first code place right rest =
    let refused = right c code in
    let none : place_of e.reply ≡ None = ap place_of refused in
    absurd (cc)

pub places-few : (es : List Exchange) → AllByRecursion (λ e. e.round ≡ 0) es → AllByRecursion IsCodedRight es → length (all_places es) ≤ uncoded_of_round 0 es
places-few [] first right = omega arith
places-few (e ∷ es) first right = few-more e es (code_of e.request) (place_of e.reply) first.0 refl refl right.0 (places-few es first.1 right.1)

module _ (Full : Type 0) where
  -- there are places enough, or what a full journal's reply tells holds
  abbrev pub EnoughOr : List Exchange → Type 0
  EnoughOr es = (uncoded_of_round 0 es ≤ length (all_places es)) ⊎ Full

  -- a request with a place, and one with a code
  placed-more : (e : Exchange) (es : List Exchange) (o : Option ℕ) → e.round ≡ 0 → code_of e.request ≡ None → place_of e.reply ≡ o → IsSome o → EnoughOr es → EnoughOr (e ∷ es)
  placed-more e es None first code place some rest = absurd (cc)
  placed-more e es (Some x) first code place some (inl enough) =
      let here : nat_eq 0 e.round ≡ true = grind (arith, nat_tests, first) in inl (rw (here, code, place) (omega (arith, enough)))
  placed-more e es (Some x) first code place some (inr full) = inr full

  coded-more : (e : Exchange) (es : List Exchange) (c : ℕ) (o : Option ℕ) → e.round ≡ 0 → code_of e.request ≡ Some c → place_of e.reply ≡ o → EnoughOr es → EnoughOr (e ∷ es)
  coded-more e es c None first code place (inl enough) =
      let here : nat_eq 0 e.round ≡ true = grind (arith, nat_tests, first) in inl (rw (here, code, place) enough)
  coded-more e es c (Some x) first code place (inl enough) =
      let here : nat_eq 0 e.round ≡ true = grind (arith, nat_tests, first) in inl (rw (here, code, place) (omega (arith, enough)))
  coded-more e es c o first code place (inr full) = inr full

  either-more : (e : Exchange) (es : List Exchange) → e.round ≡ 0 → code_of e.request ≡ None → (e.reply ≡ reply.Refused journal_full → Full)
      → IsSome (place_of e.reply) ⊎ (e.reply ≡ reply.Refused journal_full) → EnoughOr es → EnoughOr (e ∷ es)
  either-more e es first code full (inl some) rest = placed-more e es (place_of e.reply) first code refl some rest
  either-more e es first code full (inr refused) rest = inr (full refused)

  one-more : (e : Exchange) (es : List Exchange) (c : Option ℕ) → e.round ≡ 0 → code_of e.request ≡ c → HasPlaceOrIsFull e → (e.reply ≡ reply.Refused journal_full → Full) → EnoughOr es → EnoughOr (e ∷ es)
  one-more e es None first code has full rest = either-more e es first code full (has code) rest
  one-more e es (Some c) first code has full rest = coded-more e es c (place_of e.reply) first code refl rest

  pub enough-or_full : (es : List Exchange) → AllByRecursion (λ e. e.round ≡ 0) es → AllByRecursion HasPlaceOrIsFull es → AllByRecursion (λ e. e.reply ≡ reply.Refused journal_full → Full) es → EnoughOr es
  enough-or_full [] first has full = inl (omega arith)
  enough-or_full (e ∷ es) first has full = one-more e es (code_of e.request) first.0 refl has.0 full.0 (enough-or_full es first.1 has.1 full.1)
