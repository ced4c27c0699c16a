-- What lanes did beside each other serves their round; and where there is one lane, as one lane does.
use Rattle.std.specs.Prelude.{◌≡◌, ◌⊎◌, ℕ, suc, ◌+◌, ◌-◌, ◌%◌, ◌<◌, ◌≤◌, min, true, false, nat_eq, nat_lt, List, [], ◌∷◌, length, take, Option, Some, None, IsSome, slice_index_or}
use Rattle.std.specs.List.{All, AllByRecursion, AllPairs, range_with_len}
use Rattle.std.specs.List.Sorted.{IsPermutation}
use Rattle.std.proofs.Common.{refl, sym, ap, ◌∙◌, subst, arith, inl, inr, length-append, lt_of_not-le}
use mathlib.Core.Logic.{dite}
use native.Mathlib.Decide.{ℕ_discrete, dec_le}
use Rattle.std.proofs.Math.Nat.{mod-lt}
use Rattle.std.proofs.lemmas.Bool.Decides.{nat_tests}
use Rattle.std.proofs.lemmas.List.{take_at}
use Rattle.std.proofs.lemmas.List.Elements.{All-from_recursion, recursion_from_All}
use Rattle.std.proofs.lemmas.List.FromFn.{length-range_with_len}
use Rattle.std.proofs.lemmas.List.Sorted.{length_permutation}
use Rattle.psi_bundle.specs.declared.history.Entry.{Entry}
use Rattle.psi_turnstile.specs.Counting.{below, times}
use Rattle.psi_turnstile.proofs.Sums.{below_no, below_some, below_yes, same_no, same_yes}
use Rattle.psi_bundle.specs.Histories.{most_entries}
use Rattle.psi_frames.specs.declared.reply.Reply.TheVariants as reply
use Rattle.psi_frames.specs.declared.request.Request.{Request}
use Rattle.psi_frames.specs.Requests.{is_repack, journal_full}
use Rattle.psi_frames.specs.Served.{AreServed, Exchange, FollowOn, HasPlaceOrIsFull, IsEvaluated, IsFromWithin, IsOneLane, IsRecorded, PlacesRise, SameSession, SeesOwn, StaysFull, all_places, first_place, from_of, place_of, places_in, places_of_round, uncoded_of_round}
use Rattle.psi_frames.proofs.Each.{each-weaker}
use Rattle.psi_frames.proofs.Placed.{IsCodedRight, from_placed, places-every, places-none}
use Rattle.live_sender.specs.declared.origin.Origin.{Origin}
use Rattle.live_sender.specs.Histories.{first_version}
use Rattle.query_pool.specs.Joined.{AreJoined, IsPart, lane_of, lane_part}
use Rattle.query_pool.proofs.ByLane.{all_by_lane, pairs_by_lane}
use Rattle.query_pool.proofs.CountedOnce.{counted_once, times-cons}
use Rattle.query_pool.proofs.Gathered.{lane}
use Rattle.query_pool.proofs.Limits.{enough-or_full, places-few}

-- each exchange is of one of the lanes
pub lanes-few : (workers : ℕ) → 0 < workers → (es : List Exchange) → AllByRecursion (λ e. lane workers e < workers) es
lanes-few workers some [] = tt
lanes-few workers some (e ∷ es) = (mod-lt _ some, lanes-few workers some es)

module _ (z : Origin) (given history : List Entry) (workers : ℕ) (requests : List Request) (es : List Exchange) (some : 0 < workers)
    (joined : AreJoined z given history workers es) (first : AllByRecursion (λ e. e.round ≡ 0) es) where
  -- what each lane's part tells of each exchange, and of each pair of one session
  of_all : (P : Exchange → Type 0) → ((fs : List Exchange) → IsPart z given history fs → All P fs) → All P es
  of_all P told =
      All-from_recursion P es
      (all_by_lane (lane workers) P workers es (lanes-few workers some es) (λ l lt. recursion_from_All P (lane_part workers es l) (told (lane_part workers es l) (joined.lanes l lt))))

  of_pairs : (R : Exchange → Exchange → Type 0) → ((fs : List Exchange) → IsPart z given history fs → AllPairs R fs) → AllPairs (λ a b. SameSession a b → R a b) es
  of_pairs R told = λ i j d lt le same.
      pairs_by_lane (lane workers) R workers es (lanes-few workers some es) (λ l below_it. told (lane_part workers es l) (joined.lanes l below_it)) i j d lt le (ap (λ (n : ℕ). n % workers) same)

  -- the entries that the lanes made
  abbrev made : ℕ
  made = length joined.begins.0

  size : length history ≡ length given + made
  size = ap length joined.begins.1 ∙ length-append given joined.begins.0

  permuted : IsPermutation (all_places es) (range_with_len (length given) made)
  permuted = counted_once made (length given) (all_places es) (λ x. joined.places x ∙ ap (below x) size)

  number : length (all_places es) ≡ made
  number = sym (length_permutation (all_places es) (range_with_len (length given) made) permuted) ∙ length-range_with_len (length given) made

  -- the round has the number 0
  all_are : places_of_round 0 es ≡ all_places es
  all_are = places-every (nat_eq 0) es (each-weaker (λ e. e.round ≡ 0) (λ e. nat_eq 0 e.round ≡ true) (λ e zero. grind (arith, nat_tests, zero)) es first)

  none_before : places_in (λ k. nat_lt k 0) es ≡ []
  none_before = places-none (λ k. nat_lt k 0) es (each-weaker (λ e. e.round ≡ 0) (λ e. nat_lt e.round 0 ≡ false) (λ e zero. grind (arith, nat_tests, zero)) es first)

  first_is : first_place given 0 es ≡ length given
  first_is = ap (λ (xs : List ℕ). length given + length xs) none_before ∙ omega arith

  -- there are as many places as the journal has room for
  count_is : made ≡ min (uncoded_of_round 0 es) (most_entries - first_place given 0 es)
  count_is =
      let few = places-few es first (recursion_from_All IsCodedRight es (of_all IsCodedRight (λ fs part. part.coded))) in
      let most = joined.history_is.few in
      by_cause few most (enough-or_full (most_entries ≤ length history) es first (recursion_from_All HasPlaceOrIsFull es (of_all HasPlaceOrIsFull (λ fs part. part.others)))
      (recursion_from_All (λ e. e.reply ≡ reply.Refused journal_full → most_entries ≤ length history) es (of_all (λ e. e.reply ≡ reply.Refused journal_full → most_entries ≤ length history) (λ fs part. part.full)))) where
        by_cause : length (all_places es) ≤ uncoded_of_round 0 es → length history ≤ most_entries → (uncoded_of_round 0 es ≤ length (all_places es)) ⊎ (most_entries ≤ length history)
            → made ≡ min (uncoded_of_round 0 es) (most_entries - first_place given 0 es)
        by_cause few most (inl enough) = omega (arith, few, most, enough, number, size, first_is)
        by_cause few most (inr full) = omega (arith, few, most, full, number, size, first_is)

  follow : (k : ℕ) → k < length (requests ∷ []) → FollowOn given es k
  follow k lt =
      let zero : 0 ≡ k = omega (arith, lt) in
      subst (FollowOn given es) zero
      (subst (λ (t : List ℕ × ℕ × ℕ). IsPermutation t.0 (range_with_len t.1 t.2)) (λ i. (sym all_are i, sym first_is i, count_is i)) permuted)

  within : All (IsFromWithin given es) es
  within i d lt from x told place =
      let far = of_all (λ e. (from x : ℕ) → from_of e.reply ≡ Some from → place_of e.reply ≡ Some x → (length given ≤ from) × (from ≤ x)) (λ fs part. part.froms) i d lt from x told place in
      let zero : (slice_index_or es i d).round ≡ 0 = All-from_recursion (λ e. e.round ≡ 0) es first i d lt in
      let begin : first_place given (slice_index_or es i d).round es ≡ length given = ap (λ (k : ℕ). first_place given k es) zero ∙ first_is in
      (omega (arith, far.0, begin), far.1)

  pub joined_serves : AreServed z.parameters (first_version z) given history (requests ∷ []) es
  joined_serves = record {
    history_of = record {
      begins = ap (take (length given)) joined.begins.1 ∙ take_at given joined.begins.0 (length given) refl;
      no_others = omega (arith, size, number);
      recorded = of_all (IsRecorded history) (λ fs part. part.recorded);
    };
    coded = of_all IsCodedRight (λ fs part. part.coded);
    placed = record {
      places = follow;
      others = of_all HasPlaceOrIsFull (λ fs part. part.others);
      stay = of_pairs StaysFull (λ fs part. part.stay);
    };
    rising = of_pairs PlacesRise (λ fs part. part.rising);
    stepped = record {
      repacks = of_all (λ e. is_repack e.request ≡ true → IsSome (place_of e.reply) → IsSome (from_of e.reply)) (λ fs part. part.repacks);
      legal = joined.history_is.legal;
    };
    since = record { within = within; own = of_pairs SeesOwn (λ fs part. part.sees_own) };
    evaluated = of_all (IsEvaluated z.parameters (first_version z) history) (λ fs part. part.evaluated);
  }

-- ---- one lane

-- it has all exchanges
all_of_one : (es : List Exchange) → lane_part 1 es 0 ≡ es
all_of_one [] = refl
all_of_one (e ∷ es) =
    let zero : lane_of 1 e.request ≡ 0 = omega arith in
    let here : nat_eq (lane_of 1 e.request) 0 ≡ true = grind (arith, nat_tests, zero) in
    rw here (ap (λ (fs : List Exchange). e ∷ fs) (all_of_one es))

-- the exchange that has a place
record HasPlace (y : ℕ) (es : List Exchange) : Type 0 where
  at : ℕ
  within : at < length es
  is : (d : Exchange) → place_of (slice_index_or es at d).reply ≡ Some y

has-place : (y : ℕ) (es : List Exchange) → 0 < times y (all_places es) → HasPlace y es
unfolding times
has-place y [] = λ there. absurd (omega (arith, there))
has-place y (e ∷ es) = by_place (place_of e.reply) refl (has-place y es) where
  later : HasPlace y es → HasPlace y (e ∷ es)
  later h = record { at = suc h.at; within = omega (arith, h.within); is = h.is }

  by_place : (o : Option ℕ) → place_of e.reply ≡ o → (0 < times y (all_places es) → HasPlace y es) → 0 < times y (all_places (e ∷ es)) → HasPlace y (e ∷ es)
  by_place None place rest = rw place (λ there. later (rest there))
  by_place (Some x) place rest = rw place (λ there. dite (ℕ_discrete y x)
      (λ e. record { at = 0; within = omega arith; is = λ d. place ∙ ap Some (sym e) })
      (λ other. let none = same_no y x other in later (rest (omega (arith, there, none)))))

-- a place of an exchange is one of all
place-more : (x : ℕ) (e : Exchange) (es : List Exchange) → times x (all_places es) ≤ times x (all_places (e ∷ es))
unfolding times
place-more x e es = by_place (place_of e.reply) refl where
  by_place : (o : Option ℕ) → place_of e.reply ≡ o → times x (all_places es) ≤ times x (all_places (e ∷ es))
  by_place None place = rw place (omega arith)
  by_place (Some y) place = rw place (omega arith)

place-there : (x : ℕ) (es : List Exchange) → AllByRecursion (λ e. place_of e.reply ≡ Some x → 0 < times x (all_places es)) es
place-there x [] = tt
place-there x (e ∷ es) = (
  here x e es,
  each-weaker (λ f. place_of f.reply ≡ Some x → 0 < times x (all_places es)) (λ f. place_of f.reply ≡ Some x → 0 < times x (all_places (e ∷ es)))
      (λ f there at. let some_there = there at in let more = place-more x e es in omega (arith, some_there, more)) es (place-there x es),
) where
  here : (x : ℕ) (e : Exchange) (es : List Exchange) → place_of e.reply ≡ Some x → 0 < times x (all_places (e ∷ es))
  here x e es at = let one = times-cons x x (all_places es) in let same_x = same_yes x x refl in rw at (omega (arith, one, same_x))

module _ (z : Origin) (given history : List Entry) (es : List Exchange) (joined : AreJoined z given history 1 es) where
  one : IsPart z given history es
  one = subst (IsPart z given history) (all_of_one es) (joined.lanes 0 (omega arith))

  -- what a `from` before the exchange's own place would say
  own-place : (i : ℕ) (d : Exchange) → i < length es → (from x : ℕ) → from_of (slice_index_or es i d).reply ≡ Some from → place_of (slice_index_or es i d).reply ≡ Some x
      → length given ≤ from → from < x → ⊥
  own-place i d lt from x told place behind early =
      let here = All-from_recursion (λ e. place_of e.reply ≡ Some x → 0 < times x (all_places es)) es (place-there x es) i d lt place in
      let mine = joined.places x in
      let last = below_some x (length history) (omega (arith, here, mine)) in
      let inside = below_yes from (length history) (omega (arith, last, early)) in
      let outside = below_no from (length given) behind in
      let there = has-place from es (omega (arith, joined.places from, inside, outside)) in
      dite (dec_le there.at i)
      (λ le. dite (ℕ_discrete there.at i)
      (λ same. let mixed : place_of (slice_index_or es i d).reply ≡ Some from = ap (λ (k : ℕ). place_of (slice_index_or es k d).reply) (sym same) ∙ there.is d in
      let equal : x ≡ from = cc in omega (arith, equal, early))
      (λ other. let earlier = one.sees_own there.at i d (omega (arith, le, other)) lt from from (there.is d) told in omega (arith, earlier)))
      (λ far. let later = one.rising i there.at d (lt_of_not-le far) there.within x from place (there.is d) in omega (arith, later, early))

  own-from : All (λ e. (from : ℕ) → from_of e.reply ≡ Some from → place_of e.reply ≡ Some from) es
  own-from i d lt from told =
      let at = from_placed (slice_index_or es i d).reply from told in
      let far = one.froms i d lt from at.0 told at.1 in
      dite (ℕ_discrete at.0 from) (λ same. at.1 ∙ ap Some same)
      (λ other. absurd (own-place i d lt from at.0 told at.1 far.0 (omega (arith, far.1, other))))

  pub joined_one_lane : IsOneLane es
  joined_one_lane = record { rising = one.rising; full_stays = one.stay; own_from = own-from }
