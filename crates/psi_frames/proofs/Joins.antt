-- Replies that serve rounds, of which the last may still grow, and replies that serve more of this round from the history that these left,
-- serve all of it.
use Rattle.std.specs.Prelude.{◌≡◌, ℕ, zero, suc, ◌+◌, ◌-◌, ◌<◌, ◌≤◌, min, Bool, true, false, nat_eq, nat_lt, is_none, List, [], ◌∷◌, ◌++◌, length, map, take, drop, Option, Some, None, IsSome, slice_get, slice_index_or}
use Rattle.std.specs.List.{All, AllByRecursion, range_with_len}
use Rattle.std.specs.List.Sorted.{IsPermutation}
use Rattle.std.proofs.Common.{refl, sym, ap, ◌∙◌, subst, arith, append-nil, length-append}
use Rattle.std.proofs.lemmas.Bool.Decides.{nat_tests}
use Rattle.std.proofs.lemmas.List.{map-append, nil_from_length, take-append-drop, take-append-le, take_all}
use Rattle.std.proofs.lemmas.List.Concat.{flat_map-append}
use Rattle.std.proofs.lemmas.List.Elements.{All-append, All-from_recursion, All-map, All-nil, recursion_from_All}
use Rattle.std.proofs.lemmas.List.Sorted.{IsPermutation-append, IsPermutation-refl}
use Rattle.psi_residue.specs.Parameters.{Parameters}
use Rattle.psi_bundle.specs.declared.history.Entry.{Entry}
use Rattle.psi_bundle.specs.Versions.{Version}
use Rattle.psi_bundle.specs.Histories.{IsLegal, replay, most_entries}
use Rattle.query_codec.specs.Replies.{reply_body}
use Rattle.psi_frames.specs.declared.reply.Reply.TheVariants as reply
use Rattle.psi_frames.specs.declared.request.Request.{Request}
use Rattle.psi_frames.specs.OneLane.{HasByteCode}
use Rattle.psi_frames.specs.Requests.{code_of, is_repack, journal_full, asked_ciphertexts}
use Rattle.psi_frames.specs.Served.{AreServed, Exchange, FollowOn, HasPlaceOrIsFull, HaveOneReplyEach, IsEvaluated, IsFromWithin, IsOneLane, IsRecorded, IsServed, PlacesRise, SameSession, SeesOwn, Sent, StaysFull, address_of_reply, address_of_request, all_places, exchanges, first_place, from_of, place_of, places_in, places_of_round, requests_of, uncoded_of_round}
use Rattle.psi_frames.proofs.Each.{each-weaker}
use Rattle.psi_frames.proofs.EntryLists.{front-get}
use Rattle.psi_frames.proofs.FirstRounds.{before-more}
use Rattle.psi_frames.proofs.Following.{before}
use Rattle.psi_frames.proofs.OneText.{IsFrom}
use Rattle.psi_frames.proofs.Placed.{IsCodedRight, from_placed, places-append, places-every, places-none, uncoded-append}
use Rattle.psi_frames.proofs.Pairs.{pairs-append, pairs-map}
use Rattle.psi_frames.proofs.Places.{IsBelow, none_placed, permuted-from, permuted-length, places-each, places-fewer, places-parts, recorded-below}
use Rattle.psi_frames.proofs.Renumbered.{exchanges-one_more, exchanges-part, in_round, moved, places-moved, requests-each, requests-part, rounds-below, rounds-first, uncoded-none}

-- a reply of a full journal is to a request without a code
full-uncoded : (e : Exchange) (o : Option ℕ) → code_of e.request ≡ o → HasByteCode e.request → IsCodedRight e → e.reply ≡ reply.Refused journal_full → code_of e.request ≡ None
full-uncoded e None code byte right full = code
full-uncoded e (Some c) code byte right full =
    let refused = right c code in
    let low = byte c code in
    let same : c ≡ journal_full = cc in
    absurd (omega (arith, low, same))

-- what holds of a round's number holds of each exchange that has it
each-moved : (P : ℕ → Type 0) (k : ℕ) (es : List Exchange) → P k → AllByRecursion (λ e. P e.round) (moved k es)
each-moved P k [] h = tt
each-moved P k (e ∷ es) h = (h, each-moved P k es h)

uncoded-moved : (k : ℕ) (es : List Exchange) → AllByRecursion (λ e. e.round ≡ 0) es → uncoded_of_round k (moved k es) ≡ uncoded_of_round 0 es
uncoded-moved k [] h = refl
uncoded-moved k (e ∷ es) h = by_code (is_none (code_of e.request)) refl (uncoded-moved k es h.1) where
  by_code : (b : Bool) → is_none (code_of e.request) ≡ b → uncoded_of_round k (moved k es) ≡ uncoded_of_round 0 es → uncoded_of_round k (moved k (e ∷ es)) ≡ uncoded_of_round 0 (e ∷ es)
  by_code true code rest =
      let own : nat_eq k k ≡ true = grind (arith, nat_tests) in
      let zero_is = h.0 in
      let here : nat_eq 0 e.round ≡ true = grind (arith, nat_tests, zero_is) in
      rw (own, here, code) (ap suc rest)
  by_code false code rest =
      let own : nat_eq k k ≡ true = grind (arith, nat_tests) in
      let zero_is = h.0 in
      let here : nat_eq 0 e.round ≡ true = grind (arith, nat_tests, zero_is) in
      rw (own, here, code) rest

-- numbers that follow on, by other names
same-follow : (xs ys : List ℕ) (a b u v : ℕ) → ys ≡ xs → b ≡ a → v ≡ u → IsPermutation xs (range_with_len a (min u (most_entries - a))) → IsPermutation ys (range_with_len b (min v (most_entries - b)))
same-follow xs ys a b u v e f g h =
    subst (λ (t : List ℕ × ℕ × ℕ). IsPermutation t.0 (range_with_len t.1 (min t.2 (most_entries - t.1)))) (λ i. (sym e i, sym f i, sym g i)) h

-- two ranges, one behind the other
range-parts : (low m n : ℕ) → range_with_len low m ++ range_with_len (low + m) n ≡ range_with_len low (m + n)
range-parts low zero n =
    let start : low + 0 ≡ low = omega arith in
    let number : n ≡ 0 + n = omega arith in
    λ i. range_with_len (start i) (number i)
range-parts low (suc m) n =
    let start : low + suc m ≡ (low + 1) + m = omega arith in
    let number : suc (m + n) ≡ suc m + n = omega arith in
    ap (λ (k : ℕ). low ∷ (range_with_len (low + 1) m ++ range_with_len k n)) start ∙ ap (λ (xs : List ℕ). low ∷ xs) (range-parts (low + 1) m n)
    ∙ ap (range_with_len low) number

-- the numbers of a part follow on, and those of the next part behind them
follow-parts : (xs ys : List ℕ) (low middle u v : ℕ) → IsPermutation xs (range_with_len low (min u (most_entries - low))) → IsPermutation ys (range_with_len middle (min v (most_entries - middle)))
    → middle ≡ low + min u (most_entries - low) → IsPermutation (xs ++ ys) (range_with_len low (min (u + v) (most_entries - low)))
follow-parts xs ys low middle u v first next ends =
    let m = min u (most_entries - low) in
    let n = min v (most_entries - middle) in
    let all : range_with_len low m ++ range_with_len middle n ≡ range_with_len low (min (u + v) (most_entries - low)) =
    ap (λ (k : ℕ). range_with_len low m ++ range_with_len k n) ends ∙ range-parts low m n ∙ ap (range_with_len low) (omega (arith, ends)) in
    subst (IsPermutation (xs ++ ys)) all (IsPermutation-append xs (range_with_len low m) ys (range_with_len middle n) first next)

module _ (p : Parameters) (start : Version) (given middle history : List Entry) (rounds : List (List Request)) (part next : List Request) (es fs : List Exchange)
    (old : AreServed p start given middle (rounds ++ part ∷ []) es) (new : AreServed p start middle history (next ∷ []) fs)
    (below : AllByRecursion (λ e. e.round < length rounds + 1) es) (first : AllByRecursion (λ e. e.round ≡ 0) fs) (bytes : AllByRecursion (λ e. HasByteCode e.request) es) where
  -- the new exchanges, with the number of their round
  abbrev pub gs : List Exchange
  gs = moved (length rounds) fs

  number : length (rounds ++ part ∷ []) ≡ length rounds + 1
  number = length-append rounds (part ∷ [])

  grown : history ≡ middle ++ drop (length middle) history
  grown = sym (take-append-drop (length middle) history) ∙ ap (λ (t : List Entry). t ++ drop (length middle) history) new.history_of.begins

  coded-old : AllByRecursion IsCodedRight es
  coded-old = recursion_from_All IsCodedRight es old.coded

  -- places of the old are below the length of the old history, and those of the new are not
  below-old : All (IsBelow (length middle)) es
  below-old i d lt = recorded-below middle (slice_index_or es i d) (old.coded i d lt) (old.history_of.recorded i d lt)

  kept : AllByRecursion (λ e. nat_eq 0 e.round ≡ true) fs
  kept = each-weaker (λ e. e.round ≡ 0) (λ e. nat_eq 0 e.round ≡ true) (λ e same. grind (arith, nat_tests, same)) fs first

  from-new : All (IsFrom (length middle)) fs
  from-new =
      All-from_recursion (IsFrom (length middle)) fs
      (places-each (λ x. length middle ≤ x) (nat_eq 0) fs kept
      (permuted-from (first_place middle 0 fs) (min (uncoded_of_round 0 fs) (most_entries - first_place middle 0 fs)) (length middle) (places_of_round 0 fs) (new.placed.places 0 (omega arith)) (omega arith)))

  -- and so is each `from` of the new
  since-new : All (λ f. (from : ℕ) → from_of f.reply ≡ Some from → length middle ≤ from) fs
  since-new i d lt from told =
      let at = from_placed (slice_index_or fs i d).reply from told in
      let within = new.since.within i d lt from at.0 told at.1 in
      omega (arith, within.0)

  -- a full journal stays full
  full-new : All (λ f. most_entries ≤ length middle → place_of f.reply ≡ None) fs
  full-new i d lt full =
      let size = permuted-length (first_place middle 0 fs) (min (uncoded_of_round 0 fs) (most_entries - first_place middle 0 fs)) (places_of_round 0 fs) (new.placed.places 0 (omega arith)) in
      none_placed (nat_eq 0) fs kept (nil_from_length (places_of_round 0 fs) (omega (arith, size, full))) i d lt

  full-old : All (λ e. e.reply ≡ reply.Refused journal_full → most_entries ≤ length middle) es
  full-old i d lt refused =
      let e = slice_index_or es i d in
      let code = full-uncoded e (code_of e.request) refl (All-from_recursion (λ f. HasByteCode f.request) es bytes i d lt) (old.coded i d lt) refused in
      let place : place_of e.reply ≡ None = ap place_of refused in
      let fewer = All-from_recursion (λ f. code_of f.request ≡ None → place_of f.reply ≡ None → length (places_of_round f.round es) < uncoded_of_round f.round es) es (places-fewer es coded-old) i d lt code place in
      let in_rounds = All-from_recursion (λ f. f.round < length rounds + 1) es below i d lt in
      let size = permuted-length (first_place given e.round es) (min (uncoded_of_round e.round es) (most_entries - first_place given e.round es)) (places_of_round e.round es)
      (old.placed.places e.round (omega (arith, in_rounds, number))) in
      let parts = places-parts e.round es in
      omega (arith, fewer, size, parts, old.history_of.no_others)

  -- what the old history told, the new one tells
  recorded-old : All (IsRecorded history) es
  recorded-old i d lt x a place told =
      ap (λ (h : List Entry). slice_get h x) grown ∙ front-get middle (drop (length middle) history) x (below-old i d lt x place) ∙ old.history_of.recorded i d lt x a place told

  evaluated-old : All (IsEvaluated p start history) es
  evaluated-old i d lt x body place told =
      let le : x ≤ length middle = omega (arith, below-old i d lt x place) in
      old.evaluated i d lt x body place told
      ∙ ap (λ (h : List Entry). reply_body p (replay start h).rows (asked_ciphertexts (slice_index_or es i d).request))
      (sym (ap (take x) grown ∙ take-append-le x middle (drop (length middle) history) le))

  -- the places of the new ones, among all
  moved-none : (keep : ℕ → Bool) → keep (length rounds) ≡ false → places_in keep gs ≡ []
  moved-none keep other = places-none keep gs (each-moved (λ k. keep k ≡ false) (length rounds) fs other)

  moved-all : (keep : ℕ → Bool) → keep (length rounds) ≡ true → places_in keep gs ≡ all_places fs
  moved-all keep same = places-moved keep (length rounds) fs ∙ ap (λ (b : Bool). places_in (λ _. b) fs) same

  first-old : (j : ℕ) → j ≤ length rounds → first_place given j (es ++ gs) ≡ first_place given j es
  first-old j le =
      ap (λ (xs : List ℕ). length given + length xs)
      (places-append (λ k. nat_lt k j) es gs ∙ ap (λ (xs : List ℕ). before j es ++ xs) (moved-none (λ k. nat_lt k j) (grind (arith, nat_tests, le))) ∙ append-nil (before j es))

  -- the new places begin where those of the part end
  part-size : length (places_of_round (length rounds) es) ≡ min (uncoded_of_round (length rounds) es) (most_entries - first_place given (length rounds) es)
  part-size =
      let k = length rounds in
      permuted-length (first_place given k es) (min (uncoded_of_round k es) (most_entries - first_place given k es)) (places_of_round k es) (old.placed.places k (omega (arith, number)))

  ends-at : length middle ≡ first_place given (length rounds) es + length (places_of_round (length rounds) es)
  ends-at =
      let k = length rounds in
      let all : before (k + 1) es ≡ all_places es =
      places-every (λ j. nat_lt j (k + 1)) es (each-weaker (λ e. e.round < k + 1) (λ e. nat_lt e.round (k + 1) ≡ true) (λ e lt. grind (arith, nat_tests, lt)) es below) in
      omega (arith, old.history_of.no_others, ap length all, before-more k es)

  follow-old : (j : ℕ) → j < length rounds → FollowOn given (es ++ gs) j
  follow-old j lt =
      let other : nat_eq j (length rounds) ≡ false = grind (arith, nat_tests, lt) in
      same-follow (places_of_round j es) (places_of_round j (es ++ gs)) (first_place given j es) (first_place given j (es ++ gs)) (uncoded_of_round j es) (uncoded_of_round j (es ++ gs))
      (places-append (nat_eq j) es gs ∙ ap (λ (xs : List ℕ). places_of_round j es ++ xs) (moved-none (nat_eq j) other) ∙ append-nil (places_of_round j es))
      (first-old j (omega (arith, lt)))
      (uncoded-append j es gs ∙ omega (arith, uncoded-none j gs (each-moved (λ k. nat_eq j k ≡ false) (length rounds) fs other)))
      (old.placed.places j (omega (arith, lt, number)))

  none-first : length (places_in (λ k. nat_lt k 0) fs) ≡ 0
  none-first = ap length (places-none (λ k. nat_lt k 0) fs (each-weaker (λ e. e.round ≡ 0) (λ e. nat_lt e.round 0 ≡ false) (λ e same. grind (arith, nat_tests, same)) fs first))

  follow-new : FollowOn given (es ++ gs) (length rounds)
  follow-new =
      let k = length rounds in
      let own : nat_eq k k ≡ true = grind (arith, nat_tests) in
      let u = uncoded_of_round k es in
      let v = uncoded_of_round 0 fs in
      let low = first_place given k es in
      let more : IsPermutation (places_of_round 0 fs) (range_with_len (length middle) (min v (most_entries - length middle))) =
      same-follow (places_of_round 0 fs) (places_of_round 0 fs) (first_place middle 0 fs) (length middle) v v refl (omega (arith, none-first)) refl (new.placed.places 0 (omega arith)) in
      let joined = follow-parts (places_of_round k es) (places_of_round 0 fs) low (length middle) u v (old.placed.places k (omega (arith, number))) more (omega (arith, ends-at, part-size)) in
      same-follow (places_of_round k es ++ places_of_round 0 fs) (places_of_round k (es ++ gs)) low (first_place given k (es ++ gs)) (u + v) (uncoded_of_round k (es ++ gs))
      (places-append (nat_eq k) es gs ∙ ap (λ (xs : List ℕ). places_of_round k es ++ xs) (moved-all (nat_eq k) own ∙ sym (places-every (nat_eq 0) fs kept)))
      (first-old k (omega arith))
      (uncoded-append k es gs ∙ omega (arith, uncoded-moved k fs first))
      joined

  follow : (j : ℕ) → j < length (rounds ++ (part ++ next) ∷ []) → FollowOn given (es ++ gs) j
  follow j lt = by_test (nat_lt j (length rounds)) refl where
    by_test : (b : Bool) → nat_lt j (length rounds) ≡ b → FollowOn given (es ++ gs) j
    by_test true test = follow-old j (grind (arith, nat_tests, test))
    by_test false test =
        let le : length rounds ≤ j = grind (arith, nat_tests, test) in
        let same : length rounds ≡ j = omega (arith, le, lt, length-append rounds ((part ++ next) ∷ [])) in
        subst (FollowOn given (es ++ gs)) same follow-new

  within-old : All (IsFromWithin given (es ++ gs)) es
  within-old i d lt from x told place =
      let w = old.since.within i d lt from x told place in
      let in_rounds = All-from_recursion (λ f. f.round < length rounds + 1) es below i d lt in
      let same = first-old (slice_index_or es i d).round (omega (arith, in_rounds)) in
      (omega (arith, w.0, same), w.1)

  within-new : All (λ f. IsFromWithin given (es ++ gs) (in_round (length rounds) f)) fs
  within-new i d lt from x told place =
      let w = new.since.within i d lt from x told place in
      (omega (arith, w.0, first-old (length rounds) (omega arith), ends-at), w.1)

  number-all : length history ≡ length given + length (all_places (es ++ gs))
  number-all =
      let both = ap length (places-append (λ _. true) es gs) ∙ length-append (all_places es) (all_places gs) in
      omega (arith, new.history_of.no_others, old.history_of.no_others, both, ap length (moved-all (λ _. true) refl))

  pub served-joins : AreServed p start given history (rounds ++ (part ++ next) ∷ []) (es ++ gs)
  served-joins =
      let k = length rounds in
      record {
        history_of = record {
          begins = ap (take (length given)) grown ∙ take-append-le (length given) middle (drop (length middle) history) (omega (arith, old.history_of.no_others)) ∙ old.history_of.begins;
          no_others = number-all;
          recorded = All-append (IsRecorded history) es gs recorded-old (All-map (IsRecorded history) (in_round k) fs new.history_of.recorded);
        };
        coded = All-append IsCodedRight es gs old.coded (All-map IsCodedRight (in_round k) fs new.coded);
        placed = record {
          places = follow;
          others = All-append HasPlaceOrIsFull es gs old.placed.others (All-map HasPlaceOrIsFull (in_round k) fs new.placed.others);
          stay = pairs-append (λ a b. SameSession a b → StaysFull a b) (λ e. e.reply ≡ reply.Refused journal_full → most_entries ≤ length middle)
              (λ f. most_entries ≤ length middle → place_of f.reply ≡ None) (λ a b x y same refused. y (x refused)) es gs old.placed.stay
              (pairs-map (λ a b. SameSession a b → StaysFull a b) (in_round k) fs new.placed.stay) full-old (All-map (λ f. most_entries ≤ length middle → place_of f.reply ≡ None) (in_round k) fs full-new);
        };
        rising = pairs-append (λ a b. SameSession a b → PlacesRise a b) (IsBelow (length middle)) (IsFrom (length middle))
            (λ a b x y same m n at on. let low = x m at in let high = y n on in omega (arith, low, high)) es gs old.rising
            (pairs-map (λ a b. SameSession a b → PlacesRise a b) (in_round k) fs new.rising) below-old (All-map (IsFrom (length middle)) (in_round k) fs from-new);
        stepped = record {
          repacks = All-append (λ e. is_repack e.request ≡ true → IsSome (place_of e.reply) → IsSome (from_of e.reply)) es gs old.stepped.repacks
              (All-map (λ e. is_repack e.request ≡ true → IsSome (place_of e.reply) → IsSome (from_of e.reply)) (in_round k) fs new.stepped.repacks);
          legal = new.stepped.legal;
        };
        since = record {
          within = All-append (IsFromWithin given (es ++ gs)) es gs within-old (All-map (IsFromWithin given (es ++ gs)) (in_round k) fs within-new);
          own = pairs-append (λ a b. SameSession a b → SeesOwn a b) (IsBelow (length middle)) (λ f. (from : ℕ) → from_of f.reply ≡ Some from → length middle ≤ from)
              (λ a b x y same m from at told. let low = x m at in let high = y from told in omega (arith, low, high)) es gs old.since.own
              (pairs-map (λ a b. SameSession a b → SeesOwn a b) (in_round k) fs new.since.own) below-old
              (All-map (λ f. (from : ℕ) → from_of f.reply ≡ Some from → length middle ≤ from) (in_round k) fs since-new);
        };
        evaluated = All-append (IsEvaluated p start history) es gs evaluated-old (All-map (IsEvaluated p start history) (in_round k) fs new.evaluated);
      }

  -- so do those of one lane
  pub lane-joins : IsOneLane es → IsOneLane fs → IsOneLane (es ++ gs)
  lane-joins one next =
      let k = length rounds in
      record {
        rising = pairs-append PlacesRise (IsBelow (length middle)) (IsFrom (length middle)) (λ a b x y m n at on. let low = x m at in let high = y n on in omega (arith, low, high)) es gs one.rising
            (pairs-map PlacesRise (in_round k) fs next.rising) below-old (All-map (IsFrom (length middle)) (in_round k) fs from-new);
        full_stays = pairs-append StaysFull (λ e. e.reply ≡ reply.Refused journal_full → most_entries ≤ length middle) (λ f. most_entries ≤ length middle → place_of f.reply ≡ None)
            (λ a b x y refused. y (x refused)) es gs one.full_stays (pairs-map StaysFull (in_round k) fs next.full_stays) full-old
            (All-map (λ f. most_entries ≤ length middle → place_of f.reply ≡ None) (in_round k) fs full-new);
        own_from = All-append (λ e. (from : ℕ) → from_of e.reply ≡ Some from → place_of e.reply ≡ Some from) es gs one.own_from
            (All-map (λ e. (from : ℕ) → from_of e.reply ≡ Some from → place_of e.reply ≡ Some from) (in_round k) fs next.own_from);
      }

-- A round that grows by a part.
module _ (p : Parameters) (start : Version) (given middle history : List Entry) (rounds : List (List Request)) (part next : List Request) (sents more : List Sent)
    (old : IsServed p start given middle (rounds ++ part ∷ []) sents) (new : IsServed p start middle history (next ∷ []) more) (bytes : AllByRecursion HasByteCode (requests_of (rounds ++ part ∷ []))) where
  abbrev pub es : List Exchange
  es = exchanges (rounds ++ part ∷ []) sents

  abbrev pub fs : List Exchange
  fs = exchanges (next ∷ []) more

  all-are : exchanges (rounds ++ (part ++ next) ∷ []) (sents ++ more) ≡ es ++ moved (length rounds) fs
  all-are = exchanges-part rounds part next sents more old.one_each

  below : AllByRecursion (λ e. e.round < length rounds + 1) es
  below = subst (λ (n : ℕ). AllByRecursion (λ e. e.round < n) es) (length-append rounds (part ∷ [])) (rounds-below (rounds ++ part ∷ []) sents)

  one_each : HaveOneReplyEach (rounds ++ (part ++ next) ∷ []) (sents ++ more)
  one_each =
      map-append address_of_reply sents more ∙ (λ i. old.one_each i ++ new.one_each i)
      ∙ sym (map-append address_of_request (requests_of (rounds ++ part ∷ [])) (requests_of (next ∷ [])))
      ∙ ap (map address_of_request) (sym (requests-part rounds part next))

  pub part_joins : IsServed p start given history (rounds ++ (part ++ next) ∷ []) (sents ++ more)
  part_joins = record {
    one_each = one_each;
    served = subst (λ (all : List Exchange). AreServed p start given history (rounds ++ (part ++ next) ∷ []) all) (sym all-are)
        (served-joins p start given middle history rounds part next es fs old.served new.served below (rounds-first next more) (requests-each HasByteCode (rounds ++ part ∷ []) sents bytes));
  }

  pub part_joins_lane : IsOneLane es → IsOneLane fs → IsOneLane (exchanges (rounds ++ (part ++ next) ∷ []) (sents ++ more))
  part_joins_lane one another =
      subst IsOneLane (sym all-are)
      (lane-joins p start given middle history rounds part next es fs old.served new.served below (rounds-first next more) (requests-each HasByteCode (rounds ++ part ∷ []) sents bytes) one another)

-- No replies serve no rounds.
pub none_served : (p : Parameters) (start : Version) (given : List Entry) → IsLegal start given → IsServed p start given given [] []
none_served p start given legal = record {
  one_each = refl;
  served = record {
    history_of = record { begins = take_all (length given) given (omega arith); no_others = omega arith; recorded = All-nil (IsRecorded given) };
    coded = All-nil IsCodedRight;
    placed = record { places = λ k lt. absurd (omega (arith, lt)); others = All-nil HasPlaceOrIsFull; stay = λ i j d lt le. absurd (omega (arith, le)) };
    rising = λ i j d lt le. absurd (omega (arith, le));
    stepped = record { repacks = All-nil (λ e. is_repack e.request ≡ true → IsSome (place_of e.reply) → IsSome (from_of e.reply)); legal = legal };
    since = record { within = All-nil (IsFromWithin given []); own = λ i j d lt le. absurd (omega (arith, le)) };
    evaluated = All-nil (IsEvaluated p start given);
  };
}

pub none_lane : IsOneLane []
none_lane = record {
  rising = λ i j d lt le. absurd (omega (arith, le));
  full_stays = λ i j d lt le. absurd (omega (arith, le));
  own_from = All-nil (λ e. (from : ℕ) → from_of e.reply ≡ Some from → place_of e.reply ≡ Some from);
}

-- Behind rounds that are served a round has begun, of which nothing came yet.
module _ (p : Parameters) (start : Version) (given history : List Entry) (rounds : List (List Request)) (sents : List Sent) (old : IsServed p start given history rounds sents) where
  abbrev xs : List Exchange
  xs = exchanges rounds sents

  pub same-exchanges : exchanges (rounds ++ [] ∷ []) sents ≡ xs
  same-exchanges =
      ap (exchanges (rounds ++ [] ∷ [])) (sym (append-nil sents)) ∙ exchanges-one_more rounds [] sents [] old.one_each ∙ append-nil xs

  same-requests : requests_of (rounds ++ [] ∷ []) ≡ requests_of rounds
  same-requests = flat_map-append (λ (r : List Request). r) rounds ([] ∷ []) ∙ append-nil (requests_of rounds)

  -- no place is of its round
  none-follow : FollowOn given xs (length rounds)
  none-follow =
      let k = length rounds in
      let others = each-weaker (λ e. e.round < k) (λ e. nat_eq k e.round ≡ false) (λ e lt. grind (arith, nat_tests, lt)) xs (rounds-below rounds sents) in
      let none : 0 ≡ min 0 (most_entries - first_place given k xs) = omega arith in
      same-follow [] (places_of_round k xs) (first_place given k xs) (first_place given k xs) 0 (uncoded_of_round k xs) (places-none (nat_eq k) xs others) refl (uncoded-none k xs others)
      (subst (λ (n : ℕ). IsPermutation [] (range_with_len (first_place given k xs) n)) none (IsPermutation-refl []))

  follow-all : (j : ℕ) → j < length (rounds ++ [] ∷ []) → FollowOn given xs j
  follow-all j lt = by_test (nat_lt j (length rounds)) refl where
    by_test : (b : Bool) → nat_lt j (length rounds) ≡ b → FollowOn given xs j
    by_test true test = old.served.placed.places j (grind (arith, nat_tests, test))
    by_test false test =
        let le : length rounds ≤ j = grind (arith, nat_tests, test) in
        let same : length rounds ≡ j = omega (arith, le, lt, length-append rounds ([] ∷ [])) in
        subst (FollowOn given xs) same none-follow

  pub empty_begins : IsServed p start given history (rounds ++ [] ∷ []) sents
  empty_begins = record {
    one_each = old.one_each ∙ ap (map address_of_request) (sym same-requests);
    served = subst (λ (all : List Exchange). AreServed p start given history (rounds ++ [] ∷ []) all) (sym same-exchanges) (record {
      history_of = old.served.history_of;
      coded = old.served.coded;
      placed = record { places = follow-all; others = old.served.placed.others; stay = old.served.placed.stay };
      rising = old.served.rising;
      stepped = old.served.stepped;
      since = old.served.since;
      evaluated = old.served.evaluated;
    });
  }

-- One round more: a round that has begun with nothing grows by it.
module _ (p : Parameters) (start : Version) (given middle history : List Entry) (rounds : List (List Request)) (round : List Request) (sents next : List Sent)
    (old : IsServed p start given middle rounds sents) (new : IsServed p start middle history (round ∷ []) next) (bytes : AllByRecursion HasByteCode (requests_of rounds)) where
  begun : AllByRecursion HasByteCode (requests_of (rounds ++ [] ∷ []))
  begun = subst (AllByRecursion HasByteCode) (sym (same-requests p start given middle rounds sents old)) bytes

  pub round_joins : IsServed p start given history (rounds ++ round ∷ []) (sents ++ next)
  round_joins = part_joins p start given middle history rounds [] round sents next (empty_begins p start given middle rounds sents old) new begun

  pub round_joins_lane : IsOneLane (exchanges rounds sents) → IsOneLane (exchanges (round ∷ []) next) → IsOneLane (exchanges (rounds ++ round ∷ []) (sents ++ next))
  round_joins_lane one more =
      part_joins_lane p start given middle history rounds [] round sents next (empty_begins p start given middle rounds sents old) new begun
      (subst IsOneLane (sym (same-exchanges p start given middle rounds sents old)) one) more
