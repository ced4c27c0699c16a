-- The places of the one-thread sender's exchanges follow on, round by round.
use Rattle.std.specs.Prelude.{◌≡◌, ℕ, ◌+◌, ◌-◌, ◌<◌, ◌≤◌, min, true, false, nat_eq, nat_lt, List, [], ◌∷◌, ◌++◌, length, map, Option, Some, None}
use Rattle.std.specs.List.{AllByRecursion, enumerate_from, flat_map, range_with_len}
use Rattle.std.proofs.Common.{refl, sym, ap, ◌∙◌, subst, arith, length-append, eq-eqb}
use mathlib.Core.Logic.{dite}
use native.Mathlib.Decide.{ℕ_discrete}
use Rattle.std.proofs.lemmas.Bool.{lt-ltb}
use Rattle.std.proofs.lemmas.Bool.Decides.{nat_tests}
use Rattle.std.proofs.lemmas.List.{map-append, append-nil}
use Rattle.std.proofs.lemmas.List.FromFn.{length-range_with_len}
use Rattle.psi_residue.specs.Parameters.{Parameters}
use Rattle.psi_bundle.specs.declared.history.Call.{Call}
use Rattle.psi_bundle.specs.Versions.{Version}
use Rattle.psi_bundle.specs.Histories.{most_entries}
use Rattle.psi_frames.specs.declared.request.Request.{Request}
use Rattle.psi_frames.specs.Served.{Exchange, requests_of, place_of, places_in, places_of_round, uncoded_of_round}
use Rattle.psi_frames.specs.OneLane.{call_on, reply_by, lane_next, lane_history}
use Rattle.psi_frames.proofs.Each.{each-weaker, each-both, each-append}
use Rattle.psi_frames.proofs.Placed.{places-append, uncoded-append}
use Rattle.psi_frames.proofs.Turns.{place-reply, count-behind}
use Rattle.psi_frames.proofs.Lanes.{seconds, lane, lane_end, lane-append, count-end, places-kept, places-others, uncoded, length-history, uncoded-kept, uncoded-others}

-- one round's requests, with its number
abbrev pub of_round : ℕ → List Request → List (ℕ × Request)
of_round j rs = map (λ r. (j, r)) rs

-- the requests of rounds, numbered from j on
abbrev pub numbered_from : ℕ → List (List Request) → List (ℕ × Request)
numbered_from j rounds = flat_map (λ round. map (λ r. (round.0, r)) round.1) (enumerate_from j rounds)

seconds-of_round : (j : ℕ) (rs : List Request) → seconds (of_round j rs) ≡ rs
seconds-of_round j [] = refl
seconds-of_round j (r ∷ rs) = ap (λ (xs : List Request). r ∷ xs) (seconds-of_round j rs)

pub seconds-numbered : (j : ℕ) (rounds : List (List Request)) → seconds (numbered_from j rounds) ≡ requests_of rounds
seconds-numbered j [] = refl
seconds-numbered j (round ∷ rounds) =
    map-append (λ (n : ℕ × Request). n.1) (of_round j round) (numbered_from (j + 1) rounds)
    ∙ (λ i. seconds-of_round j round i ++ seconds-numbered (j + 1) rounds i)

-- what holds of a round's number holds of each of its requests
pub each-of_round : (P : ℕ → Type 0) (j : ℕ) (rs : List Request) → P j → AllByRecursion (λ n. P n.0) (of_round j rs)
each-of_round P j [] h = tt
each-of_round P j (r ∷ rs) h = (h, each-of_round P j rs h)

pub each-numbered : (j : ℕ) (rounds : List (List Request)) → AllByRecursion (λ n. j ≤ n.0) (numbered_from j rounds)
each-numbered j [] = tt
each-numbered j (round ∷ rounds) =
    each-append (λ n. j ≤ n.0) (of_round j round) (numbered_from (j + 1) rounds) (each-of_round (λ k. j ≤ k) j round (omega arith))
    (each-weaker (λ n. j + 1 ≤ n.0) (λ n. j ≤ n.0) (λ n le. omega arith) (numbered_from (j + 1) rounds) (each-numbered (j + 1) rounds))

-- the places before a round
abbrev pub before : ℕ → List Exchange → List ℕ
before k es = places_in (λ round. nat_lt round k) es

-- the places of a round follow on behind so many entries and those of earlier rounds
abbrev pub FollowsFrom : ℕ → ℕ → List Exchange → Type 0
FollowsFrom base k es =
    places_of_round k es ≡ range_with_len (base + length (before k es)) (min (uncoded_of_round k es) (most_entries - (base + length (before k es))))

-- the first round, and then others
follow-here : (base k m u : ℕ) (xs ys : List Exchange) → places_of_round k xs ≡ range_with_len base m → places_of_round k ys ≡ [] → before k xs ≡ [] → before k ys ≡ []
    → uncoded_of_round k xs ≡ u → uncoded_of_round k ys ≡ 0 → m ≡ min u (most_entries - base) → FollowsFrom base k (xs ++ ys)
follow-here base k m u xs ys here none early late mine theirs number =
    let places = places-append (nat_eq k) xs ys ∙ (λ i. here i ++ none i) ∙ append-nil (range_with_len base m) in
    let first : length (before k (xs ++ ys)) ≡ 0 = ap length (places-append (λ round. nat_lt round k) xs ys ∙ (λ i. early i ++ late i)) in
    let all : uncoded_of_round k (xs ++ ys) ≡ u = uncoded-append k xs ys ∙ omega (arith, mine, theirs) in
    let start : base ≡ base + length (before k (xs ++ ys)) = omega (arith, first) in
    let count : m ≡ min (uncoded_of_round k (xs ++ ys)) (most_entries - (base + length (before k (xs ++ ys)))) = omega (arith, first, all, number) in
    places ∙ (λ i. range_with_len (start i) (count i))

-- a later round
follow-later : (base next k m : ℕ) (xs ys : List Exchange) → places_of_round k xs ≡ [] → length (before k xs) ≡ m → uncoded_of_round k xs ≡ 0 → next ≡ base + m
    → FollowsFrom next k ys → FollowsFrom base k (xs ++ ys)
follow-later base next k m xs ys none early mine moved follows =
    let places = places-append (nat_eq k) xs ys ∙ (λ i. none i ++ places_of_round k ys) in
    let first : length (before k (xs ++ ys)) ≡ m + length (before k ys) =
    ap length (places-append (λ round. nat_lt round k) xs ys) ∙ length-append (before k xs) (before k ys) ∙ omega (arith, early) in
    let all : uncoded_of_round k (xs ++ ys) ≡ uncoded_of_round k ys = uncoded-append k xs ys ∙ omega (arith, mine) in
    let start : next + length (before k ys) ≡ base + length (before k (xs ++ ys)) = omega (arith, first, moved) in
    places ∙ follows ∙ (λ i. range_with_len (start i) (min (sym all i) (most_entries - start i)))

-- the two parts of rounds from j on
module _ (p : Parameters) (v : Version) (j : ℕ) (round : List Request) (rounds : List (List Request)) where
  abbrev pub first_part : List Exchange
  first_part = lane p v (of_round j round)

  abbrev pub middle : Version
  middle = lane_end v (of_round j round)

  abbrev pub last_part : List Exchange
  last_part = lane p middle (numbered_from (j + 1) rounds)

  abbrev pub made : ℕ
  made = length (lane_history v (seconds (of_round j round)))

  count-middle : middle.count ≡ v.count + made
  count-middle = count-end v (of_round j round)

  follow-first : FollowsFrom v.count j (first_part ++ last_part)
  follow-first =
      let later = each-numbered (j + 1) rounds in
      follow-here v.count j made (uncoded (seconds (of_round j round))) first_part last_part
      (places-kept p v (of_round j round) (nat_eq j) (each-of_round (λ k. nat_eq j k ≡ true) j round (eq-eqb j j refl)))
      (places-others p middle (numbered_from (j + 1) rounds) (nat_eq j) (each-weaker (λ n. j + 1 ≤ n.0) (λ n. nat_eq j n.0 ≡ false) (λ n le. grind (arith, nat_tests, le)) (numbered_from (j + 1) rounds) later))
      (places-others p v (of_round j round) (λ k. nat_lt k j) (each-of_round (λ k. nat_lt k j ≡ false) j round (grind (arith, nat_tests))))
      (places-others p middle (numbered_from (j + 1) rounds) (λ k. nat_lt k j) (each-weaker (λ n. j + 1 ≤ n.0) (λ n. nat_lt n.0 j ≡ false) (λ n le. grind (arith, nat_tests, le)) (numbered_from (j + 1) rounds) later))
      (uncoded-kept p v (of_round j round) j (each-of_round (λ k. nat_eq j k ≡ true) j round (eq-eqb j j refl)))
      (uncoded-others p middle (numbered_from (j + 1) rounds) j (each-weaker (λ n. j + 1 ≤ n.0) (λ n. nat_eq j n.0 ≡ false) (λ n le. grind (arith, nat_tests, le)) (numbered_from (j + 1) rounds) later))
      (length-history v (seconds (of_round j round)))

  -- all places of the first part stand before a later round
  before-first : (k : ℕ) → j < k → length (before k first_part) ≡ made
  before-first k lt =
      ap length (places-kept p v (of_round j round) (λ n. nat_lt n k) (each-of_round (λ n. nat_lt n k ≡ true) j round (lt-ltb j k lt)))
      ∙ length-range_with_len v.count made

  follow-last : (k : ℕ) → j < k → FollowsFrom middle.count k last_part → FollowsFrom v.count k (first_part ++ last_part)
  follow-last k lt follows =
      let others = each-of_round (λ n. nat_eq k n ≡ false) j round (grind (arith, nat_tests, lt)) in
      follow-later v.count middle.count k made first_part last_part
      (places-others p v (of_round j round) (nat_eq k) others) (before-first k lt) (uncoded-others p v (of_round j round) k others) count-middle follows

-- the places of each round follow on
pub lane-follows : (p : Parameters) (v : Version) (j : ℕ) (rounds : List (List Request)) (k : ℕ) → j ≤ k → k < j + length rounds → FollowsFrom v.count k (lane p v (numbered_from j rounds))
lane-follows p v j [] k le lt = absurd (omega arith)
lane-follows p v j (round ∷ rounds) k le lt =
    subst (λ (es : List Exchange). FollowsFrom v.count k es) (sym (lane-append p v (of_round j round) (numbered_from (j + 1) rounds)))
    (dite (ℕ_discrete j k)
    (λ same. subst (λ (n : ℕ). FollowsFrom v.count n (first_part p v j round rounds ++ last_part p v j round rounds)) same (follow-first p v j round rounds))
    (λ other. let below : j < k = omega (arith, other, le) in
    follow-last p v j round rounds k below (lane-follows p (middle p v j round rounds) (j + 1) rounds k (omega (arith, below)) (omega (arith, lt)))))

-- the place of an exchange is no less than the first place of its round
abbrev pub IsBehind : ℕ → List Exchange → Exchange → Type 0
IsBehind base es e = (n : ℕ) → place_of e.reply ≡ Some n → base + length (before e.round es) ≤ n

-- no place of the lane is below the version's count
from-count_by : (p : Parameters) (v : Version) (r : Request) (o : Option Call) (n : ℕ) → place_of (reply_by p v r o) ≡ Some n → v.count ≤ n
from-count_by p v r (Some c) n e =
    let here : place_of (reply_by p v r (Some c)) ≡ Some v.count = place-reply _ _ _ in
    let same : v.count ≡ n = cc in
    omega (arith, same)
from-count_by p v r None n e = absurd (cc)

pub lane-from_count : (p : Parameters) (v : Version) (ns : List (ℕ × Request)) → AllByRecursion (λ e. (n : ℕ) → place_of e.reply ≡ Some n → v.count ≤ n) (lane p v ns)
lane-from_count p v [] = tt
lane-from_count p v (n ∷ ns) =
    let more = count-behind v (call_on v n.1) in (
      from-count_by p v n.1 (call_on v n.1),
      each-weaker (λ e. (m : ℕ) → place_of e.reply ≡ Some m → (lane_next v n.1).count ≤ m) (λ e. (m : ℕ) → place_of e.reply ≡ Some m → v.count ≤ m)
          (λ e h m place. let far = h m place in omega (arith, far, more)) (lane p (lane_next v n.1) ns) (lane-from_count p (lane_next v n.1) ns),
    )

-- what holds of the requests' rounds holds of the exchanges' rounds
pub lane-rounds : (P : ℕ → Type 0) (p : Parameters) (v : Version) (ns : List (ℕ × Request)) → AllByRecursion (λ n. P n.0) ns → AllByRecursion (λ e. P e.round) (lane p v ns)
lane-rounds P p v [] h = tt
lane-rounds P p v (n ∷ ns) h = (h.0, lane-rounds P p (lane_next v n.1) ns h.1)

-- the first round's and the later rounds' exchanges, among all
module _ (p : Parameters) (v : Version) (j : ℕ) (round : List Request) (rounds : List (List Request)) where
  abbrev pub both_parts : List Exchange
  both_parts = first_part p v j round rounds ++ last_part p v j round rounds

  behind-first : (e : Exchange) → (e.round ≡ j) × ((n : ℕ) → place_of e.reply ≡ Some n → v.count ≤ n) → IsBehind v.count both_parts e
  behind-first e h n place =
      let later = each-numbered (j + 1) rounds in
      let early = places-others p v (of_round j round) (λ k. nat_lt k j) (each-of_round (λ k. nat_lt k j ≡ false) j round (grind (arith, nat_tests))) in
      let late = places-others p (middle p v j round rounds) (numbered_from (j + 1) rounds) (λ k. nat_lt k j)
      (each-weaker (λ n. j + 1 ≤ n.0) (λ n. nat_lt n.0 j ≡ false) (λ n le. grind (arith, nat_tests, le)) (numbered_from (j + 1) rounds) later) in
      let none : length (before j both_parts) ≡ 0 = ap length (places-append (λ k. nat_lt k j) (first_part p v j round rounds) (last_part p v j round rounds) ∙ (λ i. early i ++ late i)) in
      let same : length (before e.round both_parts) ≡ 0 = ap (λ (k : ℕ). length (before k both_parts)) h.0 ∙ none in
      let far = h.1 n place in
      omega (arith, same, far)

  behind-last : (e : Exchange) → (j + 1 ≤ e.round) × IsBehind (middle p v j round rounds).count (last_part p v j round rounds) e → IsBehind v.count both_parts e
  behind-last e h n place =
      let first = before-first p v j round rounds e.round (omega (arith, h.0)) in
      let all : length (before e.round both_parts) ≡ made p v j round rounds + length (before e.round (last_part p v j round rounds)) =
      ap length (places-append (λ k. nat_lt k e.round) (first_part p v j round rounds) (last_part p v j round rounds))
      ∙ length-append (before e.round (first_part p v j round rounds)) (before e.round (last_part p v j round rounds)) ∙ omega (arith, first) in
      let far = h.1 n place in
      let moved = count-middle p v j round rounds in
      omega (arith, all, far, moved)

pub lane-behind : (p : Parameters) (v : Version) (j : ℕ) (rounds : List (List Request)) → AllByRecursion (IsBehind v.count (lane p v (numbered_from j rounds))) (lane p v (numbered_from j rounds))
lane-behind p v j [] = tt
lane-behind p v j (round ∷ rounds) =
    let xs = first_part p v j round rounds in
    let ys = last_part p v j round rounds in
    let mid = middle p v j round rounds in
    let mine = each-both (λ e. e.round ≡ j) (λ e. (n : ℕ) → place_of e.reply ≡ Some n → v.count ≤ n) xs
    (lane-rounds (λ k. k ≡ j) p v (of_round j round) (each-of_round (λ k. k ≡ j) j round refl)) (lane-from_count p v (of_round j round)) in
    let theirs = each-both (λ e. j + 1 ≤ e.round) (IsBehind mid.count ys) ys
    (lane-rounds (λ k. j + 1 ≤ k) p mid (numbered_from (j + 1) rounds) (each-numbered (j + 1) rounds)) (lane-behind p mid (j + 1) rounds) in
    subst (λ (es : List Exchange). AllByRecursion (IsBehind v.count es) es) (sym (lane-append p v (of_round j round) (numbered_from (j + 1) rounds)))
    (each-append (IsBehind v.count (xs ++ ys)) xs ys
    (each-weaker (λ e. (e.round ≡ j) × ((n : ℕ) → place_of e.reply ≡ Some n → v.count ≤ n)) (IsBehind v.count (xs ++ ys)) (behind-first p v j round rounds) xs mine)
    (each-weaker (λ e. (j + 1 ≤ e.round) × IsBehind mid.count ys e) (IsBehind v.count (xs ++ ys)) (behind-last p v j round rounds) ys theirs))
