-- The places of the lanes, lane after lane, are those of all exchanges.
use Rattle.std.specs.Prelude.{◌≡◌, ℕ, zero, suc, ◌+◌, ◌<◌, ◌≤◌, true, List, [], ◌∷◌, ◌++◌, if◌then◌else◌, None}
use Rattle.std.specs.List.{AllByRecursion}
use Rattle.std.proofs.Common.{refl, sym, ap, ◌∙◌, arith}
use mathlib.Core.Logic.{dite}
use native.Mathlib.Decide.{ℕ_discrete}
use Rattle.std.proofs.lemmas.List.Elements.{filter_map-append}
use Rattle.psi_turnstile.specs.Counting.{times}
use Rattle.psi_turnstile.proofs.Sums.{times_append}
use Rattle.psi_frames.specs.Served.{Exchange, all_places, place_of}
use Rattle.query_pool.specs.Joined.{lane_of, lane_part}
use Rattle.query_pool.proofs.ByLane.{part-else, part-here}

pub places-append : (xs ys : List Exchange) → all_places (xs ++ ys) ≡ all_places xs ++ all_places ys
places-append xs ys = filter_map-append (λ (e : Exchange). if true then place_of e.reply else None) xs ys

module _ (workers : ℕ) where
  abbrev pub lane : Exchange → ℕ
  lane e = lane_of workers e.request

  -- the places of so many lanes, from this one on
  abbrev pub lanes_places : List Exchange → (first : ℕ) → (number : ℕ) → List ℕ
  lanes_places es l zero = []
  lanes_places es l (suc m) = all_places (lane_part workers es l) ++ lanes_places es (l + 1) m

  none-gathered : (l m : ℕ) → lanes_places [] l m ≡ []
  none-gathered l zero = refl
  none-gathered l (suc m) = none-gathered (l + 1) m

  -- one exchange more, of an earlier lane
  gathered-else : (e : Exchange) (es : List Exchange) (l m : ℕ) → lane e < l → lanes_places (e ∷ es) l m ≡ lanes_places es l m
  gathered-else e es l zero lt = refl
  gathered-else e es l (suc m) lt =
      let here = part-else lane e es l (λ same. omega (arith, lt, same)) in
      let rest = gathered-else e es (l + 1) m (omega (arith, lt)) in
      λ i. all_places (here i) ++ rest i

  -- and of one of these lanes
  gathered-in : (x : ℕ) (e : Exchange) (es : List Exchange) (l m : ℕ) → l ≤ lane e → lane e < l + m
      → times x (lanes_places (e ∷ es) l m) ≡ times x (all_places (e ∷ [])) + times x (lanes_places es l m)
  gathered-in x e es l zero le lt = absurd (omega (arith, le, lt))
  gathered-in x e es l (suc m) le lt =
      let left = times_append x (all_places (lane_part workers (e ∷ es) l)) (lanes_places (e ∷ es) (l + 1) m) in
      let right = times_append x (all_places (lane_part workers es l)) (lanes_places es (l + 1) m) in
      dite (ℕ_discrete (lane e) l)
      (λ same. let own : lane_part workers (e ∷ es) l ≡ e ∷ lane_part workers es l = ap (λ (k : ℕ). lane_part workers (e ∷ es) k) (sym same) ∙ part-here lane e es ∙ ap (λ (k : ℕ). e ∷ lane_part workers es k) same in
      let first = ap (λ (fs : List Exchange). times x (all_places fs)) own ∙ ap (times x) (places-append (e ∷ []) (lane_part workers es l)) ∙ times_append x (all_places (e ∷ [])) (all_places (lane_part workers es l)) in
      let rest = ap (times x) (gathered-else e es (l + 1) m (omega (arith, same))) in
      omega (arith, left, right, first, rest))
      (λ other. let first = ap (λ (fs : List Exchange). times x (all_places fs)) (part-else lane e es l other) in
      let rest = gathered-in x e es (l + 1) m (omega (arith, le, other)) (omega (arith, lt)) in
      omega (arith, left, right, first, rest))

  pub gathered : (m : ℕ) (es : List Exchange) → AllByRecursion (λ e. lane e < m) es → (x : ℕ) → times x (lanes_places es 0 m) ≡ times x (all_places es)
  gathered m [] few x = ap (times x) (none-gathered 0 m)
  gathered m (e ∷ es) few x =
      let here = gathered-in x e es 0 m (omega arith) (let lt = few.0 in omega (arith, lt)) in
      let rest = gathered m es few.1 x in
      let all = ap (times x) (places-append (e ∷ []) es) ∙ times_append x (all_places (e ∷ [])) (all_places es) in
      omega (arith, here, rest, all)
