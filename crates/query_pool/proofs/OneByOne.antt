-- The exchanges of a lane, one after another.
use Rattle.std.specs.Prelude.{◌≡◌, ℕ, ◌≤◌, true, List, [], ◌∷◌, ◌++◌, length, map, Option, Some, None, IsSome, slice_get, get_or}
use Rattle.std.specs.List.{All, AllPairs, zip}
use Rattle.std.specs.Option.{option_map}
use Rattle.std.proofs.Common.{refl, sym, ap, ◌∙◌, arith, inl, inr, append_assoc, append-nil, length-append}
use Rattle.std.proofs.lemmas.Option.{none-some, same_Some}
use Rattle.std.proofs.lemmas.List.Elements.{All-push, filter_map-append}
use Rattle.std.proofs.lemmas.List.Quantifiers.{all_pairs_push}
use Rattle.psi_residue.specs.Parameters.{Parameters}
use Rattle.psi_bundle.specs.declared.history.Answer.{Answer}
use Rattle.psi_bundle.specs.declared.history.Call.{Call}
use Rattle.psi_bundle.specs.declared.history.Entry.{Entry}
use Rattle.psi_frames.specs.declared.reply.Reply.{Reply}
use Rattle.psi_frames.specs.declared.reply.Reply.TheVariants as reply
use Rattle.psi_frames.specs.declared.request.Request.{Request}
use Rattle.psi_frames.specs.declared.request.Request.TheVariants as request
use Rattle.psi_frames.specs.Requests.{IsFit, call_of, code_of, is_repack, journal_full, asked_ciphertexts}
use Rattle.psi_frames.specs.Served.{Exchange, HasPlaceOrIsFull, IsEvaluated, IsRecorded, PlacesRise, SeesOwn, Sent, StaysFull, addressed, all_places, from_of, from_or_zero, place_of}
use Rattle.psi_frames.proofs.Lanes.{paired}
use Rattle.psi_frames.proofs.LaneServes.{next_entry}
use Rattle.psi_frames.proofs.Placed.{from_placed, none_from, some_place}
use Rattle.live_sender.specs.declared.origin.Origin.{Origin}
use Rattle.live_sender.specs.Histories.{first_version}
use Rattle.live_sender.specs.Turns.{Known, IsSeated, GoesOn}
use Rattle.query_pool.specs.Exchanges.{IsBodyAt, IsOne, IsToldEntry, IsToldFrom, IsToldFull, Tells, lane_exchange}
use Rattle.query_pool.specs.Lanes.{IsFromBehind, IsFullWithin, IsLane, IsPlacedWithin, lane_exchanges}
use Rattle.live_sender.proofs.Prefixes.{prefix-self, prefix-length, prefix-then}
use Rattle.query_pool.proofs.Beginnings.{evaluated-goes, recorded-goes}

-- the places of one exchange
one-place : (e : Exchange) (n : ℕ) → place_of e.reply ≡ Some n → all_places (e ∷ []) ≡ n ∷ []
one-place e n is = rw is refl

one-none : (e : Exchange) → place_of e.reply ≡ None → all_places (e ∷ []) ≡ []
one-none e is = rw is refl

-- ---- one request

module _ (z : Origin) (v w : Known) (r : Request) (c : Call) (told : Reply) (goes : GoesOn z v w) (uncoded : code_of r ≡ None) (calls : call_of r (from_or_zero told) ≡ Some c)
    (repacks : is_repack r ≡ true → IsSome (place_of told) → IsSome (from_of told)) (from : IsToldFrom v told) (body : IsBodyAt z w.seen (asked_ciphertexts r) told) where
  one-entered : IsToldEntry v w c told → IsOne z v w (lane_exchange r told)
  one-entered e =
      let x = lane_exchange r told in
      let entry : Answer → Entry = λ a. record { call = c; answer = a } in
      let end = length-append e.met (entry e.answer ∷ []) in
      let all = ap length e.seen in
      let first = prefix-length v.seen e.met e.begins in
      record {
        gone = goes;
        own = e.own ∙ ap (λ (xs : List ℕ). v.own ++ xs) (sym (one-place x (length e.met) e.at));
        coded = λ code is. absurd (none-some code (sym uncoded ∙ is));
        other = λ _. inl (some_place (place_of told) (length e.met) e.at);
        repack = repacks;
        recorded = λ p a at tells.
            let there : length e.met ≡ p = same_Some (length e.met) p (sym e.at ∙ at) in
            let same : e.answer ≡ a = same_Some e.answer a (sym e.tells ∙ tells) in
            ap (λ (es : List Entry). slice_get es p) e.seen ∙ next_entry e.met (entry e.answer) [] p there
            ∙ ap (λ (b : Answer). Some (entry b)) same ∙ ap (λ (o : Option Call). option_map (λ (d : Call). record { call = d; answer = a }) o) (sym calls);
        evaluated = body;
        placed = λ n at.
            let there : length e.met ≡ n = same_Some (length e.met) n (sym e.at ∙ at) in
            (omega (arith, first, there), omega (arith, end, all, there));
        full = λ is. absurd (none-some (length e.met) (sym (ap place_of is) ∙ e.at));
        since = from;
      }

  one-full : IsToldFull v w told → IsOne z v w (lane_exchange r told)
  one-full f =
      let x = lane_exchange r told in
      let none : place_of told ≡ None = ap place_of f.tells in
      record {
        gone = goes;
        own = f.stayed ∙ sym (append-nil v.own) ∙ ap (λ (xs : List ℕ). v.own ++ xs) (sym (one-none x none));
        coded = λ code is. absurd (none-some code (sym uncoded ∙ is));
        other = λ _. inr f.tells;
        repack = repacks;
        recorded = λ p a at tells. absurd (none-some p (sym none ∙ at));
        evaluated = body;
        placed = λ n at. absurd (none-some n (sym none ∙ at));
        full = λ is. f.full;
        since = from;
      }

  pub one : Tells v w c told → IsOne z v w (lane_exchange r told)
  one (inl e) = one-entered e
  one (inr f) = one-full f

-- a seat that takes no turn
goes-nowhere : (z : Origin) (v : Known) → IsSeated z v → GoesOn z v v
goes-nowhere z v seated = record {
  follows = prefix-self v.seen;
  keeps = record { base = refl; opening = refl; share = refl; taken = seated.taken };
  history = seated.history;
}

-- a request with a code takes none
pub one-bad : (z : Origin) (v : Known) (p : Parameters) (session number code : ℕ) → IsSeated z v → IsFit p (request.Bad session number code)
    → IsOne z v v (lane_exchange (request.Bad session number code) (reply.Refused code))
one-bad z v p session number code seated fit = record {
  gone = goes-nowhere z v seated;
  own = sym (append-nil v.own);
  coded = λ k is. ap reply.Refused (same_Some code k is);
  other = λ none. absurd (none-some code (sym none));
  repack = λ is. absurd (cc);
  recorded = λ k a at tells. absurd (none-some k at);
  evaluated = λ k body at has. absurd (none-some k at);
  placed = λ n at. absurd (none-some n at);
  full = λ is. let same : code ≡ journal_full = cc in absurd (omega (arith, same, fit.1));
  since = λ from n has at. absurd (none-some n at);
}

-- ---- one more

-- a seat that makes no entry
pub lane-idle : (z : Origin) (v w : Known) → GoesOn z v w → w.own ≡ v.own → IsLane z v w []
lane-idle z v w goes stayed = record {
  follows = goes.follows;
  keeps = goes.keeps;
  history = goes.history;
  own = stayed ∙ sym (append-nil v.own);
  coded = λ k d lt. absurd (omega arith);
  others = λ k d lt. absurd (omega arith);
  repacks = λ k d lt. absurd (omega arith);
  recorded = λ k d lt. absurd (omega arith);
  evaluated = λ k d lt. absurd (omega arith);
  placed = λ k d lt. absurd (omega arith);
  full = λ k d lt. absurd (omega arith);
  froms = λ k d lt. absurd (omega arith);
  rising = λ i j d lt le. absurd (omega arith);
  stay = λ i j d lt le. absurd (omega arith);
  sees_own = λ i j d lt le. absurd (omega arith);
}

pub lane-none : (z : Origin) (v : Known) → IsSeated z v → IsLane z v v []
lane-none z v seated = lane-idle z v v (goes-nowhere z v seated) refl

-- a lane may go on as it began
pub lane-seated : (z : Origin) (v w : Known) (es : List Exchange) → IsSeated z v → IsLane z v w es → IsSeated z w
lane-seated z v w es seated l = record { base = l.keeps.base ∙ seated.base; taken = l.keeps.taken; history = l.history }

module _ (z : Origin) (v w u : Known) (es : List Exchange) (e : Exchange) (l : IsLane z v w es) (o : IsOne z w u e) where
  abbrev more : List Exchange
  more = es ++ e ∷ []

  grown : length w.seen ≤ length u.seen
  grown = prefix-length w.seen u.seen o.gone.follows

  begun : length v.seen ≤ length w.seen
  begun = prefix-length v.seen w.seen l.follows

  own-more : u.own ≡ v.own ++ all_places more
  own-more =
      o.own ∙ ap (λ (xs : List ℕ). xs ++ all_places (e ∷ [])) l.own ∙ append_assoc v.own (all_places es) (all_places (e ∷ []))
      ∙ ap (λ (xs : List ℕ). v.own ++ xs) (sym (filter_map-append (λ (x : Exchange). place_of x.reply) es (e ∷ [])))

  recorded-more : All (IsRecorded u.seen) more
  recorded-more =
      All-push (IsRecorded u.seen) es e
      (λ k d lt. recorded-goes w.seen u.seen o.gone.follows (get_or es k d) (λ x at. (l.placed k d lt x at).1) (l.recorded k d lt)) o.recorded

  evaluated-more : All (IsEvaluated z.parameters (first_version z) u.seen) more
  evaluated-more =
      All-push (IsEvaluated z.parameters (first_version z) u.seen) es e
      (λ k d lt. evaluated-goes w.seen u.seen o.gone.follows (get_or es k d) (λ x at. (l.placed k d lt x at).1) z.parameters (first_version z) (l.evaluated k d lt)) o.evaluated

  placed-more : All (IsPlacedWithin v u) more
  placed-more =
      All-push (IsPlacedWithin v u) es e
      (λ k d lt x at. let was = l.placed k d lt x at in (was.0, omega (arith, was.1, grown)))
      (λ x at. let was = o.placed x at in (omega (arith, was.0, begun), was.1))

  full-more : All (IsFullWithin u) more
  full-more = All-push (IsFullWithin u) es e (λ k d lt is. let was = l.full k d lt is in omega (arith, was, grown)) o.full

  froms-more : All (IsFromBehind v) more
  froms-more = All-push (IsFromBehind v) es e l.froms (λ from x has at. let was = o.since from x has at in (omega (arith, was.0, begun), was.1))

  rising-more : AllPairs PlacesRise more
  rising-more =
      all_pairs_push PlacesRise es e l.rising
      (λ k d lt x y at_x at_y. let old = (l.placed k d lt x at_x).1 in let new = (o.placed y at_y).0 in omega (arith, old, new))

  -- behind a full journal no new place is left
  stay-more : AllPairs StaysFull more
  stay-more =
      all_pairs_push StaysFull es e l.stay
      (λ k d lt is.
      let full = l.full k d lt is in
      none_from (place_of e.reply) (λ x at.
      let new = o.placed x at in
      let few = o.gone.history.few in
      omega (arith, full, new.0, new.1, few)))

  sees_own-more : AllPairs SeesOwn more
  sees_own-more =
      all_pairs_push SeesOwn es e l.sees_own
      (λ k d lt x from at has.
      let old = (l.placed k d lt x at).1 in
      let placed = from_placed e.reply from has in
      let new = (o.since from placed.0 has placed.1).0 in
      omega (arith, old, new))

  pub lane-more : IsLane z v u more
  lane-more = record {
    follows = prefix-then v.seen w.seen u.seen l.follows o.gone.follows;
    keeps = record {
      base = o.gone.keeps.base ∙ l.keeps.base;
      opening = o.gone.keeps.opening ∙ l.keeps.opening;
      share = o.gone.keeps.share ∙ l.keeps.share;
      taken = o.gone.keeps.taken;
    };
    history = o.gone.history;
    own = own-more;
    coded = All-push (λ (x : Exchange). (code : ℕ) → code_of x.request ≡ Some code → x.reply ≡ reply.Refused code) es e l.coded o.coded;
    others = All-push HasPlaceOrIsFull es e l.others o.other;
    repacks = All-push (λ (x : Exchange). is_repack x.request ≡ true → IsSome (place_of x.reply) → IsSome (from_of x.reply)) es e l.repacks o.repack;
    recorded = recorded-more;
    evaluated = evaluated-more;
    placed = placed-more;
    full = full-more;
    froms = froms-more;
    rising = rising-more;
    stay = stay-more;
    sees_own = sees_own-more;
  }

-- ---- requests with their replies

-- requests of the round 0
abbrev in_round : List Request → List (ℕ × Request)
in_round rs = map (λ r. (0, r)) rs

abbrev lane_paired : List Request → List Reply → List Exchange
lane_paired rs ts = paired (in_round rs) (addressed rs ts)

paired-push : (rs : List Request) (ts : List Reply) (r : Request) (t : Reply) → length ts ≡ length rs → lane_paired (rs ++ r ∷ []) (ts ++ t ∷ []) ≡ lane_paired rs ts ++ lane_exchange r t ∷ []
paired-push [] [] r t same = refl
paired-push [] (x ∷ ts) r t same = absurd (omega (arith, same))
paired-push (x ∷ rs) [] r t same = absurd (omega (arith, same))
paired-push (x ∷ rs) (y ∷ ts) r t same = ap (λ (es : List Exchange). lane_exchange x y ∷ es) (paired-push rs ts r t (omega (arith, same)))

-- there is one round
one-round : (rs : List Request) (ts : List Reply) → lane_exchanges rs ts ≡ lane_paired rs ts
one-round rs ts = ap (λ (ns : List (ℕ × Request)). paired ns (addressed rs ts)) (append-nil (in_round rs))

pub exchanges-push : (rs : List Request) (ts : List Reply) (r : Request) (t : Reply) → length ts ≡ length rs → lane_exchanges (rs ++ r ∷ []) (ts ++ t ∷ []) ≡ lane_exchanges rs ts ++ lane_exchange r t ∷ []
exchanges-push rs ts r t same =
    one-round (rs ++ r ∷ []) (ts ++ t ∷ []) ∙ paired-push rs ts r t same ∙ ap (λ (es : List Exchange). es ++ lane_exchange r t ∷ []) (sym (one-round rs ts))
