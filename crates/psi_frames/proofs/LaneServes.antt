-- The one-thread sender's replies to rounds serve them, from a start behind a given history, and are of one lane.
use Rattle.std.specs.Prelude.{◌≡◌, ℕ, ◌+◌, ◌-◌, ◌<◌, ◌≤◌, min, true, List, [], ◌∷◌, ◌++◌, length, take, Option, Some, None, IsSome, slice_get}
use Rattle.std.specs.List.{All, AllPairs, AllByRecursion, range_with_len}
use Rattle.std.specs.List.Sorted.{IsPermutation}
use Rattle.std.specs.Option.{option_map}
use Rattle.std.proofs.Common.{refl, sym, ap, ◌∙◌, subst, arith, inl, inr, append_assoc, append-nil, length-append}
use Rattle.std.proofs.Math.Seq.{take-append_seam, get_or-append_seam}
use Rattle.std.proofs.lemmas.Option.{slice_get-get_or}
use Rattle.std.proofs.lemmas.List.Elements.{All-from_recursion}
use Rattle.std.proofs.lemmas.List.FromFn.{length-range_with_len}
use Rattle.std.proofs.lemmas.List.Kept.{AllPairs-cons}
use Rattle.std.proofs.lemmas.List.Sorted.{IsPermutation-refl}
use Rattle.std.proofs.lemmas.List.Sums.{fold-append}
use Rattle.psi_residue.specs.Parameters.{Parameters}
use Rattle.psi_bundle.specs.declared.history.Call.{Call}
use Rattle.psi_bundle.specs.declared.history.Call.TheVariants as call
use Rattle.psi_bundle.specs.declared.history.Answer.{Answer}
use Rattle.psi_bundle.specs.declared.history.Entry.{Entry}
use Rattle.psi_bundle.specs.Versions.{Version}
use Rattle.psi_bundle.specs.Steps.{step}
use Rattle.psi_bundle.specs.Histories.{IsLegal, after, replay, version_at, most_entries}
use Rattle.psi_bundle.proofs.Steps.{count-step}
use Rattle.query_codec.specs.Replies.{reply_body}
use Rattle.psi_frames.specs.declared.reply.Reply.{Reply}
use Rattle.psi_frames.specs.declared.reply.Reply.TheVariants as reply
use Rattle.psi_frames.specs.declared.request.Request.{Request}
use Rattle.psi_frames.specs.declared.request.Request.TheVariants as request
use Rattle.psi_frames.specs.Requests.{call_of, code_of, is_repack, journal_full, asked_ciphertexts}
use Rattle.psi_frames.specs.Served.{Exchange, Sent, exchanges, requests_of, text_of, place_of, from_of, from_or_zero, places_of_round, uncoded_of_round, PlacesRise, StaysFull, IsRecorded, HasPlaceOrIsFull, FollowOn, IsFromWithin, IsEvaluated, AreServed, IsOneLane, IsOneLaneText}
use Rattle.psi_frames.specs.OneLane.{HasByteCode, call_on, entries_by, lane_history, lane_next, lane_replies, lane_reply, reply_by, reply_telling, version_by}
use Rattle.psi_frames.proofs.Each.{each-vacuous, each-weaker}
use Rattle.psi_frames.proofs.Placed.{IsCodedRight, some_place}
use Rattle.psi_frames.proofs.Turns.{Turned, turned, answer-reply, body-reply, from-reply, no_refusal, place-reply, repack-tells}
use Rattle.psi_frames.proofs.Lanes.{addresses, lane, paired, paired-lane, places-kept, seconds}
use Rattle.psi_frames.proofs.Following.{IsBehind, before, lane-behind, lane-follows, lane-from_count, numbered_from, seconds-numbered}

-- an exchange of the lane, by the call that its request makes
abbrev pub turn_by : Parameters → Version → ℕ × Request → Option Call → Exchange
turn_by p v n o = record { round = n.0; request = n.1; reply = reply_by p v n.1 o }

-- a request with a code is refused with it
pub coded-turn : (p : Parameters) (v : Version) (r : Request) → Turned v r → (code : ℕ) → code_of r ≡ Some code → lane_reply p v r ≡ reply.Refused code
coded-turn p v r (Turned.Coded own coded none) code e = rw (none, e) refl
coded-turn p v r (Turned.Full uncoded_here full none) code e = absurd (cc)
coded-turn p v r (Turned.Makes c uncoded_here room calls some) code e = absurd (cc)

lane-coded : (p : Parameters) (v : Version) (ns : List (ℕ × Request)) → AllByRecursion IsCodedRight (lane p v ns)
lane-coded p v [] = tt
lane-coded p v (n ∷ ns) = (coded-turn p v n.1 (turned v n.1), lane-coded p (lane_next v n.1) ns)

-- another has a place, or met a full journal
placed-turn : (p : Parameters) (v : Version) (n : ℕ × Request) → Turned v n.1 → HasPlaceOrIsFull (turn_by p v n (call_on v n.1))
placed-turn p v n (Turned.Coded own coded none) e = absurd (cc)
placed-turn p v n (Turned.Full uncoded_here full none) e = inr (rw (none, uncoded_here) refl)
placed-turn p v n (Turned.Makes c uncoded_here room calls some) e = inl (rw some (some_place _ v.count (place-reply _ _ _)))

lane-placed : (p : Parameters) (v : Version) (ns : List (ℕ × Request)) → AllByRecursion HasPlaceOrIsFull (lane p v ns)
lane-placed p v [] = tt
lane-placed p v (n ∷ ns) = (placed-turn p v n (turned v n.1), lane-placed p (lane_next v n.1) ns)

-- behind a full journal nothing has a place
full-turn : (p : Parameters) (v : Version) (r : Request) → Turned v r → most_entries ≤ v.count → (place_of (lane_reply p v r) ≡ None) × (lane_next v r ≡ v)
full-turn p v r (Turned.Coded own coded none) full = rw none (refl, refl)
full-turn p v r (Turned.Full uncoded_here over none) full = rw none (refl, refl)
full-turn p v r (Turned.Makes c uncoded_here room calls some) full = absurd (omega (arith, room, full))

lane-full : (p : Parameters) (v : Version) (ns : List (ℕ × Request)) → most_entries ≤ v.count → AllByRecursion (λ e. place_of e.reply ≡ None) (lane p v ns)
lane-full p v [] full = tt
lane-full p v (n ∷ ns) full =
    let here = full-turn p v n.1 (turned v n.1) full in
    (here.0, lane-full p (lane_next v n.1) ns (subst (λ (w : Version). most_entries ≤ w.count) (sym here.1) full))

stays-turn : (p : Parameters) (v : Version) (n : ℕ × Request) (ns : List (ℕ × Request)) → HasByteCode n.1 → Turned v n.1
    → AllByRecursion (λ e. lane_reply p v n.1 ≡ reply.Refused journal_full → place_of e.reply ≡ None) (lane p (lane_next v n.1) ns)
stays-turn p v n ns byte (Turned.Coded own coded none) =
    let here : lane_reply p v n.1 ≡ reply.Refused own = coded-turn p v n.1 (Turned.Coded own coded none) own coded in
    let low = byte own coded in
    each-vacuous (λ e. place_of e.reply ≡ None) (lane p (lane_next v n.1) ns) (λ refused. let same : own ≡ journal_full = cc in omega (arith, same, low))
stays-turn p v n ns byte (Turned.Full uncoded_here full none) =
    let same = (full-turn p v n.1 (Turned.Full uncoded_here full none) full).1 in
    each-weaker (λ e. place_of e.reply ≡ None) (λ e. lane_reply p v n.1 ≡ reply.Refused journal_full → place_of e.reply ≡ None) (λ e h _. h) (lane p (lane_next v n.1) ns)
    (lane-full p (lane_next v n.1) ns (subst (λ (w : Version). most_entries ≤ w.count) (sym same) full))
stays-turn p v n ns byte (Turned.Makes c uncoded_here room calls some) =
    each-vacuous (λ e. place_of e.reply ≡ None) (lane p (lane_next v n.1) ns) (rw some (no_refusal (step v c).answer v.count journal_full (reply_body p v.rows (asked_ciphertexts n.1))))

lane-stays : (p : Parameters) (v : Version) (ns : List (ℕ × Request)) → AllByRecursion (λ n. HasByteCode n.1) ns → AllPairs StaysFull (lane p v ns)
lane-stays p v [] byte = λ i j d lt le. absurd (omega arith)
lane-stays p v (n ∷ ns) byte =
    let rest = lane p (lane_next v n.1) ns in
    AllPairs-cons StaysFull (turn_by p v n (call_on v n.1)) rest
    (All-from_recursion (StaysFull (turn_by p v n (call_on v n.1))) rest (stays-turn p v n ns byte.0 (turned v n.1)))
    (lane-stays p (lane_next v n.1) ns byte.1)

-- places rise
rises-turn : (p : Parameters) (v : Version) (n : ℕ × Request) (ns : List (ℕ × Request)) (o : Option Call)
    → AllByRecursion (λ e. (y : ℕ) → place_of e.reply ≡ Some y → (version_by v o).count ≤ y) (lane p (version_by v o) ns)
    → AllByRecursion (PlacesRise (turn_by p v n o)) (lane p (version_by v o) ns)
rises-turn p v n ns (Some c) far =
    each-weaker (λ e. (y : ℕ) → place_of e.reply ≡ Some y → (step v c).version.count ≤ y) (PlacesRise (turn_by p v n (Some c)))
    (λ e h x y ex ey.
    let here : place_of (reply_by p v n.1 (Some c)) ≡ Some v.count = place-reply _ _ _ in
    let same : v.count ≡ x = cc in
    let more = count-step v c in
    let behind = h y ey in
    omega (arith, same, more, behind)) (lane p (step v c).version ns) far
rises-turn p v n ns None far =
    each-weaker (λ e. (y : ℕ) → place_of e.reply ≡ Some y → v.count ≤ y) (PlacesRise (turn_by p v n None)) (λ e h x y ex ey. absurd (cc)) (lane p v ns) far

lane-rises : (p : Parameters) (v : Version) (ns : List (ℕ × Request)) → AllPairs PlacesRise (lane p v ns)
lane-rises p v [] = λ i j d lt le. absurd (omega arith)
lane-rises p v (n ∷ ns) =
    let rest = lane p (lane_next v n.1) ns in
    AllPairs-cons PlacesRise (turn_by p v n (call_on v n.1)) rest
    (All-from_recursion (PlacesRise (turn_by p v n (call_on v n.1))) rest (rises-turn p v n ns (call_on v n.1) (lane-from_count p (lane_next v n.1) ns)))
    (lane-rises p (lane_next v n.1) ns)

-- a `from` is the reply's own place
own-turn : (p : Parameters) (v : Version) (r : Request) (o : Option Call) (from : ℕ) → from_of (reply_by p v r o) ≡ Some from → place_of (reply_by p v r o) ≡ Some from
own-turn p v r (Some c) from e = place-reply _ _ _ ∙ ap Some (sym (from-reply _ _ _ from e))
own-turn p v r None from e = absurd (cc)

lane-own : (p : Parameters) (v : Version) (ns : List (ℕ × Request)) → AllByRecursion (λ e. (from : ℕ) → from_of e.reply ≡ Some from → place_of e.reply ≡ Some from) (lane p v ns)
lane-own p v [] = tt
lane-own p v (n ∷ ns) = (own-turn p v n.1 (call_on v n.1), lane-own p (lane_next v n.1) ns)

-- a Repack with a place tells its `from`
repacks-turn : (p : Parameters) (v : Version) (r : Request) → Turned v r → is_repack r ≡ true → IsSome (place_of (lane_reply p v r)) → IsSome (from_of (lane_reply p v r))
repacks-turn p v (request.Put session number tag label) t e = absurd (cc)
repacks-turn p v (request.Drop session number tag) t e = absurd (cc)
repacks-turn p v (request.Ask session number query) t e = absurd (cc)
repacks-turn p v (request.Bad session number code) t e = absurd (cc)
repacks-turn p v (request.Repack session number row) (Turned.Coded own coded none) e = absurd (cc)
repacks-turn p v (request.Repack session number row) (Turned.Full uncoded_here full none) e = rw none (λ place. place)
repacks-turn p v (request.Repack session number row) (Turned.Makes c uncoded_here room calls some) e =
    let same : call.Repack row v.count ≡ c = cc in
    rw (some, sym same) (λ place. repack-tells v row v.count v.count _)

lane-repacks : (p : Parameters) (v : Version) (ns : List (ℕ × Request)) → AllByRecursion (λ e. is_repack e.request ≡ true → IsSome (place_of e.reply) → IsSome (from_of e.reply)) (lane p v ns)
lane-repacks p v [] = tt
lane-repacks p v (n ∷ ns) = (repacks-turn p v n.1 (turned v n.1), lane-repacks p (lane_next v n.1) ns)

-- each answer of the lane's history is the step's
legal_by : (v : Version) (o : Option Call) (es : List Entry) → IsLegal (version_by v o) es → IsLegal v (entries_by v o ++ es)
legal_by v (Some c) es h = (refl, h)
legal_by v None es h = h

pub lane-legal : (v : Version) (rs : List Request) → IsLegal v (lane_history v rs)
unfolding lane_history
lane-legal v [] = tt
lane-legal v (r ∷ rs) = legal_by v (call_on v r) (lane_history (lane_next v r) rs) (lane-legal (lane_next v r) rs)

pub legal-join : (v : Version) (xs ys : List Entry) → IsLegal v xs → IsLegal (replay v xs) ys → IsLegal v (xs ++ ys)
legal-join v [] ys h g = g
legal-join v (e ∷ xs) ys h g = (h.0, legal-join (after v e) xs ys h.1 g)

-- where a history has led: as many entries as the version counts
pub record HasLedTo (start : Version) (done : List Entry) (v : Version) : Type 0 where
  pub replayed : replay start done ≡ v
  pub number : length done ≡ v.count

pub led-further : (start : Version) (done : List Entry) (v : Version) (o : Option Call) → HasLedTo start done v → HasLedTo start (done ++ entries_by v o) (version_by v o)
led-further start done v (Some c) led =
    let e : Entry = record { call = c; answer = (step v c).answer } in
    record {
      replayed = fold-append after start done (e ∷ []) ∙ ap (λ (w : Version). (step w c).version) led.replayed;
      number = length-append done (e ∷ []) ∙ omega (arith, led.number, count-step v c);
    }
led-further start done v None led = record {
  replayed = ap (replay start) (append-nil done) ∙ led.replayed;
  number = ap length (append-nil done) ∙ led.number;
}

-- the entry behind those that were made
pub next_entry : (done : List Entry) (e : Entry) (rest : List Entry) (n : ℕ) → length done ≡ n → slice_get (done ++ e ∷ rest) n ≡ Some e
next_entry done e rest n same =
    ap (slice_get (done ++ e ∷ rest)) (sym same)
    ∙ slice_get-get_or (done ++ e ∷ rest) (length done) e (omega (arith, length-append done (e ∷ rest)))
    ∙ ap Some (get_or-append_seam done e rest e)

-- the version at a place is that which the entries before it have led to
pub version-there : (start : Version) (done rest : List Entry) (v : Version) (n : ℕ) → HasLedTo start done v → v.count ≡ n → version_at start (done ++ rest) n ≡ v
version-there start done rest v n led same =
    ap (λ (k : ℕ). replay start (take k (done ++ rest))) (sym same ∙ sym led.number) ∙ ap (replay start) (take-append_seam done rest) ∙ led.replayed

-- the call of a request does not change with its reply's `from`
from-repacked : (v : Version) (row from n : ℕ) (body : List ℕ) → from_or_zero (reply_telling (step v (call.Repack row from)).answer n body) ≡ n
from-repacked v row from n body = by_from (reply_telling (step v (call.Repack row from)).answer n body) (repack-tells v row from n body) (from-reply (step v (call.Repack row from)).answer n body) where
  by_from : (r : Reply) → IsSome (from_of r) → ((x : ℕ) → from_of r ≡ Some x → x ≡ n) → from_or_zero r ≡ n
  by_from (reply.Repacked place x before after) told own = own x refl
  by_from (reply.Moved place x stamp) told own = own x refl
  by_from (reply.Added place) told own = absurd (cc)
  by_from (reply.Replaced place) told own = absurd (cc)
  by_from (reply.Removed place) told own = absurd (cc)
  by_from (reply.Absent place) told own = absurd (cc)
  by_from (reply.Full place planes cells) told own = absurd (cc)
  by_from (reply.Answer place x) told own = absurd (cc)
  by_from (reply.Refused code) told own = absurd (cc)

same_call : (v : Version) (r : Request) (c : Call) (body : List ℕ) → call_of r v.count ≡ Some c → call_of r (from_or_zero (reply_telling (step v c).answer v.count body)) ≡ Some c
same_call v (request.Put session number tag label) c body e = e
same_call v (request.Drop session number tag) c body e = e
same_call v (request.Ask session number query) c body e = e
same_call v (request.Bad session number code) c body e = absurd (cc)
same_call v (request.Repack session number row) c body e =
    let same : call.Repack row v.count ≡ c = cc in
    subst (λ (d : Call). Some (call.Repack row (from_or_zero (reply_telling (step v d).answer v.count body))) ≡ Some d) same
    (ap (λ (k : ℕ). Some (call.Repack row k)) (from-repacked v row v.count v.count body))

-- the history has the entry of each exchange at its place
recorded-turn : (p : Parameters) (start v : Version) (done rest : List Entry) (n : ℕ × Request) → HasLedTo start done v → Turned v n.1
    → IsRecorded (done ++ (entries_by v (call_on v n.1) ++ rest)) (turn_by p v n (call_on v n.1))
recorded-turn p start v done rest n led (Turned.Coded own coded none) = rw none (λ place a ep ea. absurd (cc))
recorded-turn p start v done rest n led (Turned.Full uncoded_here full none) = rw none (λ place a ep ea. absurd (cc))
recorded-turn p start v done rest n led (Turned.Makes c uncoded_here room calls some) =
    rw some (λ place a ep ea.
    let here : place_of (reply_by p v n.1 (Some c)) ≡ Some v.count = place-reply _ _ _ in
    let same : v.count ≡ place = cc in
    let told = answer-reply (step v c).answer v.count (reply_body p v.rows (asked_ciphertexts n.1)) in
    let answer : (step v c).answer ≡ a = cc in
    next_entry done (record { call = c; answer = (step v c).answer }) rest place (led.number ∙ same)
    ∙ sym (ap (λ (o : Option Call). option_map (λ d. record { call = d; answer = a }) o) (same_call v n.1 c (reply_body p v.rows (asked_ciphertexts n.1)) calls)
    ∙ ap (λ (b : Answer). Some (record { call = c; answer = b })) (sym answer)))

lane-recorded : (p : Parameters) (start v : Version) (done : List Entry) (ns : List (ℕ × Request)) → HasLedTo start done v
    → AllByRecursion (IsRecorded (done ++ lane_history v (seconds ns))) (lane p v ns)
unfolding lane_history
lane-recorded p start v done [] led = tt
lane-recorded p start v done (n ∷ ns) led =
    let rest = lane_history (lane_next v n.1) (seconds ns) in (
      recorded-turn p start v done rest n led (turned v n.1),
      subst (λ (history : List Entry). AllByRecursion (IsRecorded history) (lane p (lane_next v n.1) ns)) (append_assoc done (entries_by v (call_on v n.1)) rest)
          (lane-recorded p start (lane_next v n.1) (done ++ entries_by v (call_on v n.1)) ns (led-further start done v (call_on v n.1) led)),
    )

-- each query is answered from the version at its place
evaluated-turn : (p : Parameters) (start v : Version) (done rest : List Entry) (n : ℕ × Request) (o : Option Call) → HasLedTo start done v
    → IsEvaluated p start (done ++ rest) (turn_by p v n o)
evaluated-turn p start v done rest n (Some c) led place body ep eb =
    let here : place_of (reply_by p v n.1 (Some c)) ≡ Some v.count = place-reply _ _ _ in
    let same : v.count ≡ place = cc in
    body-reply (step v c).answer v.count (reply_body p v.rows (asked_ciphertexts n.1)) body eb
    ∙ ap (λ (w : Version). reply_body p w.rows (asked_ciphertexts n.1)) (sym (version-there start done rest v place led same))
evaluated-turn p start v done rest n None led place body ep eb = absurd (cc)

lane-evaluated : (p : Parameters) (start v : Version) (done : List Entry) (ns : List (ℕ × Request)) → HasLedTo start done v
    → AllByRecursion (IsEvaluated p start (done ++ lane_history v (seconds ns))) (lane p v ns)
unfolding lane_history
lane-evaluated p start v done [] led = tt
lane-evaluated p start v done (n ∷ ns) led =
    let rest = lane_history (lane_next v n.1) (seconds ns) in (
      evaluated-turn p start v done (entries_by v (call_on v n.1) ++ rest) n (call_on v n.1) led,
      subst (λ (history : List Entry). AllByRecursion (IsEvaluated p start history) (lane p (lane_next v n.1) ns)) (append_assoc done (entries_by v (call_on v n.1)) rest)
          (lane-evaluated p start (lane_next v n.1) (done ++ entries_by v (call_on v n.1)) ns (led-further start done v (call_on v n.1) led)),
    )

-- what a legal history leads to counts its entries
pub count-replay : (v : Version) (es : List Entry) → (replay v es).count ≡ v.count + length es
count-replay v [] = omega arith
count-replay v (e ∷ es) = count-replay (after v e) es ∙ omega (arith, count-step v e.call)

all_kept : (ns : List (ℕ × Request)) → AllByRecursion (λ n. true ≡ true) ns
all_kept [] = tt
all_kept (n ∷ ns) = (refl, all_kept ns)

-- From a start without entries, behind a legal history.
module _ (p : Parameters) (start : Version) (given : List Entry) (rounds : List (List Request)) (none_yet : start.count ≡ 0) (legal : IsLegal start given)
    (bytes : AllByRecursion (λ n. HasByteCode n.1) (numbered_from 0 rounds)) where
  -- the version that the given history leads to
  abbrev pub begun : Version
  begun = replay start given

  -- the exchanges, the replies and the history
  abbrev pub lane_of : List Exchange
  lane_of = lane p begun (numbered_from 0 rounds)

  abbrev pub sents_of : List Sent
  sents_of = lane_replies p begun (requests_of rounds)

  abbrev pub history_of : List Entry
  history_of = given ++ lane_history begun (seconds (numbered_from 0 rounds))

  led : HasLedTo start given begun
  led = record { replayed = refl; number = sym (count-replay start given ∙ omega (arith, none_yet)) }

  pub exchanges-lane : exchanges rounds sents_of ≡ lane_of
  exchanges-lane = ap (λ (rs : List Request). paired (numbered_from 0 rounds) (lane_replies p begun rs)) (sym (seconds-numbered 0 rounds)) ∙ paired-lane p begun (numbered_from 0 rounds)

  follow-on : (k : ℕ) → k < length rounds → FollowOn given lane_of k
  follow-on k lt =
      let follows = lane-follows p begun 0 rounds k (omega arith) (omega arith) in
      let same : begun.count ≡ length given = sym led.number in
      subst (λ (c : ℕ). places_of_round k lane_of ≡ range_with_len (c + length (before k lane_of)) (min (uncoded_of_round k lane_of) (most_entries - (c + length (before k lane_of)))) → FollowOn given lane_of k)
      (sym same) (λ e. subst (λ (xs : List ℕ). IsPermutation (places_of_round k lane_of) xs) e (IsPermutation-refl (places_of_round k lane_of))) follows

  within : All (IsFromWithin given lane_of) lane_of
  within k d lt from n ef ep =
      let behind = All-from_recursion (IsBehind begun.count lane_of) lane_of (lane-behind p begun 0 rounds) k d lt n ep in
      let own = All-from_recursion (λ e. (x : ℕ) → from_of e.reply ≡ Some x → place_of e.reply ≡ Some x) lane_of (lane-own p begun (numbered_from 0 rounds)) k d lt from ef in
      let same : from ≡ n = cc in
      (omega (arith, behind, same, led.number), omega (arith, same))

  pub lane-served : AreServed p start given history_of rounds lane_of
  lane-served =
      let ns = numbered_from 0 rounds in
      let rises = lane-rises p begun ns in
      let own = All-from_recursion (λ e. (x : ℕ) → from_of e.reply ≡ Some x → place_of e.reply ≡ Some x) lane_of (lane-own p begun ns) in
      record {
        history_of = record {
          begins = take-append_seam given (lane_history begun (seconds ns));
          no_others = length-append given (lane_history begun (seconds ns))
              ∙ ap (λ (n : ℕ). length given + n) (sym (ap length (places-kept p begun ns (λ _. true) (all_kept ns)) ∙ length-range_with_len begun.count (length (lane_history begun (seconds ns)))));
          recorded = All-from_recursion (IsRecorded history_of) lane_of (lane-recorded p start begun given ns led);
        };
        coded = All-from_recursion (λ e. (code : ℕ) → code_of e.request ≡ Some code → e.reply ≡ reply.Refused code) lane_of (lane-coded p begun ns);
        placed = record {
          places = follow-on;
          others = All-from_recursion HasPlaceOrIsFull lane_of (lane-placed p begun ns);
          stay = λ i j d lt le _. lane-stays p begun ns bytes i j d lt le;
        };
        rising = λ i j d lt le _. rises i j d lt le;
        stepped = record {
          repacks = All-from_recursion (λ e. is_repack e.request ≡ true → IsSome (place_of e.reply) → IsSome (from_of e.reply)) lane_of (lane-repacks p begun ns);
          legal = legal-join start given (lane_history begun (seconds ns)) legal (lane-legal begun (seconds ns));
        };
        since = record { within = within; own = λ i j d lt le _ x from ex ef. rises i j d lt le x from ex (own j d le from ef) };
        evaluated = All-from_recursion (IsEvaluated p start history_of) lane_of (lane-evaluated p start begun given ns led);
      }

  pub lane-one : IsOneLane lane_of
  lane-one = record {
    rising = lane-rises p begun (numbered_from 0 rounds);
    full_stays = lane-stays p begun (numbered_from 0 rounds) bytes;
    own_from = All-from_recursion (λ e. (x : ℕ) → from_of e.reply ≡ Some x → place_of e.reply ≡ Some x) lane_of (lane-own p begun (numbered_from 0 rounds));
  }

  -- The text of the one-thread sender's replies is of one lane.
  pub lane-text : IsOneLaneText p start given rounds (text_of sents_of)
  lane-text = record {
    history = history_of;
    sents = sents_of;
    served = record {
      one_each = addresses p begun (requests_of rounds);
      served = subst (λ (es : List Exchange). AreServed p start given history_of rounds es) (sym exchanges-lane) lane-served;
    };
    one_lane = subst IsOneLane (sym exchanges-lane) lane-one;
    text_is = refl;
  }
