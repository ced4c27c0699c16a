-- From each start, behind each history, one text alone is that of one lane.
use Rattle.std.specs.Prelude.{◌≡◌, ℕ, suc, ◌+◌, ◌<◌, ◌≤◌, true, List, [], ◌∷◌, ◌++◌, length, map, take, drop, Option, Some, None, IsSome, slice_get, ⊤}
use Rattle.std.specs.List.{All, AllPairs, AllByRecursion}
use Rattle.std.specs.Option.{option_map}
use Rattle.std.proofs.Common.{refl, sym, ap, ◌∙◌, subst, arith, inl, inr, append_assoc, length-append}
use Rattle.std.proofs.lemmas.List.Elements.{recursion_from_All}
use Rattle.std.proofs.lemmas.List.{take-append-drop}
use Rattle.std.proofs.lemmas.Option.{slice_get_past}
use Rattle.psi_residue.specs.Parameters.{Parameters}
use Rattle.psi_bundle.specs.declared.history.Answer.{Answer}
use Rattle.psi_bundle.specs.declared.history.Answer.TheVariants as answer
use Rattle.psi_bundle.specs.declared.history.Call.{Call}
use Rattle.psi_bundle.specs.declared.history.Entry.{Entry}
use Rattle.psi_bundle.specs.Versions.{Version}
use Rattle.psi_bundle.specs.Steps.{step}
use Rattle.psi_bundle.specs.Histories.{IsLegal, after, replay, version_at, most_entries}
use Rattle.query_codec.specs.Replies.{reply_body}
use Rattle.psi_frames.specs.declared.reply.Reply.{Reply}
use Rattle.psi_frames.specs.declared.reply.Reply.TheVariants as reply
use Rattle.psi_frames.specs.declared.request.Request.{Request}
use Rattle.psi_frames.specs.declared.request.Request.TheVariants as request
use Rattle.psi_frames.specs.Requests.{call_of, code_of, is_repack, journal_full, asked_ciphertexts}
use Rattle.psi_frames.specs.Served.{Exchange, Sent, exchanges, requests_of, text_of, place_of, from_of, from_or_zero, answer_of, body_of, all_places, address_of_reply, address_of_request, AreServed, HasPlaceOrIsFull, IsEvaluated, IsOneLane, IsRecorded, StaysFull}
use Rattle.psi_frames.specs.OneLane.{HasByteCode, LaneRepliesAreOfOneLane, OneTextIsOfOneLane, call_on, entries_by, lane_next, lane_replies, lane_reply, reply_by, reply_telling}
use Rattle.psi_frames.proofs.Each.{each-append, each-weaker}
use Rattle.psi_frames.proofs.Placed.{IsCodedRight, none_from, places-append, tells_answer}
use Rattle.psi_frames.proofs.Turns.{Turned, turned, count-behind, place-reply}
use Rattle.psi_frames.proofs.Lanes.{paired, seconds}
use Rattle.psi_frames.proofs.Following.{each-numbered, each-of_round, numbered_from, of_round, seconds-numbered}
use Rattle.psi_frames.proofs.LaneServes.{HasLedTo, count-replay, coded-turn, lane-text, led-further, next_entry, version-there}
use Rattle.psi_frames.proofs.OneText.{IsSplit, full-is, place-is}

-- a reply is what it tells: its place, its answer, its `from` and its body
is_told : (y : Reply) (a : Answer) (x : ℕ) (body : List ℕ) → place_of y ≡ Some x → answer_of y ≡ Some a → ((from : ℕ) → from_of y ≡ Some from → from ≡ x) → ((b : List ℕ) → body_of y ≡ Some b → b ≡ body) → y ≡ reply_telling a x body
is_told (reply.Added place) a x body p e from told = let same : place ≡ x = cc in let here : answer.Added ≡ a = cc in rw (sym here, same) refl
is_told (reply.Replaced place) a x body p e from told = let same : place ≡ x = cc in let here : answer.Replaced ≡ a = cc in rw (sym here, same) refl
is_told (reply.Removed place) a x body p e from told = let same : place ≡ x = cc in let here : answer.Removed ≡ a = cc in rw (sym here, same) refl
is_told (reply.Absent place) a x body p e from told = let same : place ≡ x = cc in let here : answer.Absent ≡ a = cc in rw (sym here, same) refl
is_told (reply.Full place planes cells) a x body p e from told = let same : place ≡ x = cc in let here : answer.Full planes cells ≡ a = cc in rw (sym here, same) refl
is_told (reply.Answer place own) a x body p e from told =
    let same : place ≡ x = cc in
    let here : answer.Seen ≡ a = cc in
    let text = told own refl in
    rw (sym here, same, text) refl
is_told (reply.Repacked place own before after) a x body p e from told =
    let same : place ≡ x = cc in
    let here : answer.Done before after ≡ a = cc in
    let at = from own refl in
    rw (sym here, same, at) refl
is_told (reply.Moved place own stamp) a x body p e from told =
    let same : place ≡ x = cc in
    let here : answer.Moved stamp ≡ a = cc in
    let at = from own refl in
    rw (sym here, same, at) refl
is_told (reply.Refused code) a x body p e from told = absurd (cc)

-- the entry behind those that led to a version, read off the history
read_entry : (done more : List Entry) (e : Entry) (n : ℕ) → length done ≡ n → slice_get (done ++ more) n ≡ Some e → (rest : List Entry) × (more ≡ e ∷ rest)
read_entry done [] e n size there =
    let none = slice_get_past (done ++ []) n (omega (arith, length-append done [], size)) in
    absurd (cc)
read_entry done (x ∷ rest) e n size there =
    let here = next_entry done x rest n size in
    let same : x ≡ e = cc in
    (rest, ap (λ (y : Entry). y ∷ rest) same)

-- its answer is the step's
legal_there : (start : Version) (done : List Entry) (e : Entry) (rest : List Entry) → IsLegal start (done ++ e ∷ rest) → e.answer ≡ (step (replay start done) e.call).answer
legal_there start [] e rest h = h.0
legal_there start (x ∷ done) e rest h = legal_there (after start x) done e rest h.1

-- the call of a request, where a Repack's `from` is this
call_there : (r : Request) (x from : ℕ) (c : Call) → (is_repack r ≡ true → from ≡ x) → call_of r x ≡ Some c → call_of r from ≡ Some c
call_there (request.Put session number tag label) x from c own e = e
call_there (request.Drop session number tag) x from c own e = e
call_there (request.Ask session number query) x from c own e = e
call_there (request.Bad session number code) x from c own e = absurd (cc)
call_there (request.Repack session number row) x from c own e = ap (call_of (request.Repack session number row)) (own refl) ∙ e

from_there : (y : Reply) (x : ℕ) → IsSome (from_of y) → ((from : ℕ) → from_of y ≡ Some from → from ≡ x) → from_or_zero y ≡ x
from_there (reply.Repacked place from before after) x told own = own from refl
from_there (reply.Moved place from stamp) x told own = own from refl
from_there (reply.Added place) x told own = absurd (cc)
from_there (reply.Replaced place) x told own = absurd (cc)
from_there (reply.Removed place) x told own = absurd (cc)
from_there (reply.Absent place) x told own = absurd (cc)
from_there (reply.Full place planes cells) x told own = absurd (cc)
from_there (reply.Answer place body) x told own = absurd (cc)
from_there (reply.Refused code) x told own = absurd (cc)

-- facts on all exchanges, at one of them
at_split : (P : Exchange → Type 0) (xs : List Exchange) (e : Exchange) (ys : List Exchange) → AllByRecursion P (xs ++ e ∷ ys) → AllByRecursion P xs × P e
at_split P [] e ys h = (tt, h.0)
at_split P (x ∷ xs) e ys h = let rest = at_split P xs e ys h.1 in ((h.0, rest.0), rest.1)

pairs_split : (R : Exchange → Exchange → Type 0) (xs : List Exchange) (e : Exchange) (ys : List Exchange) → AllPairs R (xs ++ e ∷ ys) → All (R e) ys
pairs_split R [] e ys h = λ k d lt. h 0 (suc k) d (omega arith) (omega (arith, lt))
pairs_split R (x ∷ xs) e ys h = pairs_split R xs e ys (λ i j d lt le. h (suc i) (suc j) d (omega (arith, lt)) (omega (arith, le)))

-- what one reply tells: it is the one-thread sender's, and the history goes on with its entry
pub record IsTurn (p : Parameters) (v : Version) (r : Request) (y : Reply) (more : List Entry) : Type 0 where
  pub same : y ≡ lane_reply p v r
  pub rest : List Entry
  pub goes_on : more ≡ entries_by v (call_on v r) ++ rest

module _ (p : Parameters) (start : Version) (given history : List Entry) (rounds : List (List Request)) (whole : List Exchange)
    (served : AreServed p start given history rounds whole) (one : IsOneLane whole) where
  -- the exchange behind some, where these have led to a version
  module _ (xs ys : List Exchange) (e : Exchange) (split : IsSplit whole xs ys e) (lt : e.round < length rounds)
      (v : Version) (done more : List Entry) (led : HasLedTo start done v) (count : v.count ≡ length given + length (all_places xs)) (is : history ≡ done ++ more) where
    at : (P : Exchange → Type 0) → All P whole → AllByRecursion P xs × P e
    at P all = at_split P xs e ys (subst (AllByRecursion P) split.all (recursion_from_All P whole all))

    own_from : (from x : ℕ) → from_of e.reply ≡ Some from → place_of e.reply ≡ Some x → from ≡ x
    own_from from x ef ep =
        let own = (at (λ f. (n : ℕ) → from_of f.reply ≡ Some n → place_of f.reply ≡ Some n) one.own_from).1 from ef in
        cc

    -- with a place
    placed-turn : (x : ℕ) (c : Call) → place_of e.reply ≡ Some x → call_of e.request v.count ≡ Some c → call_on v e.request ≡ Some c → IsTurn p v e.request e.reply more
    placed-turn x c place calls some =
        let there = (place-is p start given history rounds whole served one xs ys e x split lt place).0 in
        let here : x ≡ v.count = omega (arith, there, count) in
        let told = tells_answer e.reply x place in
        let recorded = (at (IsRecorded history) served.history_of.recorded).1 x told.0 place told.1 in
        let repacks = (at (λ f. is_repack f.request ≡ true → IsSome (place_of f.reply) → IsSome (from_of f.reply)) served.stepped.repacks).1 in
        let from : is_repack e.request ≡ true → from_or_zero e.reply ≡ v.count =
        λ packs. from_there e.reply v.count (repacks packs (rw place refl)) (λ n ef. own_from n x ef place ∙ here) in
        let call = call_there e.request v.count (from_or_zero e.reply) c from calls in
        let entry : Entry = record { call = c; answer = told.0 } in
        let found : slice_get (done ++ more) x ≡ Some entry =
        ap (λ (h : List Entry). slice_get h x) (sym is) ∙ recorded ∙ ap (λ (o : Option Call). option_map (λ d. record { call = d; answer = told.0 }) o) call in
        let next = read_entry done more entry x (led.number ∙ sym here) found in
        let legal = legal_there start done entry next.0 (subst (IsLegal start) (is ∙ ap (λ (m : List Entry). done ++ m) next.1) served.stepped.legal) in
        let answer : told.0 ≡ (step v c).answer = legal ∙ ap (λ (w : Version). (step w c).answer) led.replayed in
        let evaluated = (at (IsEvaluated p start history) served.evaluated).1 in
        let body : (b : List ℕ) → body_of e.reply ≡ Some b → b ≡ reply_body p v.rows (asked_ciphertexts e.request) =
        λ b eb. evaluated x b place eb ∙ ap (λ (w : Version). reply_body p w.rows (asked_ciphertexts e.request))
        (ap (λ (h : List Entry). version_at start h x) is ∙ version-there start done more v x led (sym here)) in
        let is_reply = is_told e.reply told.0 x (reply_body p v.rows (asked_ciphertexts e.request)) place told.1 (λ n ef. own_from n x ef place) body in
        record {
          same = is_reply ∙ (λ i. reply_telling (answer i) (here i) (reply_body p v.rows (asked_ciphertexts e.request))) ∙ ap (reply_by p v e.request) (sym some);
          rest = next.0;
          goes_on = next.1 ∙ (λ i. record { call = c; answer = answer i } ∷ next.0) ∙ ap (λ (o : Option Call). entries_by v o ++ next.0) (sym some);
        }

    -- refused for a full journal
    full-turn : code_of e.request ≡ None → e.reply ≡ reply.Refused journal_full → most_entries ≤ v.count
    full-turn code refused =
        let stays = pairs_split StaysFull xs e ys (subst (AllPairs StaysFull) split.all one.full_stays) in
        let none : place_of e.reply ≡ None = ap place_of refused in
        let full = full-is p start given history rounds whole served one xs ys e split lt code none
        (recursion_from_All (λ f. place_of f.reply ≡ None) ys (λ k d le. stays k d le refused)) (at IsCodedRight served.coded).0 in
        omega (arith, full, count)

    -- each reply is the one-thread sender's
    pub one-turn : Turned v e.request → IsTurn p v e.request e.reply more
    one-turn (Turned.Coded own coded none) = record {
      same = (at IsCodedRight served.coded).1 own coded ∙ sym (coded-turn p v e.request (Turned.Coded own coded none) own coded);
      rest = more;
      goes_on = ap (λ (o : Option Call). entries_by v o ++ more) (sym none);
    }
    one-turn (Turned.Full uncoded_here full none) =
        let no_room : (x : ℕ) → place_of e.reply ≡ Some x → ⊥ =
        λ x place. let there = place-is p start given history rounds whole served one xs ys e x split lt place in omega (arith, there.0, there.1, count, full) in
        let refused : e.reply ≡ reply.Refused journal_full = elim ((at HasPlaceOrIsFull served.placed.others).1 uncoded_here) [
          | inl some ↦ absurd (let none_there = none_from (place_of e.reply) no_room in cc)
          | inr refused ↦ refused
        ] in
        record { same = refused ∙ rw (none, uncoded_here) refl; rest = more; goes_on = ap (λ (o : Option Call). entries_by v o ++ more) (sym none) }
    one-turn (Turned.Makes c uncoded_here room calls some) = elim ((at HasPlaceOrIsFull served.placed.others).1 uncoded_here) [
      | inl has ↦ with_place (place_of e.reply) refl has
      | inr refused ↦ absurd (let full = full-turn uncoded_here refused in omega (arith, full, room))
    ] where
      with_place : (o : Option ℕ) → place_of e.reply ≡ o → IsSome (place_of e.reply) → IsTurn p v e.request e.reply more
      with_place (Some x) place has = placed-turn x c place calls some
      with_place None place has = absurd (cc)

-- the heads and the tails of equal lists
heads : (x y : ℕ × ℕ) (xs ys : List (ℕ × ℕ)) → x ∷ xs ≡ y ∷ ys → (x ≡ y) × (xs ≡ ys)
heads x y xs ys e = (cc, cc)

-- a history begins with what its front is
begins_with : (given history : List Entry) → take (length given) history ≡ given → given ++ drop (length given) history ≡ history
begins_with given history e = ap (λ (es : List Entry). es ++ drop (length given) history) (sym e) ∙ take-append-drop (length given) history

-- requests in their rounds' order
abbrev pub IsSorted : List (ℕ × Request) → Type 0
IsSorted [] = ⊤
IsSorted (n ∷ ns) = AllByRecursion (λ m. n.0 ≤ m.0) ns × IsSorted ns

-- what holds of requests in their rounds holds of the exchanges
paired-rounds : (P : ℕ → Type 0) (ns : List (ℕ × Request)) (ss : List Sent) → AllByRecursion (λ n. P n.0) ns → AllByRecursion (λ e. P e.round) (paired ns ss)
paired-rounds P [] ss h = tt
paired-rounds P (n ∷ ns) [] h = tt
paired-rounds P (n ∷ ns) (s ∷ ss) h = (h.0, paired-rounds P ns ss h.1)

places-more : (xs : List Exchange) (e : Exchange) (v : Version) (r : Request) (p : Parameters) → Turned v r → e.reply ≡ lane_reply p v r
    → length (all_places (xs ++ e ∷ [])) ≡ length (all_places xs) + length (entries_by v (call_on v r))
places-more xs e v r p t same =
    ap length (places-append (λ _. true) xs (e ∷ [])) ∙ length-append (all_places xs) (all_places (e ∷ [])) ∙ ap (λ (n : ℕ). length (all_places xs) + n) (by_turn t same) where
      by_turn : Turned v r → e.reply ≡ lane_reply p v r → length (all_places (e ∷ [])) ≡ length (entries_by v (call_on v r))
      by_turn (Turned.Coded own coded none) same = rw none (rw (same, none) refl)
      by_turn (Turned.Full uncoded_here full none) same = rw none (rw (same, none) refl)
      by_turn (Turned.Makes c uncoded_here room calls some) same =
          let place : place_of e.reply ≡ Some v.count = ap place_of (same ∙ ap (reply_by p v r) some) ∙ place-reply (step v c).answer v.count (reply_body p v.rows (asked_ciphertexts r)) in
          rw some (rw place refl)

module _ (p : Parameters) (start : Version) (given history : List Entry) (rounds : List (List Request)) (whole : List Exchange)
    (served : AreServed p start given history rounds whole) (one : IsOneLane whole) where
  -- so all the replies are
  pub same_rest : (xs : List Exchange) (ns : List (ℕ × Request)) (ss : List Sent) (v : Version) (done more : List Entry)
      → whole ≡ xs ++ paired ns ss → history ≡ done ++ more → HasLedTo start done v → v.count ≡ length given + length (all_places xs)
      → AllByRecursion (λ f. AllByRecursion (λ n. f.round ≤ n.0) ns) xs → IsSorted ns → AllByRecursion (λ n. n.0 < length rounds) ns
      → map address_of_reply ss ≡ map address_of_request (seconds ns) → ss ≡ lane_replies p v (seconds ns)
  unfolding lane_replies
  same_rest xs [] [] v done more all is led count early sorted few addresses = refl
  same_rest xs [] (s ∷ ss) v done more all is led count early sorted few addresses = absurd (omega (arith, ap length addresses))
  same_rest xs (n ∷ ns) [] v done more all is led count early sorted few addresses = absurd (omega (arith, ap length addresses))
  same_rest xs (n ∷ ns) (s ∷ ss) v done more all is led count early sorted few addresses =
      let e : Exchange = record { round = n.0; request = n.1; reply = s.reply } in
      let ys = paired ns ss in
      let split : IsSplit whole xs ys e = record {
        all = all;
        earlier = each-weaker (λ f. AllByRecursion (λ m. f.round ≤ m.0) (n ∷ ns)) (λ f. f.round ≤ n.0) (λ f h. h.0) xs early;
        later = paired-rounds (λ k. n.0 ≤ k) ns ss sorted.0;
      } in
      let turn = one-turn p start given history rounds whole served one xs ys e split few.0 v done more led count is (turned v n.1) in
      let addressed = heads _ _ _ _ addresses in
      let session = ap (λ (a : ℕ × ℕ). a.0) addressed.0 in
      let number = ap (λ (a : ℕ × ℕ). a.1) addressed.0 in
      let next = same_rest (xs ++ e ∷ []) ns ss (lane_next v n.1) (done ++ entries_by v (call_on v n.1)) turn.rest
      (all ∙ sym (append_assoc xs (e ∷ []) ys))
      (is ∙ ap (λ (m : List Entry). done ++ m) turn.goes_on ∙ sym (append_assoc done (entries_by v (call_on v n.1)) turn.rest))
      (led-further start done v (call_on v n.1) led)
      (count-behind v (call_on v n.1) ∙ omega (arith, count, places-more xs e v n.1 p (turned v n.1) turn.same))
      (each-append (λ f. AllByRecursion (λ m. f.round ≤ m.0) ns) xs (e ∷ []) (each-weaker (λ f. AllByRecursion (λ m. f.round ≤ m.0) (n ∷ ns)) (λ f. AllByRecursion (λ m. f.round ≤ m.0) ns) (λ f h. h.1) xs early) (sorted.0, tt))
      sorted.1 few.1 addressed.1 in
      λ i. record { session = session i; number = number i; reply = turn.same i } ∷ next i

sorted-join : (k : ℕ) (rs : List Request) (ns : List (ℕ × Request)) → AllByRecursion (λ n. k ≤ n.0) ns → IsSorted ns → IsSorted (of_round k rs ++ ns)
sorted-join k [] ns later sorted = sorted
sorted-join k (r ∷ rs) ns later sorted =
    (each-append (λ n. k ≤ n.0) (of_round k rs) ns (each-of_round (λ n. k ≤ n) k rs (omega arith)) later, sorted-join k rs ns later sorted)

sorted-numbered : (j : ℕ) (rounds : List (List Request)) → IsSorted (numbered_from j rounds)
sorted-numbered j [] = tt
sorted-numbered j (round ∷ rounds) =
    sorted-join j round (numbered_from (j + 1) rounds) (each-weaker (λ n. j + 1 ≤ n.0) (λ n. j ≤ n.0) (λ n le. omega (arith, le)) (numbered_from (j + 1) rounds) (each-numbered (j + 1) rounds)) (sorted-numbered (j + 1) rounds)

few-numbered : (j : ℕ) (rounds : List (List Request)) → AllByRecursion (λ n. n.0 < j + length rounds) (numbered_from j rounds)
few-numbered j [] = tt
few-numbered j (round ∷ rounds) =
    each-append (λ n. n.0 < j + length (round ∷ rounds)) (of_round j round) (numbered_from (j + 1) rounds) (each-of_round (λ k. k < j + length (round ∷ rounds)) j round (omega arith))
    (each-weaker (λ n. n.0 < j + 1 + length rounds) (λ n. n.0 < j + length (round ∷ rounds)) (λ n lt. omega (arith, lt)) (numbered_from (j + 1) rounds) (few-numbered (j + 1) rounds))

bytes-seconds : (ns : List (ℕ × Request)) → AllByRecursion HasByteCode (seconds ns) → AllByRecursion (λ n. HasByteCode n.1) ns
bytes-seconds [] h = tt
bytes-seconds (n ∷ ns) h = (h.0, bytes-seconds ns h.1)

-- The law of one text.
pub one-text : OneTextIsOfOneLane
one-text p start given rounds none_yet legal bytes =
    let each = bytes-seconds (numbered_from 0 rounds) (subst (AllByRecursion HasByteCode) (sym (seconds-numbered 0 rounds)) (recursion_from_All HasByteCode (requests_of rounds) bytes)) in
    let begun = replay start given in
    let count : begun.count ≡ length given = count-replay start given ∙ omega (arith, none_yet) in (
      text_of (lane_replies p begun (requests_of rounds)),
      lane-text p start given rounds none_yet legal each,
      λ text other.
          let same_sents = same_rest p start given other.history rounds (exchanges rounds other.sents) other.served.served other.one_lane [] (numbered_from 0 rounds) other.sents begun given _ refl
          (sym (begins_with given other.history other.served.served.history_of.begins)) (record { replayed = refl; number = sym count }) (omega (arith, count)) tt
          (sorted-numbered 0 rounds) (each-weaker (λ n. n.0 < 0 + length rounds) (λ n. n.0 < length rounds) (λ n lt. omega (arith, lt)) (numbered_from 0 rounds) (few-numbered 0 rounds))
          (other.served.one_each ∙ ap (map address_of_request) (sym (seconds-numbered 0 rounds))) in
          other.text_is ∙ ap text_of (same_sents ∙ ap (lane_replies p begun) (seconds-numbered 0 rounds)),
    )

pub lane-of_one : LaneRepliesAreOfOneLane
lane-of_one p start given rounds none_yet legal bytes =
    let each = bytes-seconds (numbered_from 0 rounds) (subst (AllByRecursion HasByteCode) (sym (seconds-numbered 0 rounds)) (recursion_from_All HasByteCode (requests_of rounds) bytes)) in
    lane-text p start given rounds none_yet legal each
