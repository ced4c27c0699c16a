-- The exchanges of the one-thread sender, and that they serve their rounds.
use Rattle.std.specs.Prelude.{◌≡◌, ℕ, suc, ◌+◌, ◌-◌, min, Bool, true, false, nat_eq, is_none, List, [], ◌∷◌, ◌++◌, length, map, filter, Option, Some, None}
use Rattle.std.specs.List.{AllByRecursion, range_with_len, zip}
use Rattle.std.proofs.Common.{refl, ap, ◌∙◌, arith, length-append}
use Rattle.psi_residue.specs.Parameters.{Parameters}
use Rattle.psi_bundle.specs.declared.history.Call.{Call}
use Rattle.psi_bundle.specs.Versions.{Version}
use Rattle.psi_bundle.specs.Steps.{step}
use Rattle.psi_bundle.proofs.Steps.{count-step}
use Rattle.psi_bundle.specs.Histories.{most_entries}
use Rattle.psi_frames.specs.declared.request.Request.{Request}
use Rattle.psi_frames.specs.Requests.{code_of}
use Rattle.psi_frames.specs.Served.{Exchange, Sent, place_of, places_in, uncoded_of_round, address_of_reply, address_of_request}
use Rattle.psi_frames.specs.OneLane.{call_on, reply_by, version_by, entries_by, lane_reply, lane_next, lane_replies, lane_history}
use Rattle.psi_frames.proofs.Turns.{Turned, turned, place-reply, count-behind}

-- requests with the numbers of their rounds, without these
abbrev pub seconds : List (ℕ × Request) → List Request
seconds ns = map {A = ℕ × Request} {B = Request} (λ n. n.1) ns

-- the exchanges of the one-thread sender
abbrev pub lane : Parameters → Version → List (ℕ × Request) → List Exchange
lane p v [] = []
lane p v (n ∷ ns) = record { round = n.0; request = n.1; reply = lane_reply p v n.1 } ∷ lane p (lane_next v n.1) ns

-- the version behind some requests
abbrev pub lane_end : Version → List (ℕ × Request) → Version
lane_end v [] = v
lane_end v (n ∷ ns) = lane_end (lane_next v n.1) ns

-- requests with their replies
abbrev pub paired : List (ℕ × Request) → List Sent → List Exchange
paired ns sents = map {A = (ℕ × Request) × Sent} {B = Exchange} (λ e. record { round = e.0.0; request = e.0.1; reply = e.1.reply }) (zip ns sents)

pub paired-lane : (p : Parameters) (v : Version) (ns : List (ℕ × Request)) → paired ns (lane_replies p v (seconds ns)) ≡ lane p v ns
unfolding lane_replies
paired-lane p v [] = refl
paired-lane p v (n ∷ ns) = ap (λ (es : List Exchange). record { round = n.0; request = n.1; reply = lane_reply p v n.1 } ∷ es) (paired-lane p (lane_next v n.1) ns)

pub addresses : (p : Parameters) (v : Version) (rs : List Request) → map address_of_reply (lane_replies p v rs) ≡ map address_of_request rs
unfolding lane_replies
addresses p v [] = refl
addresses p v (r ∷ rs) = ap (λ (xs : List (ℕ × ℕ)). address_of_request r ∷ xs) (addresses p (lane_next v r) rs)

pub lane-append : (p : Parameters) (v : Version) (xs ys : List (ℕ × Request)) → lane p v (xs ++ ys) ≡ lane p v xs ++ lane p (lane_end v xs) ys
lane-append p v [] ys = refl
lane-append p v (n ∷ xs) ys = ap (λ (es : List Exchange). record { round = n.0; request = n.1; reply = lane_reply p v n.1 } ∷ es) (lane-append p (lane_next v n.1) xs ys)

-- the count of entries behind some requests
pub count-end : (v : Version) (ns : List (ℕ × Request)) → (lane_end v ns).count ≡ v.count + length (lane_history v (seconds ns))
unfolding lane_history
count-end v [] = omega arith
count-end v (n ∷ ns) =
    let rest = count-end (lane_next v n.1) ns in
    let here = count-behind v (call_on v n.1) in
    let all = length-append (entries_by v (call_on v n.1)) (lane_history (lane_next v n.1) (seconds ns)) in
    rest ∙ omega (arith, here, all)

-- the places of requests in rounds that are kept follow on from the version's count; those of others are none
places-kept_by : (p : Parameters) (v : Version) (n : ℕ × Request) (ns : List (ℕ × Request)) (keep : ℕ → Bool) (o : Option Call) → keep n.0 ≡ true
    → places_in keep (lane p (version_by v o) ns) ≡ range_with_len (version_by v o).count (length (lane_history (version_by v o) (seconds ns)))
    → places_in keep (record { round = n.0; request = n.1; reply = reply_by p v n.1 o } ∷ lane p (version_by v o) ns)
    ≡ range_with_len v.count (length (entries_by v o ++ lane_history (version_by v o) (seconds ns)))
places-kept_by p v n ns keep (Some c) kept rest =
    let here : place_of (reply_by p v n.1 (Some c)) ≡ Some v.count = place-reply _ _ _ in
    let next = rest ∙ ap (λ (k : ℕ). range_with_len k (length (lane_history (step v c).version (seconds ns)))) (count-step v c) in
    rw kept (rw here (ap (λ (xs : List ℕ). v.count ∷ xs) next))
places-kept_by p v n ns keep None kept rest = rw kept rest

pub places-kept : (p : Parameters) (v : Version) (ns : List (ℕ × Request)) (keep : ℕ → Bool) → AllByRecursion (λ n. keep n.0 ≡ true) ns
    → places_in keep (lane p v ns) ≡ range_with_len v.count (length (lane_history v (seconds ns)))
unfolding lane_history
places-kept p v [] keep h = refl
places-kept p v (n ∷ ns) keep h = places-kept_by p v n ns keep (call_on v n.1) h.0 (places-kept p (lane_next v n.1) ns keep h.1)

pub places-others : (p : Parameters) (v : Version) (ns : List (ℕ × Request)) (keep : ℕ → Bool) → AllByRecursion (λ n. keep n.0 ≡ false) ns → places_in keep (lane p v ns) ≡ []
places-others p v [] keep h = refl
places-others p v (n ∷ ns) keep h = let other = h.0 in rw other (places-others p (lane_next v n.1) ns keep h.1)

-- requests without a code
abbrev pub uncoded : List Request → ℕ
uncoded rs = length (filter (λ r. is_none (code_of r)) rs)

-- there are as many entries as requests without a code, or as the journal has room for
length-history_by : (v : Version) (r : Request) (rs : List Request) → Turned v r
    → length (lane_history (lane_next v r) rs) ≡ min (uncoded rs) (most_entries - (lane_next v r).count)
    → length (entries_by v (call_on v r) ++ lane_history (lane_next v r) rs) ≡ min (uncoded (r ∷ rs)) (most_entries - v.count)
length-history_by v r rs (Turned.Coded code coded none) = rw (none, coded) (λ rest. rest)
length-history_by v r rs (Turned.Full uncoded_here full none) = rw (none, uncoded_here) (λ rest. omega (arith, rest, full))
length-history_by v r rs (Turned.Makes c uncoded_here room calls some) = rw (some, uncoded_here) (λ rest. let more = count-step v c in omega (arith, rest, room, more))

pub length-history : (v : Version) (rs : List Request) → length (lane_history v rs) ≡ min (uncoded rs) (most_entries - v.count)
unfolding lane_history
length-history v [] = omega arith
length-history v (r ∷ rs) = length-history_by v r rs (turned v r) (length-history (lane_next v r) rs)

-- requests without a code, in rounds that are this one, or others
uncoded-one : (k : ℕ) (e : Exchange) (rs : List Request) (es : List Exchange) (b : Bool) → is_none (code_of e.request) ≡ b → nat_eq k e.round ≡ true
    → uncoded_of_round k es ≡ uncoded rs → uncoded_of_round k (e ∷ es) ≡ uncoded (e.request ∷ rs)
uncoded-one k e rs es true code here rest = rw (here, code) (ap suc rest)
uncoded-one k e rs es false code here rest = rw (here, code) rest

pub uncoded-kept : (p : Parameters) (v : Version) (ns : List (ℕ × Request)) (k : ℕ) → AllByRecursion (λ n. nat_eq k n.0 ≡ true) ns → uncoded_of_round k (lane p v ns) ≡ uncoded (seconds ns)
uncoded-kept p v [] k h = refl
uncoded-kept p v (n ∷ ns) k h =
    uncoded-one k (record { round = n.0; request = n.1; reply = lane_reply p v n.1 }) (seconds ns) (lane p (lane_next v n.1) ns) (is_none (code_of n.1)) refl h.0
    (uncoded-kept p (lane_next v n.1) ns k h.1)

pub uncoded-others : (p : Parameters) (v : Version) (ns : List (ℕ × Request)) (k : ℕ) → AllByRecursion (λ n. nat_eq k n.0 ≡ false) ns → uncoded_of_round k (lane p v ns) ≡ 0
uncoded-others p v [] k h = refl
uncoded-others p v (n ∷ ns) k h = let other = h.0 in rw other (uncoded-others p (lane_next v n.1) ns k h.1)
