-- The exchanges of rounds and one round more: those of the rounds, and then those of the new one, with its number.
use Rattle.std.specs.Prelude.{◌≡◌, ℕ, ◌+◌, ◌<◌, Bool, false, nat_eq, List, [], ◌∷◌, ◌++◌, length, map}
use Rattle.std.specs.List.{AllByRecursion, zip}
use Rattle.std.proofs.Common.{refl, sym, ap, ◌∙◌, subst, arith, append_assoc, append-nil}
use Rattle.std.proofs.lemmas.List.{length-map, map-append}
use Rattle.std.proofs.lemmas.List.Concat.{flat_map-append}
use Rattle.psi_frames.specs.declared.request.Request.{Request}
use Rattle.psi_frames.specs.Served.{Exchange, Sent, HaveOneReplyEach, exchanges, numbered, requests_of, places_in, uncoded_of_round, address_of_reply, address_of_request}
use Rattle.psi_frames.proofs.Each.{each-append}
use Rattle.psi_frames.proofs.Following.{each-of_round, numbered_from, of_round, seconds-numbered}
use Rattle.psi_frames.proofs.Lanes.{paired, seconds}

-- an exchange with the number of another round
abbrev pub in_round : ℕ → Exchange → Exchange
in_round k e = record e { round = k }

-- exchanges with it
abbrev pub moved : ℕ → List Exchange → List Exchange
moved k es = map (in_round k) es

-- the requests of one round more
numbered-one_more : (j : ℕ) (rounds : List (List Request)) (round : List Request) → numbered_from j (rounds ++ round ∷ []) ≡ numbered_from j rounds ++ of_round (j + length rounds) round
numbered-one_more j [] round = append-nil (of_round j round) ∙ ap (λ (n : ℕ). of_round n round) (omega arith)
numbered-one_more j (r ∷ rs) round =
    ap (λ (ns : List (ℕ × Request)). of_round j r ++ ns) (numbered-one_more (j + 1) rs round)
    ∙ sym (append_assoc (of_round j r) (numbered_from (j + 1) rs) (of_round (j + 1 + length rs) round))
    ∙ ap (λ (n : ℕ). (of_round j r ++ numbered_from (j + 1) rs) ++ of_round n round) (omega arith)

numbered-last : (rounds : List (List Request)) (round : List Request) → numbered (rounds ++ round ∷ []) ≡ numbered rounds ++ of_round (length rounds) round
numbered-last rounds round = numbered-one_more 0 rounds round ∙ ap (λ (n : ℕ). numbered rounds ++ of_round n round) (omega arith)

zip-append : {A B : Type 0} (xs ys : List A) (us vs : List B) → length xs ≡ length us → zip (xs ++ ys) (us ++ vs) ≡ zip xs us ++ zip ys vs
zip-append [] ys [] vs e = refl
zip-append [] ys (u ∷ us) vs e = absurd (omega (arith, e))
zip-append (x ∷ xs) ys [] vs e = absurd (omega (arith, e))
zip-append {A} {B} (x ∷ xs) ys (u ∷ us) vs e = ap (λ (ps : List (A × B)). (x, u) ∷ ps) (zip-append xs ys us vs (omega (arith, e)))

paired-append : (xs ys : List (ℕ × Request)) (us vs : List Sent) → length xs ≡ length us → paired (xs ++ ys) (us ++ vs) ≡ paired xs us ++ paired ys vs
paired-append xs ys us vs e =
    ap (λ (ps : List ((ℕ × Request) × Sent)). map {A = (ℕ × Request) × Sent} {B = Exchange} (λ e. record { round = e.0.0; request = e.0.1; reply = e.1.reply }) ps) (zip-append xs ys us vs e)
    ∙ map-append (λ (e : (ℕ × Request) × Sent). record { round = e.0.0; request = e.0.1; reply = e.1.reply }) (zip xs us) (zip ys vs)

paired-moved : (k : ℕ) (round : List Request) (sents : List Sent) → paired (of_round k round) sents ≡ moved k (paired (of_round 0 round) sents)
paired-moved k [] sents = refl
paired-moved k (r ∷ rs) [] = refl
paired-moved k (r ∷ rs) (s ∷ sents) = ap (λ (es : List Exchange). record { round = k; request = r; reply = s.reply } ∷ es) (paired-moved k rs sents)

-- there are as many replies as requests
pub length-replies : (rounds : List (List Request)) (sents : List Sent) → HaveOneReplyEach rounds sents → length sents ≡ length (requests_of rounds)
length-replies rounds sents each = sym (length-map sents address_of_reply) ∙ ap length each ∙ length-map (requests_of rounds) address_of_request

pub length-numbered : (rounds : List (List Request)) → length (numbered rounds) ≡ length (requests_of rounds)
length-numbered rounds = sym (length-map (numbered rounds) (λ n. n.1)) ∙ ap length (seconds-numbered 0 rounds)

pub exchanges-one_more : (rounds : List (List Request)) (round : List Request) (sents next : List Sent) → HaveOneReplyEach rounds sents
    → exchanges (rounds ++ round ∷ []) (sents ++ next) ≡ exchanges rounds sents ++ moved (length rounds) (exchanges (round ∷ []) next)
exchanges-one_more rounds round sents next each =
    let k = length rounds in
    let size = length-numbered rounds ∙ sym (length-replies rounds sents each) in
    ap (λ (ns : List (ℕ × Request)). paired ns (sents ++ next)) (numbered-last rounds round)
    ∙ paired-append (numbered rounds) (of_round k round) sents next size
    ∙ ap (λ (es : List Exchange). paired (numbered rounds) sents ++ es)
    (paired-moved k round next ∙ ap (λ (ns : List (ℕ × Request)). moved k (paired ns next)) (sym (append-nil (of_round 0 round))))

-- the same where the last round grows
pub exchanges-part : (rounds : List (List Request)) (part next : List Request) (sents more : List Sent) → HaveOneReplyEach (rounds ++ part ∷ []) sents
    → exchanges (rounds ++ (part ++ next) ∷ []) (sents ++ more) ≡ exchanges (rounds ++ part ∷ []) sents ++ moved (length rounds) (exchanges (next ∷ []) more)
exchanges-part rounds part next sents more each =
    let k = length rounds in
    let size = length-numbered (rounds ++ part ∷ []) ∙ sym (length-replies (rounds ++ part ∷ []) sents each) in
    let all : numbered (rounds ++ (part ++ next) ∷ []) ≡ numbered (rounds ++ part ∷ []) ++ of_round k next =
    numbered-last rounds (part ++ next) ∙ ap (λ (ns : List (ℕ × Request)). numbered rounds ++ ns) (map-append (λ (r : Request). (k, r)) part next)
    ∙ sym (append_assoc (numbered rounds) (of_round k part) (of_round k next)) ∙ ap (λ (ns : List (ℕ × Request)). ns ++ of_round k next) (sym (numbered-last rounds part)) in
    ap (λ (ns : List (ℕ × Request)). paired ns (sents ++ more)) all
    ∙ paired-append (numbered (rounds ++ part ∷ [])) (of_round k next) sents more size
    ∙ ap (λ (es : List Exchange). paired (numbered (rounds ++ part ∷ [])) sents ++ es)
    (paired-moved k next more ∙ ap (λ (ns : List (ℕ × Request)). moved k (paired ns more)) (sym (append-nil (of_round 0 next))))

pub requests-part : (rounds : List (List Request)) (part next : List Request) → requests_of (rounds ++ (part ++ next) ∷ []) ≡ requests_of (rounds ++ part ∷ []) ++ requests_of (next ∷ [])
requests-part rounds part next =
    flat_map-append (λ (r : List Request). r) rounds ((part ++ next) ∷ [])
    ∙ ap (λ (rs : List Request). requests_of rounds ++ rs) (append-nil (part ++ next) ∙ (λ i. sym (append-nil part) i ++ sym (append-nil next) i))
    ∙ sym (append_assoc (requests_of rounds) (requests_of (part ∷ [])) (requests_of (next ∷ [])))
    ∙ ap (λ (rs : List Request). rs ++ requests_of (next ∷ [])) (sym (flat_map-append (λ (r : List Request). r) rounds (part ∷ [])))

-- what holds of each numbered request's round, or of each request, holds of the exchanges
each-paired : (P : ℕ → Request → Type 0) (ns : List (ℕ × Request)) (sents : List Sent) → AllByRecursion (λ n. P n.0 n.1) ns → AllByRecursion (λ e. P e.round e.request) (paired ns sents)
each-paired P [] sents h = tt
each-paired P (n ∷ ns) [] h = tt
each-paired P (n ∷ ns) (s ∷ sents) h = (h.0, each-paired P ns sents h.1)

numbered-below : (j m : ℕ) (rounds : List (List Request)) → m ≡ j + length rounds → AllByRecursion (λ n. n.0 < m) (numbered_from j rounds)
numbered-below j m [] e = tt
numbered-below j m (round ∷ rounds) e =
    each-append (λ n. n.0 < m) (of_round j round) (numbered_from (j + 1) rounds) (each-of_round (λ k. k < m) j round (omega (arith, e))) (numbered-below (j + 1) m rounds (omega (arith, e)))

pub rounds-below : (rounds : List (List Request)) (sents : List Sent) → AllByRecursion (λ e. e.round < length rounds) (exchanges rounds sents)
rounds-below rounds sents = each-paired (λ k r. k < length rounds) (numbered rounds) sents (numbered-below 0 (length rounds) rounds (omega arith))

pub rounds-first : (round : List Request) (sents : List Sent) → AllByRecursion (λ e. e.round ≡ 0) (exchanges (round ∷ []) sents)
rounds-first round sents =
    each-paired (λ k r. k ≡ 0) (of_round 0 round ++ []) sents (each-append (λ n. n.0 ≡ 0) (of_round 0 round) [] (each-of_round (λ k. k ≡ 0) 0 round refl) tt)

pub each-seconds : (P : Request → Type 0) (ns : List (ℕ × Request)) → AllByRecursion P (seconds ns) → AllByRecursion (λ n. P n.1) ns
each-seconds P [] h = tt
each-seconds P (n ∷ ns) h = (h.0, each-seconds P ns h.1)

pub requests-each : (P : Request → Type 0) (rounds : List (List Request)) (sents : List Sent) → AllByRecursion P (requests_of rounds) → AllByRecursion (λ e. P e.request) (exchanges rounds sents)
requests-each P rounds sents h =
    each-paired (λ k r. P r) (numbered rounds) sents (each-seconds P (numbered rounds) (subst (AllByRecursion P) (sym (seconds-numbered 0 rounds)) h))

-- the places of exchanges with another round
pub places-moved : (keep : ℕ → Bool) (k : ℕ) (es : List Exchange) → places_in keep (moved k es) ≡ places_in (λ _. keep k) es
places-moved keep k [] = refl
places-moved keep k (e ∷ es) = simp (places-moved keep k es)

pub uncoded-none : (j : ℕ) (es : List Exchange) → AllByRecursion (λ e. nat_eq j e.round ≡ false) es → uncoded_of_round j es ≡ 0
uncoded-none j [] h = refl
uncoded-none j (e ∷ es) h = let other = h.0 in rw other (uncoded-none j es h.1)
