-- How long a text is that serves requests: answers go to asks alone, and no answer is longer than a set's limits allow.
use Rattle.std.proofs.Common.{◌≡◌, ℕ, zero, suc, ◌+◌, ◌*◌, ◌≤◌, Bool, true, false, cond, List, [], ◌∷◌, length, Option, None, Some, refl, sym, ap, subst, ◌∙◌, arith, length-append, is_some, nat_le, if◌then◌else◌}
use Rattle.std.specs.FinMap as fin
use Rattle.std.specs.List.{AllByRecursion, slice_get, sum}
use Rattle.std.specs.Option.{option_map}
use Rattle.std.proofs.lemmas.List.{length-map}
use Rattle.std.proofs.lemmas.List.Elements.{recursion_from_All}
use Rattle.std.proofs.lemmas.List.Sums.{sum_by-cons}
use Rattle.byteorder.specs.Endian.{big_bytes}
use Rattle.psi_residue.specs.Parameters.{Parameters}
use Rattle.psi_bundle.specs.Bodies.{bundle_counts, evaluated_rows}
use Rattle.psi_bundle.specs.declared.history.Answer.TheVariants as answer
use Rattle.psi_bundle.specs.declared.history.Call.{Call}
use Rattle.psi_bundle.specs.declared.history.Call.TheVariants as call
use Rattle.psi_bundle.specs.declared.history.Entry.{Entry}
use Rattle.psi_bundle.specs.Histories.{IsLegal, after, version_at}
use Rattle.psi_bundle.specs.Steps.{Step, add, fits, next, remove, repack, replace, step, unchanged}
use Rattle.psi_bundle.specs.Versions.{IsSound, IsWithinLimits, Row, Version, cells_of, empty_version, greatest_stamp, members_of_row, packed_row, placed, planes_of, row_at}
use Rattle.query_codec.specs.Replies.{reply_body, reply_bytes, reply_counts, reply_length}
use Rattle.query_codec.proofs.ReplyBodies.{counts_back}
use Rattle.psi_frames.specs.declared.reply.Reply.{Reply}
use Rattle.psi_frames.specs.declared.reply.Reply.TheVariants as reply
use Rattle.psi_frames.specs.declared.request.Request.{Request}
use Rattle.psi_frames.specs.declared.request.Request.TheVariants as request
use Rattle.psi_frames.specs.Frames.{reply_frame_bytes as frame_of_reply, reply_content}
use Rattle.psi_frames.specs.Requests.{call_of, code_of, count_asks, is_ask, asked_ciphertexts}
use Rattle.psi_frames.specs.Served.{Exchange, IsEvaluated, IsRecorded, Sent, address_of_reply, address_of_request, answer_of, body_of, exchanges, from_or_zero, numbered, place_of, requests_of, text_of}
use Rattle.psi_frames.proofs.FrameLaws.{length-frame}
use Rattle.psi_frames.proofs.Following.{seconds-numbered}
use Rattle.psi_frames.proofs.Lanes.{paired, seconds}
use Rattle.psi_receiver.proofs.Joined.{small-counts}
use Rattle.psi_demo.specs.Items.{demo_parameters}
use Rattle.psi_demo.specs.Laws.{IsSoundAt, ServedTextsAreShort}
use Rattle.psi_demo.proofs.ReplyFrames.{sent-body, sent-bytes, sent_frame}
use Rattle.psi_demo.proofs.ServedTexts.{is-reply}

-- ---- an answer goes to an ask

-- a choice between two steps, neither of which answers so
neither : (b : Bool) (s t : Step) → (s.answer ≡ answer.Seen → ⊥) → (t.answer ≡ answer.Seen → ⊥) → (if b then s else t).answer ≡ answer.Seen → ⊥
neither true s t no_s no_t is = no_s is
neither false s t no_s no_t is = no_t is

-- a call that is answered by Seen is an Ask
IsAskCall : Call → Type 0
IsAskCall (call.Put tag label) = ⊥
IsAskCall (call.Drop tag) = ⊥
IsAskCall call.Ask = Unit {0}
IsAskCall (call.Repack row from) = ⊥

seen-asks : (v : Version) (c : Call) → (step v c).answer ≡ answer.Seen → IsAskCall c
unfolding step IsAskCall
seen-asks v (call.Put tag label) is =
    let rows = placed v.parameters (v.count + 1) (record { tag = tag; label = label }) v.rows in
    let added : Step = record { answer = answer.Added; version = next v (fin.insert v.labels tag label) rows } in
    let full : Step = record { answer = answer.Full (planes_of v.parameters rows) (cells_of v.parameters rows); version = unchanged v } in
    let no_replaced : answer.Replaced ≡ answer.Seen → ⊥ = λ e. absurd (cc) in
    let no_added : answer.Added ≡ answer.Seen → ⊥ = λ e. absurd (cc) in
    let no_full : answer.Full (planes_of v.parameters rows) (cells_of v.parameters rows) ≡ answer.Seen → ⊥ = λ e. absurd (cc) in
    neither (is_some (fin.get v.labels tag)) (replace v tag label) (add v tag label rows) no_replaced (neither (fits v.parameters rows) added full no_added no_full) is
seen-asks v (call.Drop tag) is =
    let no_removed : answer.Removed ≡ answer.Seen → ⊥ = λ e. absurd (cc) in
    let no_absent : answer.Absent ≡ answer.Seen → ⊥ = λ e. absurd (cc) in
    neither (is_some (fin.get v.labels tag)) (remove v tag) (record { answer = answer.Absent; version = unchanged v }) no_removed no_absent is
seen-asks v call.Ask is = tt
seen-asks v (call.Repack row from) is =
    let old = row_at v.rows row in
    let packed = packed_row v.parameters.capacity (v.count + 1) (members_of_row old) in
    let moved : Step = record { answer = answer.Moved (greatest_stamp old); version = unchanged v } in
    let no_done : answer.Done (length old) (length packed) ≡ answer.Seen → ⊥ = λ e. absurd (cc) in
    let no_moved : answer.Moved (greatest_stamp old) ≡ answer.Seen → ⊥ = λ e. absurd (cc) in
    neither (nat_le (greatest_stamp old) from) (repack v row packed) moved no_done no_moved is

-- the answer of an entry of a legal history is some step's
legal-entry : (v : Version) (history : List Entry) (place : ℕ) (x : Entry) → IsLegal v history → slice_get history place ≡ Some x → (w : Version) × (x.answer ≡ (step w x.call).answer)
legal-entry v [] place x legal there = absurd (cc)
legal-entry v (e ∷ es) zero x legal there = let same : e ≡ x = cc in (v, subst (λ (y : Entry). y.answer ≡ (step v y.call).answer) same legal.0)
legal-entry v (e ∷ es) (suc place) x legal there = legal-entry (after v e) es place x legal.1 there

-- a request whose call was answered by Seen is an Ask
asked-by : (start : Version) (history : List Entry) (place from : ℕ) (r : Request) → IsLegal start history → (code_of r ≡ None) → slice_get history place ≡ option_map (λ c. record { call = c; answer = answer.Seen }) (call_of r from) → is_ask r ≡ true
unfolding IsAskCall
asked-by start history place from (request.Put session number tag label) legal none there =
    let x : Entry = record { call = call.Put tag label; answer = answer.Seen } in
    let of = legal-entry start history place x legal there in
    absurd (seen-asks of.0 (call.Put tag label) (sym of.1))
asked-by start history place from (request.Drop session number tag) legal none there =
    let x : Entry = record { call = call.Drop tag; answer = answer.Seen } in
    let of = legal-entry start history place x legal there in
    absurd (seen-asks of.0 (call.Drop tag) (sym of.1))
asked-by start history place from (request.Ask session number query) legal none there = refl
asked-by start history place from (request.Repack session number row) legal none there =
    let x : Entry = record { call = call.Repack row from; answer = answer.Seen } in
    let of = legal-entry start history place x legal there in
    absurd (seen-asks of.0 (call.Repack row from) (sym of.1))
asked-by start history place from (request.Bad session number code) legal none there = absurd (cc)

-- ---- how long a reply is

other-size : (r : Reply) → body_of r ≡ None → length (reply_content r) ≤ 24
other-size (reply.Added place) none = omega arith
other-size (reply.Replaced place) none = omega arith
other-size (reply.Removed place) none = omega arith
other-size (reply.Absent place) none = omega arith
other-size (reply.Full place planes cells) none = omega arith
other-size (reply.Answer place body) none = absurd (cc)
other-size (reply.Repacked place from before after) none = omega arith
other-size (reply.Moved place from stamp) none = omega arith
other-size (reply.Refused code) none = omega arith

-- the body of what a sound set answers
body-size : (v : Version) (query : List (List (List ℕ))) → v.parameters ≡ demo_parameters → IsSound v → length (reply_body demo_parameters v.rows query) ≤ 5242890
unfolding reply_body
body-size v query same sound =
    let p = demo_parameters in
    let limits : IsWithinLimits p v.rows = subst (λ (q : Parameters). IsWithinLimits q v.rows) same sound.limits in
    let counts = bundle_counts v.rows in
    let cts = evaluated_rows p v.rows query in
    let each_row : length counts ≡ p.rows = length-map v.rows (λ (row : Row). length row) ∙ sound.each_row ∙ ap (λ (q : Parameters). q.rows) same in
    let back : reply_counts p (reply_bytes p counts cts) ≡ counts = counts_back p counts cts each_row (λ i. small-counts p v.rows i limits) in
    let size = (is-reply v query same sound).head.size in
    let whole : length (reply_bytes p counts cts) ≡ reply_length p counts = size ∙ ap (reply_length p) back in
    let few : sum counts * 2 ≤ 64 = limits.0 in
    omega (arith, whole, few)

-- ---- what each exchange adds

-- an ask is answered with so many bytes at most, any other request with 24
IsShort : Exchange → Type 0
IsShort e = length (reply_content e.reply) ≤ 24 + cond (is_ask e.request) 5242874 0

short-answer : (history : List Entry) (e : Exchange) (place : ℕ) (body : List ℕ) → ((k : ℕ) → IsSoundAt history k) → IsLegal (empty_version demo_parameters) history → e.reply ≡ reply.Answer place body → code_of e.request ≡ None
    → IsRecorded history e → IsEvaluated demo_parameters (empty_version demo_parameters) history e → IsShort e
unfolding IsShort
short-answer history e place body sound legal is none recorded evaluated =
    let at : place_of e.reply ≡ Some place = ap place_of is in
    let tells : body_of e.reply ≡ Some body = ap body_of is in
    let there = recorded place answer.Seen at (ap answer_of is) in
    let asks : is_ask e.request ≡ true = asked-by (empty_version demo_parameters) history place (from_or_zero e.reply) e.request legal none there in
    let v = version_at (empty_version demo_parameters) history place in
    let set = sound place in
    let own : body ≡ reply_body demo_parameters v.rows (asked_ciphertexts e.request) = evaluated place body at tells in
    let size = body-size v (asked_ciphertexts e.request) set.parameters set.sound in
    let content : length (reply_content e.reply) ≡ 8 + length body = ap (λ (r : Reply). length (reply_content r)) is ∙ length-append (big_bytes 8 place) body in
    rw asks (omega (arith, content, ap length own, size))

-- a request with a code has no such reply
uncoded : (e : Exchange) (place : ℕ) (body : List ℕ) → e.reply ≡ reply.Answer place body → ((code : ℕ) → code_of e.request ≡ Some code → e.reply ≡ reply.Refused code) → (o : Option ℕ) → code_of e.request ≡ o → code_of e.request ≡ None
uncoded e place body is coded None same = same
uncoded e place body is coded (Some code) same = let refused = coded code same in absurd (cc)

short-by : (history : List Entry) (e : Exchange) (r : Reply) → e.reply ≡ r → ((k : ℕ) → IsSoundAt history k) → IsLegal (empty_version demo_parameters) history
    → ((code : ℕ) → code_of e.request ≡ Some code → e.reply ≡ reply.Refused code) → IsRecorded history e → IsEvaluated demo_parameters (empty_version demo_parameters) history e → IsShort e
unfolding IsShort
short-by history e (reply.Answer place body) is sound legal coded recorded evaluated =
    short-answer history e place body sound legal is (uncoded e place body is coded (code_of e.request) refl) recorded evaluated
short-by history e (reply.Added place) is sound legal coded recorded evaluated = let few = other-size e.reply (ap body_of is) in omega (arith, few)
short-by history e (reply.Replaced place) is sound legal coded recorded evaluated = let few = other-size e.reply (ap body_of is) in omega (arith, few)
short-by history e (reply.Removed place) is sound legal coded recorded evaluated = let few = other-size e.reply (ap body_of is) in omega (arith, few)
short-by history e (reply.Absent place) is sound legal coded recorded evaluated = let few = other-size e.reply (ap body_of is) in omega (arith, few)
short-by history e (reply.Full place planes cells) is sound legal coded recorded evaluated = let few = other-size e.reply (ap body_of is) in omega (arith, few)
short-by history e (reply.Repacked place from before behind) is sound legal coded recorded evaluated = let few = other-size e.reply (ap body_of is) in omega (arith, few)
short-by history e (reply.Moved place from stamp) is sound legal coded recorded evaluated = let few = other-size e.reply (ap body_of is) in omega (arith, few)
short-by history e (reply.Refused code) is sound legal coded recorded evaluated = let few = other-size e.reply (ap body_of is) in omega (arith, few)

-- ---- all of them

each-short : (history : List Entry) (es : List Exchange) → ((k : ℕ) → IsSoundAt history k) → IsLegal (empty_version demo_parameters) history
    → AllByRecursion (λ e. (code : ℕ) → code_of e.request ≡ Some code → e.reply ≡ reply.Refused code) es → AllByRecursion (IsRecorded history) es
    → AllByRecursion (IsEvaluated demo_parameters (empty_version demo_parameters) history) es → AllByRecursion IsShort es
each-short history [] sound legal coded recorded evaluated = tt
each-short history (e ∷ es) sound legal coded recorded evaluated = (short-by history e e.reply refl sound legal coded.0 recorded.0 evaluated.0, each-short history es sound legal coded.1 recorded.1 evaluated.1)

text-size : (ns : List (ℕ × Request)) (sents : List Sent) → length ns ≡ length sents → AllByRecursion IsShort (paired ns sents) → length (text_of sents) ≤ 35 * length ns + 5242874 * count_asks (seconds ns)
unfolding IsShort
text-size [] [] same each = omega arith
text-size [] (s ∷ ss) same each = absurd (omega (arith, same))
text-size (n ∷ ns) [] same each = omega arith
text-size (n ∷ ns) (s ∷ ss) same each =
    let size = length-frame (sent_frame s) in
    let body = ap length (sent-body s) in
    let frame = ap length (sent-bytes s) in
    let whole = length-append (frame_of_reply s.session s.number s.reply) (text_of ss) in
    let more = text-size ns ss (omega (arith, same)) each.1 in
    let counted : count_asks (seconds (n ∷ ns)) ≡ cond (is_ask n.1) 1 0 + count_asks (seconds ns) = sum_by-cons (λ (r : Request). cond (is_ask r) 1 0) n.1 (seconds ns) in
    let times : cond (is_ask n.1) 5242874 0 ≡ 5242874 * cond (is_ask n.1) 1 0 = scaled (is_ask n.1) in
    let one = each.0 in
    omega (arith, size, body, frame, whole, more, counted, times, one)
  where
    scaled : (b : Bool) → cond b 5242874 0 ≡ 5242874 * cond b 1 0
    scaled true = omega arith
    scaled false = omega arith

pub short-texts : ServedTextsAreShort
short-texts history rounds sents sound served =
    let ns = numbered rounds in
    let es = exchanges rounds sents in
    let requests = ap length (seconds-numbered 0 rounds) in
    let replies = ap length served.one_each in
    let size : length ns ≡ length sents =
    omega (arith, requests, replies, length-map ns (λ (n : ℕ × Request). n.1), length-map sents address_of_reply, length-map (requests_of rounds) address_of_request) in
    let each = each-short history es sound served.served.stepped.legal
    (recursion_from_All (λ e. (code : ℕ) → code_of e.request ≡ Some code → e.reply ≡ reply.Refused code) es served.served.coded)
    (recursion_from_All (IsRecorded history) es served.served.history_of.recorded)
    (recursion_from_All (IsEvaluated demo_parameters (empty_version demo_parameters) history) es served.served.evaluated) in
    let total = text-size ns sents size each in
    let number : length ns ≡ length (requests_of rounds) = omega (arith, requests, length-map ns (λ (n : ℕ × Request). n.1)) in
    let asks : count_asks (seconds ns) ≡ count_asks (requests_of rounds) = ap count_asks (seconds-numbered 0 rounds) in
    omega (arith, total, number, asks)
