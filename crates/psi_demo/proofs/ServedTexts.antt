-- Texts that serve rounds have a summary.
use Rattle.std.proofs.Common.{◌≡◌, ℕ, List, [], ◌∷◌, length, None, Some, refl, sym, ap, subst, ◌∙◌, arith, length-append}
use Rattle.std.specs.List.{All, AllByRecursion, filter_map}
use Rattle.std.specs.Option.{option_or}
use Rattle.std.proofs.lemmas.List.{length-map}
use Rattle.std.proofs.lemmas.List.Elements.{All-cons, All-from_recursion, All-head, All-nil, All-tail, All-take, recursion_from_All}
use Rattle.psi_residue.specs.Parameters.{Parameters}
use Rattle.psi_bundle.specs.declared.history.Entry.{Entry}
use Rattle.psi_bundle.specs.Bodies.{bundle_counts, evaluated_rows}
use Rattle.psi_bundle.specs.Histories.{version_at}
use Rattle.psi_bundle.specs.Versions.{IsSound, IsWithinLimits, Row, Version, empty_version}
use Rattle.query_codec.specs.Replies.{IsReply, reply_body}
use Rattle.query_codec.proofs.ReplyBodies.{IsReply-written, no_fault-IsReply}
use Rattle.psi_frames.specs.declared.reply.Reply.{Reply}
use Rattle.psi_frames.specs.declared.reply.Reply.TheVariants as reply
use Rattle.psi_frames.specs.declared.request.Request.{Request}
use Rattle.psi_frames.specs.Frames.{answer_fits, reply_frame_bytes}
use Rattle.psi_frames.specs.Requests.{asked_ciphertexts}
use Rattle.psi_frames.specs.Served.{Exchange, IsEvaluated, Sent, address_of_reply, address_of_request, body_of, exchanges, numbered, place_of, requests_of, text_of}
use Rattle.psi_frames.proofs.FrameLaws.{length-frame}
use Rattle.psi_frames.proofs.Following.{seconds-numbered}
use Rattle.psi_frames.proofs.Lanes.{paired}
use Rattle.psi_receiver.proofs.Replies.{all-evaluated, length-evaluated}
use Rattle.psi_receiver.proofs.Joined.{small-counts}
use Rattle.psi_demo.specs.declared.fault.SumFault.TheVariants as sum
use Rattle.psi_demo.specs.Items.{demo_parameters}
use Rattle.psi_demo.specs.Laws.{HasReplyBody, IsSoundAt, RepliesAreCounted, ServedBodiesAreReplies, ShortTextsFit}
use Rattle.psi_demo.specs.Replies.{replies_of}
use Rattle.psi_demo.specs.Summaries.{bodies_of, first_fault}
use Rattle.psi_demo.proofs.ReplyFrames.{sent-body, sent-bytes, sent_frame}

-- ---- short texts

pub short-fit : ShortTextsFit
short-fit [] short = All-nil (λ (s : Sent). answer_fits s.reply)
short-fit (s ∷ ss) short =
    let size = length-frame (sent_frame s) in
    let body = ap length (sent-body s) in
    let same = ap length (sent-bytes s) in
    let whole = length-append (reply_frame_bytes s.session s.number s.reply) (text_of ss) in
    All-cons (λ (t : Sent). answer_fits t.reply) s ss (omega (arith, short, size, body, same, whole)) (short-fit ss (omega (arith, short, whole)))

-- ---- what a sound set answers

-- what such a set answers is a reply body
pub is-reply : (v : Version) (query : List (List (List ℕ))) → v.parameters ≡ demo_parameters → IsSound v → IsReply demo_parameters (reply_body demo_parameters v.rows query)
unfolding reply_body
is-reply v query same sound =
    let p = demo_parameters in
    let limits : IsWithinLimits p v.rows = subst (λ (q : Parameters). IsWithinLimits q v.rows) same sound.limits in
    IsReply-written p (bundle_counts v.rows) (evaluated_rows p v.rows query)
    (length-map v.rows (λ (row : Row). length row) ∙ sound.each_row ∙ ap (λ (q : Parameters). q.rows) same)
    (λ i. small-counts p v.rows i limits)
    (length-evaluated p v.rows query) (all-evaluated p v.rows query)

-- a reply with a body has a place
body-placed : (r : Reply) (body : List ℕ) → body_of r ≡ Some body → (place : ℕ) × (place_of r ≡ Some place)
body-placed (reply.Added place) body tells = (place, refl)
body-placed (reply.Replaced place) body tells = (place, refl)
body-placed (reply.Removed place) body tells = (place, refl)
body-placed (reply.Absent place) body tells = (place, refl)
body-placed (reply.Full place planes cells) body tells = (place, refl)
body-placed (reply.Answer place told) body tells = (place, refl)
body-placed (reply.Repacked place from before after) body tells = (place, refl)
body-placed (reply.Moved place from stamp) body tells = (place, refl)
body-placed (reply.Refused code) body tells = absurd (cc)

evaluated-body : (history : List Entry) (e : Exchange) → ((place : ℕ) → IsSoundAt history place) → IsEvaluated demo_parameters (empty_version demo_parameters) history e
    → (body : List ℕ) → body_of e.reply ≡ Some body → IsReply demo_parameters body
evaluated-body history e sound evaluated body tells =
    let place = body-placed e.reply body tells in
    let v = version_at (empty_version demo_parameters) history place.0 in
    let set = sound place.0 in
    subst (IsReply demo_parameters) (sym (evaluated place.0 body place.1 tells)) (is-reply v (asked_ciphertexts e.request) set.parameters set.sound)

-- replies to requests, one by one
bodies-each : (history : List Entry) (ns : List (ℕ × Request)) (sents : List Sent) → length ns ≡ length sents → ((place : ℕ) → IsSoundAt history place)
    → AllByRecursion (IsEvaluated demo_parameters (empty_version demo_parameters) history) (paired ns sents) → AllByRecursion HasReplyBody sents
bodies-each history ns [] size sound each = tt
bodies-each history [] (s ∷ ss) size sound each = absurd (omega (arith, size))
bodies-each history (n ∷ ns) (s ∷ ss) size sound each =
    let e : Exchange = record { round = n.0; request = n.1; reply = s.reply } in
    ((λ body tells. evaluated-body history e sound each.0 body tells), bodies-each history ns ss (omega (arith, size)) sound each.1)

pub served-bodies : ServedBodiesAreReplies
served-bodies history rounds sents sound served =
    let ns = numbered rounds in
    let requests = ap length (seconds-numbered 0 rounds) in
    let replies = ap length served.one_each in
    let size : length ns ≡ length sents =
    omega (arith, requests, replies, length-map ns (λ (n : ℕ × Request). n.1), length-map sents address_of_reply, length-map (requests_of rounds) address_of_request) in
    All-from_recursion HasReplyBody sents
    (bodies-each history ns sents size sound (recursion_from_All (IsEvaluated demo_parameters (empty_version demo_parameters) history) (exchanges rounds sents) served.served.evaluated))

-- ---- replies that are counted

-- the bodies of such replies have no fault
good-first : (r : Reply) (rs : List Reply) → ((body : List ℕ) → body_of r ≡ Some body → IsReply demo_parameters body) → All (IsReply demo_parameters) (filter_map body_of rs) → All (IsReply demo_parameters) (filter_map body_of (r ∷ rs))
good-first (reply.Added place) rs own rest = rest
good-first (reply.Replaced place) rs own rest = rest
good-first (reply.Removed place) rs own rest = rest
good-first (reply.Absent place) rs own rest = rest
good-first (reply.Full place planes cells) rs own rest = rest
good-first (reply.Answer place body) rs own rest = All-cons (IsReply demo_parameters) body (filter_map body_of rs) (own body refl) rest
good-first (reply.Repacked place from before after) rs own rest = rest
good-first (reply.Moved place from stamp) rs own rest = rest
good-first (reply.Refused code) rs own rest = rest

good-bodies : (sents : List Sent) → All HasReplyBody sents → All (IsReply demo_parameters) (filter_map body_of (replies_of sents))
good-bodies [] each = All-nil (IsReply demo_parameters)
good-bodies (s ∷ ss) each = good-first s.reply (replies_of ss) (All-head HasReplyBody s ss each) (good-bodies ss (All-tail HasReplyBody s ss each))

good-faultless : (bodies : List (List ℕ)) → All (IsReply demo_parameters) bodies → first_fault bodies ≡ None
unfolding first_fault
good-faultless [] each = refl
good-faultless (body ∷ bodies) each =
    (λ i. option_or (no_fault-IsReply demo_parameters body (All-head (IsReply demo_parameters) body bodies each) i) (first_fault bodies))
    ∙ good-faultless bodies (All-tail (IsReply demo_parameters) body bodies each)

pub counted : RepliesAreCounted
counted number bytes sents (sum.Torn offset) sent each why = absurd (why.never sents sent)
counted number bytes sents (sum.Codec fault) sent each why =
    let refused = why.holds sents sent in
    let none : first_fault (bodies_of (replies_of sents)) ≡ None = good-faultless (bodies_of (replies_of sents)) (All-take (IsReply demo_parameters) 3 (filter_map body_of (replies_of sents)) (good-bodies sents each)) in
    let some = refused.first in
    absurd (cc)
counted number bytes sents sum.NoMemory sent each why = refl
