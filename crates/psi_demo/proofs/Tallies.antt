-- The tally of replies is decided by their bytes.
use Rattle.std.proofs.Common.{◌≡◌, ℕ, ◌+◌, ◌<◌, cond, nat_eq, List, [], ◌∷◌, ◌++◌, length, take, drop, slice_index, Option, None, Some, refl, sym, ap, subst, ◌∙◌, arith, append_assoc, length-append, if◌then◌else◌}
use Rattle.std.specs.List.{filter_map}
use Rattle.std.proofs.lemmas.List.Elements.{All-head, All-tail}
use Rattle.std.proofs.lemmas.List.Sums.{sum_by-cons}
use Rattle.psi_frames.specs.declared.reply.Reply.{Reply}
use Rattle.psi_frames.specs.declared.reply.Reply.TheVariants as reply
use Rattle.psi_frames.specs.Frames.{answer_fits, reply_frame_bytes, reply_content, reply_kind}
use Rattle.psi_frames.specs.Served.{Sent, body_of, text_of}
use Rattle.psi_frames.proofs.Bytes.{byte-rest}
use Rattle.psi_frames.proofs.FrameLaws.{length-frame}
use Rattle.psi_demo.specs.Replies.{AreFit, AreSent, BeginsNoReply, replies_of}
use Rattle.psi_demo.specs.Summaries.{ForTally, Tally, count_kind, opened_answers, tally_of}
use Rattle.psi_demo.proofs.ReplyFrames.{AreSame, one-reply, sent-bytes, sent_frame}

-- a body is told by the kind and the content of its reply
told_body : (kind : ℕ) → (content : List ℕ) → Option (List ℕ)
told_body kind content = if nat_eq kind 134 then Some (drop 8 content) else None

body-told : (r : Reply) → body_of r ≡ told_body (reply_kind r) (reply_content r)
unfolding told_body
body-told (reply.Added place) = refl
body-told (reply.Replaced place) = refl
body-told (reply.Removed place) = refl
body-told (reply.Absent place) = refl
body-told (reply.Full place planes cells) = refl
body-told (reply.Answer place body) = refl
body-told (reply.Repacked place from before after) = refl
body-told (reply.Moved place from stamp) = refl
body-told (reply.Refused code) = refl

-- replies that are told in one way, one by one
AreSameAll : List Sent → List Sent → Type 0
AreSameAll [] [] = Unit {0}
AreSameAll [] (t ∷ ts) = ⊥
AreSameAll (s ∷ ss) [] = ⊥
AreSameAll (s ∷ ss) (t ∷ ts) = AreSame s t × AreSameAll ss ts

some-bytes : (s : Sent) (x : List ℕ) → 0 < length (reply_frame_bytes s.session s.number s.reply ++ x)
some-bytes s x =
    let size = length-frame (sent_frame s) in
    let same = ap length (sent-bytes s) in
    omega (arith, size, same, length-append (reply_frame_bytes s.session s.number s.reply) x)

-- a text's first reply, and the rest
first-sent : (s : Sent) (ss : List Sent) (bytes x : List ℕ) → bytes ≡ text_of (s ∷ ss) ++ x → bytes ≡ reply_frame_bytes s.session s.number s.reply ++ (text_of ss ++ x)
first-sent s ss bytes x is = is ∙ append_assoc (reply_frame_bytes s.session s.number s.reply) (text_of ss) x

-- bytes are the text of replies in one way
same-sents : (a b : List Sent) (bytes : List ℕ) → ((i : ℕ) → slice_index bytes i < 256) → bytes ≡ text_of a → bytes ≡ text_of b → AreFit a → AreFit b → AreSameAll a b
unfolding AreSameAll
same-sents [] [] bytes each is_a is_b fit_a fit_b = tt
same-sents [] (t ∷ ts) bytes each is_a is_b fit_a fit_b = let some = some-bytes t (text_of ts) in omega (arith, some, ap length is_a, ap length is_b)
same-sents (s ∷ ss) [] bytes each is_a is_b fit_a fit_b = let some = some-bytes s (text_of ss) in omega (arith, some, ap length is_a, ap length is_b)
same-sents (s ∷ ss) (t ∷ ts) bytes each is_a is_b fit_a fit_b =
    let fits = λ (u : Sent). answer_fits u.reply in
    let one = one-reply s t (text_of ss) (text_of ts) bytes (All-head fits s ss fit_a) (All-head fits t ts fit_b) is_a is_b each in
    (one.0, same-sents ss ts (text_of ss) (byte-rest bytes (reply_frame_bytes s.session s.number s.reply) (text_of ss) is_a each) refl one.1 (All-tail fits s ss fit_a) (All-tail fits t ts fit_b))

same-length : (a b : List Sent) → AreSameAll a b → length (replies_of a) ≡ length (replies_of b)
unfolding AreSameAll
same-length [] [] same = refl
same-length [] (t ∷ ts) same = absurd same
same-length (s ∷ ss) [] same = absurd same
same-length (s ∷ ss) (t ∷ ts) same = let more = same-length ss ts same.1 in omega (arith, more)

same-count : (kind : ℕ) (a b : List Sent) → AreSameAll a b → count_kind kind (replies_of a) ≡ count_kind kind (replies_of b)
unfolding AreSameAll
same-count kind [] [] same = refl
same-count kind [] (t ∷ ts) same = absurd same
same-count kind (s ∷ ss) [] same = absurd same
same-count kind (s ∷ ss) (t ∷ ts) same =
    let one = λ (r : Reply). cond (nat_eq (reply_kind r) kind) 1 0 in
    let more = same-count kind ss ts same.1 in
    sum_by-cons one s.reply (replies_of ss) ∙ (λ i. cond (nat_eq (same.0.kind i) kind) 1 0 + more i) ∙ sym (sum_by-cons one t.reply (replies_of ts))

same-body : (s t : Sent) → AreSame s t → body_of s.reply ≡ body_of t.reply
same-body s t same = body-told s.reply ∙ (λ i. told_body (same.kind i) (same.content i)) ∙ sym (body-told t.reply)

-- the first body in front of others, if there is one
in_front : Option (List ℕ) → List (List ℕ) → List (List ℕ)
in_front None bodies = bodies
in_front (Some body) bodies = body ∷ bodies

filter-one : (r : Reply) (rs : List Reply) → filter_map body_of (r ∷ rs) ≡ in_front (body_of r) (filter_map body_of rs)
unfolding in_front
filter-one (reply.Added place) rs = refl
filter-one (reply.Replaced place) rs = refl
filter-one (reply.Removed place) rs = refl
filter-one (reply.Absent place) rs = refl
filter-one (reply.Full place planes cells) rs = refl
filter-one (reply.Answer place body) rs = refl
filter-one (reply.Repacked place from before after) rs = refl
filter-one (reply.Moved place from stamp) rs = refl
filter-one (reply.Refused code) rs = refl

same-bodies : (a b : List Sent) → AreSameAll a b → filter_map body_of (replies_of a) ≡ filter_map body_of (replies_of b)
unfolding AreSameAll
same-bodies [] [] same = refl
same-bodies [] (t ∷ ts) same = absurd same
same-bodies (s ∷ ss) [] same = absurd same
same-bodies (s ∷ ss) (t ∷ ts) same =
    let more = same-bodies ss ts same.1 in
    filter-one s.reply (replies_of ss) ∙ (λ i. in_front (same-body s t same.0 i) (more i)) ∙ sym (filter-one t.reply (replies_of ts))

same-tally : (a b : List Sent) → AreSameAll a b → tally_of (replies_of a) ≡ tally_of (replies_of b)
same-tally a b same = λ i. record {
  replies = same-length a b same i;
  added = same-count 129 a b same i;
  removed = same-count 131 a b same i;
  asks = same-count 134 a b same i;
  bodies = take opened_answers (same-bodies a b same i);
}

-- what holds of the tally of the replies that were read holds of the tally of the bytes
pub for-tally : (bytes : List ℕ) (P : Tally → Type 0) (sents : List Sent) → ((i : ℕ) → slice_index bytes i < 256) → AreSent bytes sents → P (tally_of (replies_of sents)) → ForTally bytes P
for-tally bytes P sents each sent holds = record {
  sents = sents;
  sent = sent;
  holds = λ others again. subst P (same-tally sents others (same-sents sents others bytes each sent.text again.text sent.fit again.fit)) holds;
}

-- bytes of replies, behind which no reply begins, are no text of replies
torn-never_by : (before sents : List Sent) (rest bytes : List ℕ) → ((i : ℕ) → slice_index bytes i < 256) → bytes ≡ text_of before ++ rest → bytes ≡ text_of sents → AreFit before → AreFit sents → 0 < length rest → BeginsNoReply rest → ⊥
torn-never_by [] [] rest bytes each is whole fit fit_all some none = omega (arith, some, ap length is, ap length whole)
torn-never_by [] (t ∷ ts) rest bytes each is whole fit fit_all some none = none t (text_of ts) (All-head (λ (u : Sent). answer_fits u.reply) t ts fit_all) (sym is ∙ whole)
torn-never_by (s ∷ ss) [] rest bytes each is whole fit fit_all some none =
    let first = some-bytes s (text_of ss ++ rest) in
    omega (arith, first, ap length (first-sent s ss bytes rest is), ap length whole)
torn-never_by (s ∷ ss) (t ∷ ts) rest bytes each is whole fit fit_all some none =
    let fits = λ (u : Sent). answer_fits u.reply in
    let first = first-sent s ss bytes rest is in
    let one = one-reply s t (text_of ss ++ rest) (text_of ts) bytes (All-head fits s ss fit) (All-head fits t ts fit_all) first whole each in
    torn-never_by ss ts rest (text_of ss ++ rest) (byte-rest bytes (reply_frame_bytes s.session s.number s.reply) (text_of ss ++ rest) first each) refl one.1 (All-tail fits s ss fit) (All-tail fits t ts fit_all) some none

pub torn-never : (before : List Sent) (rest bytes : List ℕ) → ((i : ℕ) → slice_index bytes i < 256) → bytes ≡ text_of before ++ rest → AreFit before → 0 < length rest → BeginsNoReply rest → (sents : List Sent) → AreSent bytes sents → ⊥
torn-never before rest bytes each is fit some none sents sent = torn-never_by before sents rest bytes each is sent.text fit sent.fit some none
