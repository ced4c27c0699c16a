-- How far bytes are read as replies.
use Rattle.std.proofs.Common.{◌≡◌, inl, inr, ℕ, ◌+◌, ◌≤◌, ◌<◌, Bool, true, List, [], ◌∷◌, ◌++◌, length, slice_index, Option, None, Some, refl, sym, ap, subst, ◌∙◌, arith, append_assoc, append-nil, length-append}
use Rattle.std.specs.List.{All}
use Rattle.std.proofs.lemmas.Bool.{cases_lt}
use Rattle.std.proofs.lemmas.List.{get_or_past, map-append}
use Rattle.std.proofs.lemmas.List.Concat.{flat_map-append}
use Rattle.std.proofs.lemmas.List.Elements.{All-append, All-cons, All-head, All-nil, All-tail, All-weaker}
use Rattle.psi_frames.specs.declared.frame.Frame.{Frame}
use Rattle.psi_frames.specs.declared.reply.Reply.{Reply}
use Rattle.psi_frames.specs.Feeds.{EndsIn, Feeding, HasFed, IsCut, end_fault, table_of}
use Rattle.psi_frames.specs.Frames.{Fault, Short, IsFrame, IsSpellable, answer_fits, frame_bytes, frames_bytes, front_fault, reply_frame_bytes, reply_content, reply_kind, reply_table, spelled}
use Rattle.psi_frames.specs.ReplyFrames.{Tells, is_reply_row, told_reply}
use Rattle.psi_frames.specs.ReplyTexts.{AreReplies, CanBeSent}
use Rattle.psi_frames.specs.Served.{Sent, text_of}
use Rattle.psi_frames.proofs.Bytes.{byte-rest}
use Rattle.psi_frames.proofs.Feeding.{no_fault}
use Rattle.psi_frames.proofs.FrameLaws.{length-frame_append, one_frame}
use Rattle.psi_frames.proofs.Readings.{begins-frame}
use Rattle.psi_frames.proofs.ReplyLaws.{row-tells}
use Rattle.psi_frames.proofs.ReplyTexts.{can-one, can-told, read_back, their_text}
use Rattle.psi_demo.specs.Replies.{AreFit, AreSent, BeginsNoReply, IsTorn, replies_of}
use Rattle.psi_demo.proofs.ReplyFrames.{reply-row, sent-body, sent-bytes, sent-is, sent-kind, sent_frame}
use Rattle.psi_demo.proofs.Tallies.{torn-never}

-- The replies so far, and their bytes; behind them the frames that stand ready in the feed, and what ends these.
pub record IsRead (bytes : List ℕ) (feed : Feeding) (replies : List Reply) (offset : ℕ) : Type 0 where
  pub before : List Sent
  pub can : All CanBeSent before
  pub told : replies ≡ replies_of before
  pub reached : offset ≡ length (text_of before)
  pub tail : List ℕ
  pub whole : bytes ≡ text_of before ++ (frames_bytes feed.ready ++ tail)
  pub each : All (IsFrame reply_table) feed.ready
  pub ended : EndsIn reply_table tail feed.rest feed.fault

-- nothing was read yet
pub read-first : (bytes : List ℕ) (feed : Feeding) → HasFed feed bytes [] → feed.replies ≡ true → IsRead bytes feed [] 0
read-first bytes feed fed replies =
    let cut : IsCut reply_table bytes feed.ready feed.rest feed.fault = subst (λ (b : Bool). IsCut (table_of b) bytes feed.ready feed.rest feed.fault) replies fed in
    record { before = []; can = All-nil CanBeSent; told = refl; reached = refl; tail = cut.tail; whole = cut.whole; each = cut.each; ended = cut.ended }

-- a reply in a frame that tells it
sent_in-bytes : (f : Frame) (r : Reply) → Tells f.kind f.body r → reply_frame_bytes f.session f.number r ≡ frame_bytes f
sent_in-bytes f r tells = λ i. spelled (tells.same_kind i) f.session f.number (tells.same_body i)

text-more : (before : List Sent) (f : Frame) (r : Reply) → Tells f.kind f.body r → text_of (before ++ record { session = f.session; number = f.number; reply = r } ∷ []) ≡ text_of before ++ frame_bytes f
text-more before f r tells =
    flat_map-append (λ (s : Sent). reply_frame_bytes s.session s.number s.reply) before (record { session = f.session; number = f.number; reply = r } ∷ [])
    ∙ ap (λ (t : List ℕ). text_of before ++ t) (append-nil (reply_frame_bytes f.session f.number r) ∙ sent_in-bytes f r tells)

-- one frame more was read
pub read-more : (bytes : List ℕ) (old new : Feeding) (f : Frame) (r : Reply) (replies now : List Reply) (offset size : ℕ) → IsRead bytes old replies offset → old ≡ record new { ready = f ∷ new.ready }
    → Tells f.kind f.body r → now ≡ replies ++ r ∷ [] → size ≡ length (frame_bytes f) → IsRead bytes new now (offset + size)
read-more bytes old new f r replies now offset size was next tells more long =
    let is : IsRead bytes (record new { ready = f ∷ new.ready }) replies offset = subst (λ (g : Feeding). IsRead bytes g replies offset) next was in
    let s : Sent = record { session = f.session; number = f.number; reply = r } in
    let text = text-more is.before f r tells in
    let can_one = can-one f s (All-head (IsFrame reply_table) f new.ready is.each) (record { session = refl; number = refl; reply = tells }) in
    record {
      before = is.before ++ s ∷ [];
      can = All-append CanBeSent is.before (s ∷ []) is.can (All-cons CanBeSent s [] can_one (All-nil CanBeSent));
      told = more ∙ ap (λ (rs : List Reply). rs ++ r ∷ []) is.told ∙ sym (map-append (λ (t : Sent). t.reply) is.before (s ∷ []));
      reached = omega (arith, is.reached, long, ap length text, length-append (text_of is.before) (frame_bytes f));
      tail = is.tail;
      whole =
          is.whole
          ∙ ap (λ (t : List ℕ). text_of is.before ++ t) (append_assoc (frame_bytes f) (frames_bytes new.ready) is.tail)
          ∙ sym (append_assoc (text_of is.before) (frame_bytes f) (frames_bytes new.ready ++ is.tail))
          ∙ ap (λ (t : List ℕ). t ++ (frames_bytes new.ready ++ is.tail)) (sym text);
      each = All-tail (IsFrame reply_table) f new.ready is.each;
      ended = is.ended;
    }

-- so many bytes were read at most
pub read-within : (bytes : List ℕ) (old new : Feeding) (f : Frame) (replies : List Reply) (offset size : ℕ) → IsRead bytes old replies offset → old ≡ record new { ready = f ∷ new.ready } → size ≡ length (frame_bytes f) → offset + size ≤ length bytes
read-within bytes old new f replies offset size was next long =
    let is : IsRead bytes (record new { ready = f ∷ new.ready }) replies offset = subst (λ (g : Feeding). IsRead bytes g replies offset) next was in
    omega (arith, is.reached, long, ap length is.whole, length-append (text_of is.before) (frames_bytes (f ∷ new.ready) ++ is.tail), length-append (frames_bytes (f ∷ new.ready)) is.tail, length-append (frame_bytes f) (frames_bytes new.ready))

-- replies that can be sent fit
fits-all : (ss : List Sent) → All CanBeSent ss → AreFit ss
fits-all ss can = All-weaker CanBeSent (λ (s : Sent). answer_fits s.reply) (λ s h. h.fits) ss can

-- so bytes that are read as replies are those of replies that fit
pub read-sent : (bytes : List ℕ) (sents : List Sent) → AreReplies bytes sents → AreSent bytes sents
read-sent bytes sents are = record { text = their_text bytes sents are; fit = fits-all sents (can-told are.frames sents are.each are.told) }

-- a part that begins no reply is torn
torn : (bytes : List ℕ) (feed : Feeding) (replies : List Reply) (offset : ℕ) (rest : List ℕ) → (is : IsRead bytes feed replies offset) → ((i : ℕ) → slice_index bytes i < 256)
    → frames_bytes feed.ready ++ is.tail ≡ rest → 0 < length rest → BeginsNoReply rest → IsTorn bytes offset
torn bytes feed replies offset rest is each same some none =
    let whole : bytes ≡ text_of is.before ++ rest = is.whole ∙ ap (λ (t : List ℕ). text_of is.before ++ t) same in
    record {
      before = is.before;
      fit = fits-all is.before is.can;
      rest = rest;
      whole = whole;
      reached = is.reached;
      some = some;
      none = none;
      never = torn-never is.before rest bytes each whole (fits-all is.before is.can) some none;
    }

-- a byte of a frame's body, and 0 behind its end
body-bytes : (f : Frame) → IsSpellable f → (i : ℕ) → slice_index f.body i < 256
body-bytes f s i = elim (cases_lt i (length f.body)) [
  | inl lt ↦ s.body i 0 lt
  | inr ge ↦ omega (arith, get_or_past f.body i 0 ge)
]

-- a frame that tells no reply begins none
untold : (f : Frame) (x rest : List ℕ) → IsFrame reply_table f → ((r : Reply) → Tells f.kind f.body r → ⊥) → ((i : ℕ) → slice_index rest i < 256) → rest ≡ frame_bytes f ++ x → BeginsNoReply rest
untold f x rest is none each whole s more fit begins =
    let frame = sent_frame s in
    let spellable = (sent-is s more rest fit begins each).spellable in
    let one = one_frame frame f more x spellable is.spellable (ap (λ (b : List ℕ). b ++ more) (sent-bytes s) ∙ sym begins ∙ whole) in
    let kind : reply_kind s.reply ≡ f.kind = sym (sent-kind s) ∙ ap (λ (g : Frame). g.kind) one.0 in
    let body : reply_content s.reply ≡ f.body = sym (sent-body s) ∙ ap (λ (g : Frame). g.body) one.0 in
    let row = (λ i. is_reply_row (sym kind i) (length (sym body i))) ∙ reply-row s.reply in
    none (told_reply f.kind f.body) (row-tells f.kind f.body row (body-bytes f is.spellable))

pub refused : (bytes : List ℕ) (old new : Feeding) (f : Frame) (replies : List Reply) (offset : ℕ) → IsRead bytes old replies offset → old ≡ record new { ready = f ∷ new.ready } → ((i : ℕ) → slice_index bytes i < 256)
    → ((r : Reply) → Tells f.kind f.body r → ⊥) → IsTorn bytes offset
refused bytes old new f replies offset was next each none =
    let feed : Feeding = record new { ready = f ∷ new.ready } in
    let is : IsRead bytes feed replies offset = subst (λ (g : Feeding). IsRead bytes g replies offset) next was in
    let frame = All-head (IsFrame reply_table) f new.ready is.each in
    let x = frames_bytes new.ready ++ is.tail in
    let rest = frame_bytes f ++ x in
    let same : frames_bytes feed.ready ++ is.tail ≡ rest = append_assoc (frame_bytes f) (frames_bytes new.ready) is.tail in
    let whole : bytes ≡ text_of is.before ++ rest = is.whole ∙ ap (λ (t : List ℕ). text_of is.before ++ t) same in
    let rest_each = byte-rest bytes (text_of is.before) rest whole each in
    torn bytes feed replies offset rest is each same (let size = length-frame_append f x in omega (arith, size)) (untold f x rest frame none rest_each refl)

-- ---- what stands behind the frames

-- a fault begins no reply
faulty : (tail : List ℕ) (fault : Fault) → front_fault reply_table tail ≡ Some fault → ((i : ℕ) → slice_index tail i < 256) → BeginsNoReply tail
faulty tail fault met each s more fit begins =
    let whole = begins-frame reply_table (sent_frame s) more (sent-is s more tail fit begins each) in
    let same : tail ≡ frame_bytes (sent_frame s) ++ more = begins ∙ ap (λ (b : List ℕ). b ++ more) (sym (sent-bytes s)) in
    let none : front_fault reply_table tail ≡ None = ap (front_fault reply_table) same ∙ whole.faultless in
    absurd (cc)

some-faulty : (tail : List ℕ) (fault : Fault) → front_fault reply_table tail ≡ Some fault → 0 < length tail
some-faulty [] fault met = let none = no_fault reply_table in absurd (cc)
some-faulty (b ∷ bs) fault met = omega arith

-- what is told at the end is a fault of what stands behind the frames
end-met : (tail rest : List ℕ) (met : Option Fault) (fault : Fault) → EndsIn reply_table tail rest met → end_fault met rest ≡ Some fault → (told : Fault) × (front_fault reply_table tail ≡ Some told)
end-met tail rest (Some met) fault ends is = (met, ends.0)
end-met tail [] None fault ends is = absurd (cc)
end-met tail (b ∷ bs) None fault (same, inl none) is = absurd (omega (arith, ap length none))
end-met tail (b ∷ bs) None fault (same, inr short) is = (Short, ap (front_fault reply_table) same ∙ short)

end-none : (tail rest : List ℕ) (met : Option Fault) → EndsIn reply_table tail rest met → end_fault met rest ≡ None → tail ≡ []
end-none tail rest (Some met) ends is = absurd (cc)
end-none tail [] None ends is = ends.0
end-none tail (b ∷ bs) None ends is = absurd (cc)

pub read-torn : (bytes : List ℕ) (feed : Feeding) (replies : List Reply) (offset : ℕ) (fault : Fault) → IsRead bytes feed replies offset → feed.ready ≡ [] → end_fault feed.fault feed.rest ≡ Some fault
    → ((i : ℕ) → slice_index bytes i < 256) → IsTorn bytes offset
read-torn bytes feed replies offset fault is ready ends each =
    let met = end-met is.tail feed.rest feed.fault fault is.ended ends in
    let same : frames_bytes feed.ready ++ is.tail ≡ is.tail = ap (λ (fs : List Frame). frames_bytes fs ++ is.tail) ready in
    let whole : bytes ≡ text_of is.before ++ is.tail = is.whole ∙ ap (λ (t : List ℕ). text_of is.before ++ t) same in
    torn bytes feed replies offset is.tail is each same (some-faulty is.tail met.0 met.1) (faulty is.tail met.0 met.1 (byte-rest bytes (text_of is.before) is.tail whole each))

pub read-ended : (bytes : List ℕ) (feed : Feeding) (replies : List Reply) (offset : ℕ) → IsRead bytes feed replies offset → feed.ready ≡ [] → end_fault feed.fault feed.rest ≡ None
    → (sents : List Sent) × AreReplies bytes sents × (replies ≡ replies_of sents)
read-ended bytes feed replies offset is ready ends =
    let none = end-none is.tail feed.rest feed.fault is.ended ends in
    let same : frames_bytes feed.ready ++ is.tail ≡ [] = (λ i. frames_bytes (ready i) ++ none i) in
    let text : bytes ≡ text_of is.before = is.whole ∙ ap (λ (t : List ℕ). text_of is.before ++ t) same ∙ append-nil (text_of is.before) in
    (is.before, subst (λ (b : List ℕ). AreReplies b is.before) (sym text) (read_back is.before is.can), is.told)

-- the same of a feed that was asked once more for a frame, and has none
pub torn-end : (bytes : List ℕ) (feed now : Feeding) (replies : List Reply) (offset : ℕ) → IsRead bytes feed replies offset → feed.ready ≡ [] → now ≡ feed → ((fault : Fault) × (end_fault now.fault now.rest ≡ Some fault))
    → ((i : ℕ) → slice_index bytes i < 256) → IsTorn bytes offset
torn-end bytes feed now replies offset is ready same ends each =
    read-torn bytes feed replies offset ends.0 is ready (subst (λ (f : Feeding). end_fault f.fault f.rest ≡ Some ends.0) same ends.1) each

pub whole-end : (bytes : List ℕ) (feed now : Feeding) (replies : List Reply) (offset : ℕ) → IsRead bytes feed replies offset → feed.ready ≡ [] → now ≡ feed → end_fault now.fault now.rest ≡ None
    → (sents : List Sent) × AreReplies bytes sents × (replies ≡ replies_of sents)
whole-end bytes feed now replies offset is ready same ends = read-ended bytes feed replies offset is ready (subst (λ (f : Feeding). end_fault f.fault f.rest ≡ None) same ends)
