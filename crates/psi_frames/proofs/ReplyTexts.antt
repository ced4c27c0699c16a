-- Texts of replies: read in one way, and read back.
use Rattle.std.proofs.Common.{◌≡◌, ℕ, ◌+◌, ◌≤◌, ◌<◌, ◌^◌, true, nat_le, List, [], ◌∷◌, ◌++◌, length, map, None, refl, sym, subst, ◌∙◌, arith, append-nil, length-append}
use Rattle.std.specs.List.{All, AllZip}
use Rattle.std.proofs.lemmas.Bool.{and_parts, leb-true}
use Rattle.std.proofs.lemmas.List.Elements.{All-cons, All-head, All-nil, All-tail}
use Rattle.byteorder.specs.Endian.{big_bytes}
use Rattle.psi_frames.specs.declared.frame.Frame.{Frame}
use Rattle.psi_frames.specs.declared.reply.Reply.{Reply}
use Rattle.psi_frames.specs.declared.reply.Reply.TheVariants as reply
use Rattle.psi_frames.specs.Frames.{IsFrame, added_kind, frames_bytes, greatest_length, head_bytes, is_kind_between, refused_kind, reply_content, reply_kind, reply_table, spelled}
use Rattle.psi_frames.specs.ReplyTexts.{CanBeSent, RepliesAreOne, RepliesAreTheirText, TellsSent, TextsAreReadBack}
use Rattle.psi_frames.specs.Served.{Sent, text_of}
use Rattle.psi_frames.proofs.Feeding.{no_fault}
use Rattle.psi_frames.proofs.OneFrames.{stuck}
use Rattle.psi_frames.proofs.Readings.{one-cut}
use Rattle.psi_frames.proofs.ReplyLaws.{tells-again}

-- ---- read in one way

told-once : (fs : List Frame) (ss ts : List Sent) → AllZip TellsSent fs ss → AllZip TellsSent fs ts → ss ≡ ts
told-once [] [] [] a b = refl
told-once [] [] (t ∷ ts) a b = absurd b
told-once [] (s ∷ ss) ts a b = absurd a
told-once (f ∷ fs) [] ts a b = absurd a
told-once (f ∷ fs) (s ∷ ss) [] a b = absurd b
told-once (f ∷ fs) (s ∷ ss) (t ∷ ts) a b =
    let session : s.session ≡ t.session = sym a.0.session ∙ b.0.session in
    let number : s.number ≡ t.number = sym a.0.number ∙ b.0.number in
    let told : s.reply ≡ t.reply = sym (tells-again f.kind f.body s.reply a.0.reply) ∙ tells-again f.kind f.body t.reply b.0.reply in
    let rest = told-once fs ss ts a.1 b.1 in
    λ i. record { session = session i; number = number i; reply = told i } ∷ rest i

pub one_way : RepliesAreOne
one_way bytes ss ts a b =
    let none = stuck reply_table [] None (no_fault reply_table) (λ _. refl) in
    let same = append-nil (frames_bytes a.frames) ∙ sym a.whole ∙ b.whole ∙ sym (append-nil (frames_bytes b.frames)) in
    let one = one-cut reply_table a.frames b.frames [] [] a.each b.each none none same in
    told-once b.frames ss ts (subst (λ (fs : List Frame). AllZip TellsSent fs ss) one.0 a.told) b.told

-- ---- their text

told-text : (fs : List Frame) (ss : List Sent) → AllZip TellsSent fs ss → frames_bytes fs ≡ text_of ss
told-text [] [] a = refl
told-text [] (s ∷ ss) a = absurd a
told-text (f ∷ fs) [] a = absurd a
told-text (f ∷ fs) (s ∷ ss) a =
    let t = a.0.reply in
    λ i. spelled (sym t.same_kind i) (a.0.session i) (a.0.number i) (sym t.same_body i) ++ told-text fs ss a.1 i

pub their_text : RepliesAreTheirText
their_text bytes ss a = a.whole ∙ told-text a.frames ss a.told

-- ---- read back

-- a reply that a frame tells can be sent
pub can-one : (f : Frame) (s : Sent) → IsFrame reply_table f → TellsSent f s → CanBeSent s
can-one f s is tells = record {
  session = subst (λ (n : ℕ). n < 2 ^ 16) tells.session is.spellable.session;
  number = subst (λ (n : ℕ). n < 2 ^ 32) tells.number is.spellable.number;
  range = tells.reply.range;
  content = subst (All (λ (b : ℕ). b < 2 ^ 8)) (sym tells.reply.same_body) is.spellable.body;
  fits = subst (λ (b : List ℕ). head_bytes + length b ≤ greatest_length) (sym tells.reply.same_body) is.spellable.length;
}

pub can-told : (fs : List Frame) (ss : List Sent) → All (IsFrame reply_table) fs → AllZip TellsSent fs ss → All CanBeSent ss
can-told [] [] each a = All-nil CanBeSent
can-told [] (s ∷ ss) each a = absurd a
can-told (f ∷ fs) [] each a = absurd a
can-told (f ∷ fs) (s ∷ ss) each a =
    All-cons CanBeSent s ss (can-one f s (All-head (IsFrame reply_table) f fs each) a.0) (can-told fs ss (All-tail (IsFrame reply_table) f fs each) a.1)

-- the kind of a reply, and that its body has some bytes
pub kind-between : (r : Reply) → is_kind_between added_kind refused_kind (reply_kind r) ≡ true
kind-between (reply.Added place) = refl
kind-between (reply.Replaced place) = refl
kind-between (reply.Removed place) = refl
kind-between (reply.Absent place) = refl
kind-between (reply.Full place planes cells) = refl
kind-between (reply.Answer place body) = refl
kind-between (reply.Repacked place from before after) = refl
kind-between (reply.Moved place from stamp) = refl
kind-between (reply.Refused code) = refl

pub some-content : (r : Reply) → 1 ≤ length (reply_content r)
some-content (reply.Added place) = omega arith
some-content (reply.Replaced place) = omega arith
some-content (reply.Removed place) = omega arith
some-content (reply.Absent place) = omega arith
some-content (reply.Full place planes cells) = omega arith
some-content (reply.Answer place body) = omega (arith, length-append (big_bytes 8 place) body)
some-content (reply.Repacked place from before after) = omega arith
some-content (reply.Moved place from stamp) = omega arith
some-content (reply.Refused code) = omega arith

-- the frame of a reply
abbrev frame_of : Sent → Frame
frame_of s = record { kind = reply_kind s.reply; session = s.session; number = s.number; body = reply_content s.reply }

frame-is : (s : Sent) → CanBeSent s → IsFrame reply_table (frame_of s)
frame-is s can =
    let between = and_parts (nat_le added_kind (reply_kind s.reply)) (nat_le (reply_kind s.reply) refused_kind) (kind-between s.reply) in
    let low = leb-true added_kind (reply_kind s.reply) between.0 in
    let high = leb-true (reply_kind s.reply) refused_kind between.1 in
    record {
      spellable = record { kind = omega (arith, high); session = can.session; number = can.number; body = can.content; length = can.fits };
      least = let some = some-content s.reply in omega (arith, some);
      kind = kind-between s.reply;
      go = λ is_go. absurd (omega (arith, low, is_go));
    }

frames-are : (ss : List Sent) → All CanBeSent ss → All (IsFrame reply_table) (map frame_of ss)
frames-are [] can = All-nil (IsFrame reply_table)
frames-are (s ∷ ss) can = All-cons (IsFrame reply_table) (frame_of s) (map frame_of ss) (frame-is s (All-head CanBeSent s ss can)) (frames-are ss (All-tail CanBeSent s ss can))

frames-tell : (ss : List Sent) → All CanBeSent ss → AllZip TellsSent (map frame_of ss) ss
frames-tell [] can = tt
frames-tell (s ∷ ss) can = (
  record { session = refl; number = refl; reply = record { same_kind = refl; same_body = refl; range = (All-head CanBeSent s ss can).range } },
  frames-tell ss (All-tail CanBeSent s ss can),
)

pub read_back : TextsAreReadBack
read_back ss can = record {
  frames = map frame_of ss;
  whole = sym (told-text (map frame_of ss) ss (frames-tell ss can));
  each = frames-are ss can;
  told = frames-tell ss can;
}
