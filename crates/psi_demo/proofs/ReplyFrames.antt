-- Replies as they are sent, as frames of the table of replies; so bytes are read as replies in one way.
use Rattle.std.proofs.Common.{◌≡◌, ℕ, ◌+◌, ◌/◌, ◌%◌, ◌^◌, ◌<◌, true, nat_le, List, [], ◌∷◌, ◌++◌, length, slice_index, refl, sym, ap, ◌∙◌, arith, length-append}
use Rattle.std.proofs.lemmas.Bool.{and_parts, le-leb, leb-true}
use Rattle.std.proofs.lemmas.List.Elements.{All-from_get_or}
use Rattle.byteorder.specs.Endian.{big_bytes}
use Rattle.psi_frames.specs.declared.frame.Frame.{Frame}
use Rattle.psi_frames.specs.declared.reply.Reply.{Reply}
use Rattle.psi_frames.specs.declared.reply.Reply.TheVariants as reply
use Rattle.psi_frames.specs.Frames.{IsFrame, added_kind, answer_fits, frame_bytes, head_bytes, refused_kind, reply_frame_bytes, reply_content, reply_kind, reply_table, spelled}
use Rattle.psi_frames.specs.ReplyFrames.{is_reply_row}
use Rattle.psi_frames.specs.Served.{Sent}
use Rattle.psi_frames.proofs.Bytes.{byte-front, byte-rest}
use Rattle.psi_frames.proofs.FrameLaws.{one_frame}
use Rattle.psi_frames.proofs.ReplyTexts.{kind-between, some-content}

-- the kind of a reply and the length of its body are a row of the table
pub reply-row : (r : Reply) → is_reply_row (reply_kind r) (length (reply_content r)) ≡ true
reply-row (reply.Added place) = refl
reply-row (reply.Replaced place) = refl
reply-row (reply.Removed place) = refl
reply-row (reply.Absent place) = refl
reply-row (reply.Full place planes cells) = refl
reply-row (reply.Answer place body) = le-leb 8 (length (big_bytes 8 place ++ body)) (omega (arith, length-append (big_bytes 8 place) body))
reply-row (reply.Repacked place from before after) = refl
reply-row (reply.Moved place from stamp) = refl
reply-row (reply.Refused code) = refl

-- the bytes of a number are those of its low part
low-2 : (n : ℕ) → big_bytes 2 (n % 65536) ≡ big_bytes 2 n
low-2 n =
    let high : n % 65536 / 256 % 256 ≡ n / 256 % 256 = omega arith in
    let low : n % 65536 % 256 ≡ n % 256 = omega arith in
    λ i. high i ∷ low i ∷ []

low-4 : (n : ℕ) → big_bytes 4 (n % 4294967296) ≡ big_bytes 4 n
low-4 n =
    let a : n % 4294967296 / 16777216 % 256 ≡ n / 16777216 % 256 = omega arith in
    let b : n % 4294967296 / 65536 % 256 ≡ n / 65536 % 256 = omega arith in
    let c : n % 4294967296 / 256 % 256 ≡ n / 256 % 256 = omega arith in
    let d : n % 4294967296 % 256 ≡ n % 256 = omega arith in
    λ i. a i ∷ b i ∷ c i ∷ d i ∷ []

-- the frame of a reply as it is sent: numbers that are too great for their fields lose what does not fit
pub sent_frame : Sent → Frame
sent_frame s = record { kind = reply_kind s.reply; session = s.session % 65536; number = s.number % 4294967296; body = reply_content s.reply }

pub sent-bytes : (s : Sent) → frame_bytes (sent_frame s) ≡ reply_frame_bytes s.session s.number s.reply
unfolding sent_frame spelled
sent-bytes s =
    let word = big_bytes 4 (head_bytes + length (reply_content s.reply)) ++ big_bytes 1 (reply_kind s.reply) in
    (λ i. word ++ low-2 s.session i ++ low-4 s.number i ++ reply_content s.reply)

pub sent-kind : (s : Sent) → (sent_frame s).kind ≡ reply_kind s.reply
unfolding sent_frame
sent-kind s = refl

pub sent-body : (s : Sent) → (sent_frame s).body ≡ reply_content s.reply
unfolding sent_frame
sent-body s = refl

-- the body of a reply that begins bytes is bytes
content-bytes : (s : Sent) (more bytes : List ℕ) → bytes ≡ reply_frame_bytes s.session s.number s.reply ++ more → ((i : ℕ) → slice_index bytes i < 256) → (i : ℕ) → slice_index (reply_content s.reply) i < 256
unfolding spelled
content-bytes s more bytes is each =
    let whole = reply_frame_bytes s.session s.number s.reply in
    let head = big_bytes 4 (head_bytes + length (reply_content s.reply)) ++ big_bytes 1 (reply_kind s.reply) ++ big_bytes 2 s.session ++ big_bytes 4 s.number in
    byte-rest whole head (reply_content s.reply) refl (byte-front bytes whole more is each)

-- it is one of the table
pub sent-is : (s : Sent) (more bytes : List ℕ) → answer_fits s.reply → bytes ≡ reply_frame_bytes s.session s.number s.reply ++ more → ((i : ℕ) → slice_index bytes i < 256) → IsFrame reply_table (sent_frame s)
unfolding sent_frame
sent-is s more bytes fits is each =
    let between = and_parts (nat_le added_kind (reply_kind s.reply)) (nat_le (reply_kind s.reply) refused_kind) (kind-between s.reply) in
    let low = leb-true added_kind (reply_kind s.reply) between.0 in
    let high = leb-true (reply_kind s.reply) refused_kind between.1 in
    record {
      spellable = record {
        kind = omega (arith, high);
        session = omega arith;
        number = omega arith;
        body = All-from_get_or (λ (b : ℕ). b < 2 ^ 8) (reply_content s.reply) 0 (λ i _. content-bytes s more bytes is each i);
        length = fits;
      };
      least = let some = some-content s.reply in omega (arith, some);
      kind = kind-between s.reply;
      go = λ is_go. absurd (omega (arith, low, is_go));
    }

-- what a reply tells of its frame
pub record AreSame (s t : Sent) : Type 0 where
  pub kind : reply_kind s.reply ≡ reply_kind t.reply
  pub content : reply_content s.reply ≡ reply_content t.reply

-- two replies that begin the same bytes are told in one way, and the same stands behind them
pub one-reply : (s t : Sent) (x y bytes : List ℕ) → answer_fits s.reply → answer_fits t.reply → bytes ≡ reply_frame_bytes s.session s.number s.reply ++ x → bytes ≡ reply_frame_bytes t.session t.number t.reply ++ y
    → ((i : ℕ) → slice_index bytes i < 256) → AreSame s t × (x ≡ y)
one-reply s t x y bytes fits_s fits_t is_s is_t each =
    let whole : frame_bytes (sent_frame s) ++ x ≡ frame_bytes (sent_frame t) ++ y = ap (λ (b : List ℕ). b ++ x) (sent-bytes s) ∙ sym is_s ∙ is_t ∙ ap (λ (b : List ℕ). b ++ y) (sym (sent-bytes t)) in
    let one = one_frame (sent_frame s) (sent_frame t) x y (sent-is s x bytes fits_s is_s each).spellable (sent-is t y bytes fits_t is_t each).spellable whole in (
      record {
        kind = sym (sent-kind s) ∙ ap (λ (f : Frame). f.kind) one.0 ∙ sent-kind t;
        content = sym (sent-body s) ∙ ap (λ (f : Frame). f.body) one.0 ∙ sent-body t;
      },
      one.1,
    )
