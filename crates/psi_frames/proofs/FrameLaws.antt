-- Laws of frames as bytes: reading a frame undoes writing it, so no bytes are two lists of frames.
use Rattle.std.proofs.Common.{◌≡◌, ℕ, ◌+◌, ◌%◌, ◌^◌, ◌<◌, ◌≤◌, List, [], ◌∷◌, ◌++◌, length, take, drop, slice_index, refl, sym, ap, ◌∙◌, arith, append_assoc, length-append, length-drop}
use Rattle.std.proofs.Math.Nat.{mod-eq_of_lt}
use Rattle.std.proofs.Math.Seq.{drop-append_seam, take-append_seam}
use Rattle.std.proofs.lemmas.List.{take-append-drop, drop-drop, length-take-le, get_or-drop}
use Rattle.std.proofs.lemmas.List.Elements.{All-head, All-tail, All-take, All-drop, All-from_get_or}
use Rattle.std.specs.List.{All}
use Rattle.byteorder.specs.Endian.{big_number, big_bytes}
use Rattle.byteorder.specs.Numbers.{big_from-lt, big_number-reads_back}
use Rattle.item_slots.proofs.BigBytes.{big_bytes-big_number, bytes_from, written_again}
use Rattle.psi_frames.specs.declared.frame.Frame.{Frame}
use Rattle.psi_frames.specs.Frames.{spelled, frame_bytes, frames_bytes, IsSpellable, head_bytes, greatest_length}
use Rattle.psi_frames.specs.FrontFrames.{body_length, front_frame, behind_front}

-- a frame's length word is read back
pub big_number-frame : (f : Frame) (x : List ℕ) → IsSpellable f → big_number 4 (frame_bytes f ++ x) ≡ head_bytes + length f.body
unfolding spelled
big_number-frame f x s =
    let bound : head_bytes + length f.body < 256 ^ 4 = omega (arith, s.length) in
    big_number-reads_back 4 (head_bytes + length f.body) (big_bytes 1 f.kind ++ big_bytes 2 f.session ++ big_bytes 4 f.number ++ f.body ++ x) bound

-- and what it says of the body
pub body_length-frame : (f : Frame) (x : List ℕ) → IsSpellable f → body_length (frame_bytes f ++ x) ≡ length f.body
body_length-frame f x s =
    let word = big_number-frame f x s in
    omega (arith, word)

-- a frame is read back
pub front_frame-frame : (f : Frame) (x : List ℕ) → IsSpellable f → front_frame (frame_bytes f ++ x) ≡ f
unfolding front_frame spelled
front_frame-frame f x s =
    let kind : f.kind % 256 ≡ f.kind = mod-eq_of_lt s.kind in
    let session : big_number 2 (drop 5 (frame_bytes f ++ x)) ≡ f.session = big_number-reads_back 2 f.session (big_bytes 4 f.number ++ f.body ++ x) s.session in
    let number : big_number 4 (drop 7 (frame_bytes f ++ x)) ≡ f.number = big_number-reads_back 4 f.number (f.body ++ x) s.number in
    let body : take (body_length (frame_bytes f ++ x)) (f.body ++ x) ≡ f.body = ap (λ (n : ℕ). take n (f.body ++ x)) (body_length-frame f x s) ∙ take-append_seam f.body x in
    λ i. record { kind = kind i; session = session i; number = number i; body = body i }

-- what stands behind a frame is read back
pub behind_front-frame : (f : Frame) (x : List ℕ) → IsSpellable f → behind_front (frame_bytes f ++ x) ≡ x
unfolding behind_front spelled
behind_front-frame f x s = ap (λ (n : ℕ). drop n (f.body ++ x)) (body_length-frame f x s) ∙ drop-append_seam f.body x

-- two frames that begin the same bytes are one, and the same stands behind them
pub one_frame : (f g : Frame) (x y : List ℕ) → IsSpellable f → IsSpellable g → frame_bytes f ++ x ≡ frame_bytes g ++ y → (f ≡ g) × (x ≡ y)
one_frame f g x y s t e = (
  sym (front_frame-frame f x s) ∙ ap front_frame e ∙ front_frame-frame g y t,
  sym (behind_front-frame f x s) ∙ ap behind_front e ∙ behind_front-frame g y t,
)

-- a frame has eleven bytes and its body
pub length-frame : (f : Frame) → length (frame_bytes f) ≡ 11 + length f.body
unfolding spelled
length-frame f = omega arith

-- the bytes of a frame and of what stands behind it: at least eleven, and as many as the length word says
pub length-frame_append : (f : Frame) (x : List ℕ) → length (frame_bytes f ++ x) ≡ 11 + length f.body + length x
length-frame_append f x = omega (arith, length-append (frame_bytes f) x, length-frame f)

-- n elements from place i, and what stands behind them
cut_at : (i n : ℕ) (xs : List ℕ) → take n (drop i xs) ++ drop (i + n) xs ≡ drop i xs
cut_at i n xs = ap (λ (ys : List ℕ). take n (drop i xs) ++ ys) (sym (drop-drop n i xs)) ∙ take-append-drop n (drop i xs)

-- the parts of a frame, put together again
joined : (bytes : List ℕ) (m : ℕ)
    → (take 4 bytes ++ take 1 (drop 4 bytes) ++ take 2 (drop 5 bytes) ++ take 4 (drop 7 bytes) ++ take m (drop 11 bytes)) ++ drop m (drop 11 bytes) ≡ bytes
joined bytes m =
    let length_word = take-append-drop 4 bytes in
    let kind = cut_at 4 1 bytes in
    let session = cut_at 5 2 bytes in
    let number = cut_at 7 4 bytes in
    let body = take-append-drop m (drop 11 bytes) in
    simp append_assoc (rw (body, number, session, kind, length_word) refl)

-- bytes that reach as far as their length word says are a frame and what stands behind it
pub frame-front_frame : (bytes : List ℕ) → 11 ≤ length bytes → head_bytes ≤ big_number 4 bytes → 4 + big_number 4 bytes ≤ length bytes → ((i : ℕ) → slice_index bytes i < 256)
    → bytes ≡ frame_bytes (front_frame bytes) ++ behind_front bytes
unfolding front_frame behind_front spelled
frame-front_frame bytes head least whole each =
    let m = body_length bytes in
    let body = take m (drop 11 bytes) in
    let size : length body ≡ m = length-take-le m (drop 11 bytes) (omega (arith, length-drop 11 bytes)) in
    let word : head_bytes + length body ≡ big_number 4 bytes = omega arith in
    let length_word : big_bytes 4 (head_bytes + length body) ≡ take 4 bytes = ap (big_bytes 4) word ∙ big_bytes-big_number 4 bytes (omega arith) each in
    let first : slice_index bytes 4 ≡ big_number 1 (drop 4 bytes) = omega (arith, get_or-drop 4 bytes 0 0) in
    let kind : big_bytes 1 (slice_index bytes 4) ≡ take 1 (drop 4 bytes) = ap (big_bytes 1) first ∙ written_again 4 1 bytes (omega arith) each in
    let session = written_again 5 2 bytes (omega arith) each in
    let number = written_again 7 4 bytes (omega arith) each in
    sym ((λ i. (length_word i ++ kind i ++ session i ++ number i ++ body) ++ drop m (drop 11 bytes)) ∙ joined bytes m)

-- that frame has fields in their ranges, where its length word is one
pub IsSpellable-front_frame : (bytes : List ℕ) → head_bytes ≤ big_number 4 bytes → big_number 4 bytes ≤ greatest_length → 4 + big_number 4 bytes ≤ length bytes → ((i : ℕ) → slice_index bytes i < 256)
    → IsSpellable (front_frame bytes)
unfolding front_frame
IsSpellable-front_frame bytes least most whole each =
    let m = body_length bytes in
    let size : length (take m (drop 11 bytes)) ≡ m = length-take-le m (drop 11 bytes) (omega (arith, length-drop 11 bytes)) in
    record {
      kind = each 4;
      session = big_from-lt 0 2 (drop 5 bytes) (bytes_from 5 bytes each);
      number = big_from-lt 0 4 (drop 7 bytes) (bytes_from 7 bytes each);
      body = All-take (λ (b : ℕ). b < 2 ^ 8) m (drop 11 bytes) (All-drop (λ (b : ℕ). b < 2 ^ 8) 11 bytes (All-from_get_or (λ (b : ℕ). b < 2 ^ 8) bytes 0 (λ i _. each i)));
      length = omega arith;
    }

-- Where the text of some frames is the front of the text of others, they are the first of these, and the rest is the text of the others of these.
pub same_front : (vs fs : List Frame) (rest : List ℕ) → All IsSpellable vs → All IsSpellable fs → frames_bytes vs ++ rest ≡ frames_bytes fs
    → (gs : List Frame) × (fs ≡ vs ++ gs) × (rest ≡ frames_bytes gs)
same_front [] fs rest each_v each_f e = (fs, refl, e)
same_front (v ∷ vs) [] rest each_v each_f e =
    absurd (omega (arith, ap length e, length-append (frames_bytes (v ∷ vs)) rest, length-frame_append v (frames_bytes vs)))
same_front (v ∷ vs) (f ∷ fs) rest each_v each_f e =
    let whole : frame_bytes v ++ (frames_bytes vs ++ rest) ≡ frame_bytes f ++ frames_bytes fs = sym (append_assoc (frame_bytes v) (frames_bytes vs) rest) ∙ e in
    let one = one_frame v f (frames_bytes vs ++ rest) (frames_bytes fs) (All-head IsSpellable v vs each_v) (All-head IsSpellable f fs each_f) whole in
    let more = same_front vs fs rest (All-tail IsSpellable v vs each_v) (All-tail IsSpellable f fs each_f) one.1 in
    (more.0, (λ i. sym one.0 i ∷ more.1 i), more.2)
