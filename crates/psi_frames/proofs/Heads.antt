-- The first bytes of a frame, and those behind them, put together.
use Rattle.std.proofs.Common.{◌≡◌, inl, inr, ℕ, ◌+◌, ◌-◌, ◌<◌, ◌≤◌, min, List, [], ◌++◌, length, take, drop, slice_index, refl, sym, ap, ◌∙◌, arith, append_assoc, length-append, length-drop}
use Rattle.std.proofs.Math.Seq.{take-append-add}
use Rattle.std.proofs.lemmas.Bool.{cases_lt}
use Rattle.std.proofs.lemmas.List.{append-nil, drop_all, length-take-le, take-append-drop, take_all, take_at, drop_at, take_min, drop-append-le, get_or_append_left}
use Rattle.byteorder.specs.Endian.{big_number}
use Rattle.byteorder.specs.Numbers.{big_from-append}
use Rattle.psi_frames.specs.Frames.{head_bytes}
use Rattle.psi_frames.specs.FrontFrames.{front_frame}
use Rattle.psi_frames.specs.Parts.{AreParts}
use Rattle.psi_frames.proofs.Bytes.{byte-front, byte-joined, byte-rest}

-- the first n elements of two lists, where the first list has no more
take-over : (n : ℕ) (xs ys : List ℕ) → length xs ≤ n → take n (xs ++ ys) ≡ xs ++ take (n - length xs) ys
take-over n xs ys le = let all : n ≡ length xs + (n - length xs) = omega arith in
    ap (λ (m : ℕ). take m (xs ++ ys)) all ∙ take-append-add xs ys (n - length xs)

-- the first eleven bytes of a frame that has begun and of a piece
pub head-joined : (h body piece : List ℕ) → length h ≤ 11 → (length h < 11 → body ≡ [])
    → take 11 ((h ++ body) ++ piece) ≡ h ++ take (min (11 - length h) (length piece)) piece
head-joined h body piece most none = elim (cases_lt (length h) 11) [
  | inl few ↦
      ap (λ (t : List ℕ). take 11 ((h ++ t) ++ piece)) (none few) ∙ ap (λ (t : List ℕ). take 11 (t ++ piece)) (append-nil h) ∙ take-over 11 h piece most
      ∙ ap (λ (t : List ℕ). h ++ t) (sym (take_min (11 - length h) piece))
  | inr eleven ↦
      let all : length h ≡ 11 = omega (arith, most, eleven) in
      let room : min (11 - length h) (length piece) ≡ 0 = omega (arith, all) in
      ap (take 11) (append_assoc h body piece) ∙ take_at h (body ++ piece) 11 all ∙ sym (ap (λ (n : ℕ). h ++ take n piece) room ∙ append-nil h)
]

-- a frame by its first eleven bytes and its body
pub frame-joined : (h body : List ℕ) → length h ≡ 11 → 4 + big_number 4 (h ++ body) ≡ length (h ++ body)
    → record { kind = slice_index h 4; session = big_number 2 (drop 5 h); number = big_number 4 (drop 7 h); body = body } ≡ front_frame (h ++ body)
unfolding front_frame
frame-joined h body eleven exact =
    let word : big_number 4 (h ++ body) ≡ head_bytes + length body = omega (arith, length-append h body) in
    let size : big_number 4 (h ++ body) - head_bytes ≡ length body = omega (arith, word) in
    let kind : slice_index h 4 ≡ slice_index (h ++ body) 4 = sym (get_or_append_left h body 0 4 (omega arith)) in
    let session : big_number 2 (drop 5 h) ≡ big_number 2 (drop 5 (h ++ body)) =
    sym (ap (big_number 2) (drop-append-le 5 h body (omega arith)) ∙ big_from-append 2 (drop 5 h) body (omega (arith, length-drop 5 h))) in
    let number : big_number 4 (drop 7 h) ≡ big_number 4 (drop 7 (h ++ body)) =
    sym (ap (big_number 4) (drop-append-le 7 h body (omega arith)) ∙ big_from-append 4 (drop 7 h) body (omega (arith, length-drop 7 h))) in
    let all : body ≡ take (big_number 4 (h ++ body) - head_bytes) (drop 11 (h ++ body)) =
    sym (ap (λ (t : List ℕ). take (big_number 4 (h ++ body) - head_bytes) t) (drop_at h body 11 eleven) ∙ take_all (big_number 4 (h ++ body) - head_bytes) body (omega (arith, size))) in
    λ i. record { kind = kind i; session = session i; number = number i; body = all i }

-- bytes that come behind a frame that has begun: first its head is filled
pub parts-extended : (h body piece first more : List ℕ) (room : ℕ) → room ≡ min (11 - length h) (length piece) → first ≡ take room piece → more ≡ drop room piece → AreParts h body
    → ((i : ℕ) → slice_index piece i < 256) → AreParts (h ++ first) (body ++ more)
parts-extended h body piece first more room value front back parts each =
    let joined : piece ≡ first ++ more = sym (take-append-drop room piece) ∙ (λ i. sym front i ++ sym back i) in
    record {
      filled = λ few. filled h body piece first more room value front back parts.filled few;
      bytes = byte-joined (h ++ first) (body ++ more)
          (byte-joined h first (byte-front (h ++ body) h body refl parts.bytes) (byte-front piece first more joined each))
          (byte-joined body more (byte-rest (h ++ body) h body refl parts.bytes) (byte-rest piece first more joined each));
    } where
      filled : (h body piece first more : List ℕ) (room : ℕ) → room ≡ min (11 - length h) (length piece) → first ≡ take room piece → more ≡ drop room piece → (length h < 11 → body ≡ [])
          → length (h ++ first) < 11 → body ++ more ≡ []
      filled h body piece first more room value front back none few =
          let size : length first ≡ room = ap length front ∙ length-take-le room piece (omega (arith, value)) in
          let all : length piece ≤ room = omega (arith, value, size, few, length-append h first) in
          (λ i. none (omega (arith, few, length-append h first)) i ++ (back ∙ drop_all room piece all) i)
