-- No reply frame begins another one: the length word tells where it ends.
use Rattle.std.specs.Prelude.{◌≡◌, ℕ, ◌+◌, ◌≤◌, List, [], ◌++◌, length}
use Rattle.std.proofs.Common.{ap, arith, append-nil, length-append}
use Rattle.std.proofs.lemmas.List.{nil_from_length}
use Rattle.byteorder.specs.Endian.{big_bytes, big_number}
use Rattle.byteorder.specs.Numbers.{big_number-reads_back}
use Rattle.psi_frames.specs.Frames.{NoReplyBeginsAnother, reply_frame_bytes, reply_content, reply_kind, spelled, head_bytes, greatest_length}

-- the length word of a frame
word-spelled : (kind session number : ℕ) (body rest : List ℕ) → head_bytes + length body ≤ greatest_length → big_number 4 (spelled kind session number body ++ rest) ≡ head_bytes + length body
unfolding spelled
word-spelled kind session number body rest fits =
    big_number-reads_back 4 (head_bytes + length body) (big_bytes 1 kind ++ big_bytes 2 session ++ big_bytes 4 number ++ body ++ rest) (omega (arith, fits))

length-spelled : (kind session number : ℕ) (body : List ℕ) → length (spelled kind session number body) ≡ 11 + length body
unfolding spelled
length-spelled kind session number body = omega arith

pub apart : NoReplyBeginsAnother
apart session number other_session other_number a b rest fits_a fits_b e =
    let first = word-spelled (reply_kind a) session number (reply_content a) rest fits_a in
    let second = word-spelled (reply_kind b) other_session other_number (reply_content b) [] fits_b in
    let same = ap (big_number 4) e in
    let words = ap (big_number 4) (append-nil (reply_frame_bytes other_session other_number b)) in
    let size = ap length e in
    let sum = length-append (reply_frame_bytes session number a) rest in
    let one = length-spelled (reply_kind a) session number (reply_content a) in
    let other = length-spelled (reply_kind b) other_session other_number (reply_content b) in
    nil_from_length rest (omega (arith, first, second, same, words, size, sum, one, other))
