-- How a reply's frame is put together.
use Rattle.std.proofs.Common.{◌≡◌, ℕ, ◌+◌, List, ◌++◌, length, ap, ◌∙◌, arith, append_assoc}
use Rattle.byteorder.specs.Endian.{big_bytes}
use Rattle.psi_frames.specs.Frames.{spelled, head_bytes}

-- behind the head of a frame whose body has a place and so many more bytes, and the place, these bytes end the frame
pub placed : (old begun tail : List ℕ) (kind session number place more : ℕ) → length tail ≡ more
    → begun ≡ old ++ big_bytes 4 (head_bytes + (8 + more)) ++ big_bytes 1 kind ++ big_bytes 2 session ++ big_bytes 4 number ++ big_bytes 8 place
    → begun ++ tail ≡ old ++ spelled kind session number (big_bytes 8 place ++ tail)
unfolding spelled
placed old begun tail kind session number place more size is =
    let word : head_bytes + (8 + more) ≡ head_bytes + length (big_bytes 8 place ++ tail) = omega arith in
    let same : old ++ big_bytes 4 (head_bytes + length (big_bytes 8 place ++ tail)) ++ big_bytes 1 kind ++ big_bytes 2 session ++ big_bytes 4 number ++ big_bytes 8 place ++ tail
    ≡ old ++ spelled kind session number (big_bytes 8 place ++ tail) = simp append_assoc in
    ap (λ (b : List ℕ). b ++ tail) is
    ∙ ap (λ (n : ℕ). old ++ big_bytes 4 n ++ big_bytes 1 kind ++ big_bytes 2 session ++ big_bytes 4 number ++ big_bytes 8 place ++ tail) word
    ∙ same

-- a body of a place alone
pub placed-alone : (old whole : List ℕ) (kind session number place : ℕ)
    → whole ≡ old ++ big_bytes 4 (head_bytes + (8 + 0)) ++ big_bytes 1 kind ++ big_bytes 2 session ++ big_bytes 4 number ++ big_bytes 8 place
    → whole ≡ old ++ spelled kind session number (big_bytes 8 place)
unfolding spelled
placed-alone old whole kind session number place is =
    let same : old ++ big_bytes 4 (head_bytes + (8 + 0)) ++ big_bytes 1 kind ++ big_bytes 2 session ++ big_bytes 4 number ++ big_bytes 8 place ≡ old ++ spelled kind session number (big_bytes 8 place) = simp append_assoc in
    is ∙ same

-- a body of a code
pub coded : (old begun : List ℕ) (kind session number code : ℕ) → begun ≡ old ++ big_bytes 4 (head_bytes + 1) ++ big_bytes 1 kind ++ big_bytes 2 session ++ big_bytes 4 number
    → begun ++ big_bytes 1 code ≡ old ++ spelled kind session number (big_bytes 1 code)
unfolding spelled
coded old begun kind session number code is =
    let same : (old ++ big_bytes 4 (head_bytes + 1) ++ big_bytes 1 kind ++ big_bytes 2 session ++ big_bytes 4 number) ++ big_bytes 1 code ≡ old ++ spelled kind session number (big_bytes 1 code) = simp append_assoc in
    ap (λ (b : List ℕ). b ++ big_bytes 1 code) is ∙ same
