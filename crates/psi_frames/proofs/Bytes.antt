-- Bytes put together and taken apart are bytes.
use Rattle.std.proofs.Common.{◌≡◌, inl, inr, ℕ, zero, suc, ◌+◌, ◌<◌, List, [], ◌∷◌, ◌++◌, length, slice_index, ap, arith}
use Rattle.std.proofs.lemmas.Bool.{cases_lt}
use Rattle.std.proofs.lemmas.List.{get_or-append-add, get_or_append_left, get_or_past}

-- the bytes of a front are bytes
pub byte-front : (rest whole behind : List ℕ) → rest ≡ whole ++ behind → ((i : ℕ) → slice_index rest i < 256) → (i : ℕ) → slice_index whole i < 256
byte-front rest whole behind joined each i = elim (cases_lt i (length whole)) [
  | inl within ↦ let same = get_or_append_left whole behind 0 i within in let here = each i in omega (arith, same, here, ap (λ (t : List ℕ). slice_index t i) joined)
  | inr past ↦ let same = get_or_past whole i 0 past in omega (arith, same)
]

-- bytes of the rest are bytes
pub byte-rest : (bytes front rest : List ℕ) → bytes ≡ front ++ rest → ((i : ℕ) → slice_index bytes i < 256) → (i : ℕ) → slice_index rest i < 256
byte-rest bytes front rest e each i =
    let here = each (length front + i) in
    let same = get_or-append-add front rest i 0 in
    let whole = ap (λ (t : List ℕ). slice_index t (length front + i)) e in
    omega (arith, here, same, whole)

-- bytes put together are bytes
pub byte-joined : (xs ys : List ℕ) → ((i : ℕ) → slice_index xs i < 256) → ((i : ℕ) → slice_index ys i < 256) → (i : ℕ) → slice_index (xs ++ ys) i < 256
byte-joined [] ys x y i = y i
byte-joined (b ∷ xs) ys x y zero = x 0
byte-joined (b ∷ xs) ys x y (suc i) = byte-joined xs ys (λ k. x (suc k)) y i
