-- Items' tags are bytes.
use Rattle.std.proofs.Common.{◌≡◌, ℕ, zero, suc, ◌<◌, List, [], ◌∷◌, ◌++◌, get_or, take, inl, inr, arith}
use Rattle.std.specs.Int.{bytes_high_first, byte_at}
use Rattle.std.proofs.lemmas.Bool.{cases_lt}
use Rattle.std.proofs.lemmas.List.{get_or_past, get_or-take, length-take}
use Rattle.sha2.specs.Sha256.{sha256, digest_bytes, final_hash, initial_hash_256}
use Rattle.item_slots.specs.Tags.{tag_of}
use Rattle.psi_bundle.specs.Histories.{AreBytes}

no-bytes : AreBytes []
no-bytes i =
    let none : List ℕ = [] in
    let past : get_or none i 0 ≡ 0 = get_or_past none i 0 (omega arith) in
    omega (arith, past)

bytes-first : (x : ℕ) (xs : List ℕ) → x < 256 → AreBytes xs → AreBytes (x ∷ xs)
bytes-first x xs small bytes zero = small
bytes-first x xs small bytes (suc i) = bytes i

bytes-joined : (xs ys : List ℕ) → AreBytes xs → AreBytes ys → AreBytes (xs ++ ys)
bytes-joined [] ys front back = back
bytes-joined (x ∷ xs) ys front back = bytes-first x (xs ++ ys) (front 0) (bytes-joined xs ys (λ i. front (suc i)) back)

bytes-front : (n : ℕ) (xs : List ℕ) → AreBytes xs → AreBytes (take n xs)
bytes-front n xs bytes i =
    elim (cases_lt i n) [
      | inl lt ↦ rw (get_or-take n xs i 0 lt) (bytes i)
      | inr le ↦ rw (get_or_past (take n xs) i 0 (omega (arith, length-take {A = ℕ} n xs))) (omega arith)
    ]

byte-small : (k n : ℕ) → byte_at k n < 256
byte-small zero n = omega arith
byte-small (suc k) n = omega arith

bytes-high_first : (k n : ℕ) → AreBytes (bytes_high_first k n)
bytes-high_first zero n = no-bytes
bytes-high_first (suc k) n = bytes-first (byte_at k n) (bytes_high_first k n) (byte-small k n) (bytes-high_first k n)

digest-bytes : (h : List ℕ) (n : ℕ) → AreBytes (digest_bytes h n)
unfolding digest_bytes
digest-bytes h zero = no-bytes
digest-bytes h (suc n) = bytes-joined (digest_bytes h n) (bytes_high_first 4 (get_or h n 0)) (digest-bytes h n) (bytes-high_first 4 (get_or h n 0))

pub tag_of-bytes : (item : List ℕ) → AreBytes (tag_of item)
unfolding tag_of sha256
tag_of-bytes item = bytes-front 22 (digest_bytes (final_hash initial_hash_256 item) 8) (digest-bytes (final_hash initial_hash_256 item) 8)
