-- Writing again the bytes of a number that was read, the high byte first.
use Rattle.std.proofs.Common.{◌≡◌, ℕ, zero, suc, ◌+◌, ◌*◌, ◌/◌, ◌%◌, ◌^◌, ◌<◌, ◌≤◌, List, [], ◌∷◌, length, take, drop, slice_index, refl, sym, ap, ◌∙◌, arith, length-drop}
use Rattle.std.proofs.lemmas.List.{get_or-drop}
use Rattle.std.proofs.Math.Nat.{mod-eq_of_lt, mul-add-mod_self_right, mul-add-div_right, div-eq_of_lt, div-one, one-le-pow}
use Rattle.std.proofs.lemmas.Nat.{pow-add}
use Rattle.std.specs.Int.{byte_at, bytes_high_first}
use Rattle.byteorder.specs.Endian.{big_from, big_number, big_bytes}
use Rattle.byteorder.specs.Numbers.{big_from-cons, big_from-lt}

-- a byte of a number, by its place
byte_at-pow : (k x : ℕ) → byte_at k x ≡ x / 256 ^ k % 256
byte_at-pow zero x = ap (λ (y : ℕ). y % 256) (sym (div-one x))
byte_at-pow (suc k) x = refl

-- a power of 256 is above zero
pow_pos256 : (n : ℕ) → zero < 256 ^ n
pow_pos256 n = let h = one-le-pow n 256 (omega arith) in omega arith

-- what stands above place k changes no byte below it
byte_at-above : (n m a r : ℕ) → byte_at n (a * 256 ^ (m + (1 + n)) + r) ≡ byte_at n r
byte_at-above n m a r =
    let power : 256 ^ (m + (1 + n)) ≡ 256 ^ m * (256 ^ 1 * 256 ^ n) = pow-add 256 m (1 + n) ∙ ap (λ (x : ℕ). 256 ^ m * x) (pow-add 256 1 n) in
    let shape : a * 256 ^ (m + (1 + n)) + r ≡ a * 256 ^ m * 256 * 256 ^ n + r = ap (λ (p : ℕ). a * p + r) power ∙ omega arith in
    byte_at-pow n (a * 256 ^ (m + (1 + n)) + r)
    ∙ ap (λ (x : ℕ). x / 256 ^ n % 256) shape
    ∙ ap (λ (x : ℕ). x % 256) (mul-add-div_right (pow_pos256 n) (a * 256 ^ m * 256) r)
    ∙ mul-add-mod_self_right (a * 256 ^ m) 256 (r / 256 ^ n)
    ∙ sym (byte_at-pow n r)

-- what stands above place n changes none of the n low bytes
bytes_high_first-above : (n m a r : ℕ) → bytes_high_first n (a * 256 ^ (m + n) + r) ≡ bytes_high_first n r
bytes_high_first-above zero m a r = refl
bytes_high_first-above (suc n) m a r =
    let one : m + suc n ≡ m + (1 + n) = omega arith in
    let more : m + (1 + n) ≡ m + 1 + n = omega arith in
    let top = byte_at-above n m a r in
    let rest = bytes_high_first-above n (m + 1) a r in
    rw (one, top, more, rest) refl

-- writing what was read gives the bytes back
pub big_bytes-big_number : (n : ℕ) (xs : List ℕ) → n ≤ length xs → ((i : ℕ) → slice_index xs i < 256) → big_bytes n (big_number n xs) ≡ take n xs
big_bytes-big_number zero xs long bytes = refl
big_bytes-big_number (suc n) [] long bytes = absurd (omega arith)
big_bytes-big_number (suc n) (x ∷ xs) long bytes =
    let r = big_from 0 n xs in
    let moved : big_from 1 n (x ∷ xs) ≡ big_from 0 n xs = big_from-cons 0 n x xs in
    let low : r < 256 ^ n = big_from-lt 0 n xs (λ i. bytes (suc i)) in
    let byte : x < 256 = bytes 0 in
    let top : byte_at n (x * 256 ^ n + r) ≡ x =
    byte_at-pow n (x * 256 ^ n + r)
    ∙ ap (λ (y : ℕ). y % 256) (mul-add-div_right (pow_pos256 n) x r)
    ∙ ap (λ (y : ℕ). (x + y) % 256) (div-eq_of_lt low)
    ∙ ap (λ (y : ℕ). y % 256) (omega arith)
    ∙ mod-eq_of_lt byte in
    let none : 0 + n ≡ n = omega arith in
    let rest : bytes_high_first n (x * 256 ^ n + r) ≡ bytes_high_first n r = ap (λ (k : ℕ). bytes_high_first n (x * 256 ^ k + r)) (sym none) ∙ bytes_high_first-above n 0 x r in
    let ih = big_bytes-big_number n xs (omega arith) (λ i. bytes (suc i)) in
    rw (moved, top, rest, ih) refl

-- the bytes from a place on are bytes
pub bytes_from : (k : ℕ) (bytes : List ℕ) → ((i : ℕ) → slice_index bytes i < 256) → (i : ℕ) → slice_index (drop k bytes) i < 256
bytes_from k bytes each i = let same = get_or-drop k bytes i 0 in let here = each (k + i) in omega arith

-- the number of n bytes from place k, written again
pub written_again : (k n : ℕ) (bytes : List ℕ) → k + n ≤ length bytes → ((i : ℕ) → slice_index bytes i < 256) → big_bytes n (big_number n (drop k bytes)) ≡ take n (drop k bytes)
written_again k n bytes long each = big_bytes-big_number n (drop k bytes) (omega (arith, length-drop k bytes)) (bytes_from k bytes each)
