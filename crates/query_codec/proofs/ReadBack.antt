-- Ciphertexts that were written as bytes, read again.
use Rattle.std.proofs.Common.{◌≡◌, ℕ, ◌+◌, ◌*◌, ◌/◌, ◌%◌, ◌^◌, ◌<◌, ◌≤◌, List, [], ◌∷◌, ◌++◌, length, take, drop, get_or, refl, ap, sym, subst, ◌∙◌, arith}
use Rattle.std.specs.List.{All, flat_map}
use Rattle.std.proofs.lemmas.List.{append-nil, drop-drop, flat_map_more, take_more}
use Rattle.std.proofs.lemmas.List.FromFn.{fill_by_all}
use Rattle.std.proofs.lemmas.List.Elements.{All-get_or, All-push, All-same}
use Rattle.byteorder.specs.Endian.{big_number, big_bytes}
use Rattle.byteorder.specs.Numbers.{big_number-reads_back, length-bytes_high_first}
use Rattle.psi_residue.specs.Polynomials.{IsPolynomial}
use Rattle.psi_residue.proofs.Sums.{slice_index-table}
use Rattle.psi_residue.specs.Ciphertexts.{IsCiphertext, list_at, list_modulus}
use Rattle.bfv_core.proofs.FourLists.{list-polynomial}
use Rattle.query_codec.specs.Ciphertexts.{AreCiphertexts, residue_in, residue_modulus, list_in, ciphertext_in, ciphertexts_in, residue_bytes, ciphertext_bytes, ciphertexts_bytes}
use Rattle.query_codec.proofs.Pieces.{piece_at, length-pieces}
use Rattle.query_codec.proofs.Residues.{list_in-from, modulus_of_list}

-- the bytes behind two places, one after the other
behind_both : (a b n : ℕ) (bytes text : List ℕ) → n ≡ a + b → drop a bytes ≡ text → drop n bytes ≡ drop b text
behind_both a b n bytes text e h = ap (λ (u : ℕ). drop u bytes) e ∙ sym (drop-drop b a bytes) ∙ ap (λ (ys : List ℕ). drop b ys) h

residue-written : (bytes : List ℕ) (a : ℕ) (xs behind : List ℕ) (k : ℕ) → drop (5 * a) bytes ≡ residue_bytes xs ++ behind → get_or xs k 0 < 256 ^ 5 → k < length xs → residue_in bytes (a + k) ≡ get_or xs k 0
unfolding residue_in
residue-written bytes a xs behind k h small lt =
    let piece = piece_at (big_bytes 5) 5 xs 0 k behind (λ j within. length-bytes_high_first 5 (get_or xs j 0)) lt in
    let e : 5 * (a + k) ≡ 5 * a + 5 * k = omega arith in
    ap (λ (ys : List ℕ). big_number 5 ys) (behind_both (5 * a) (5 * k) (5 * (a + k)) bytes (residue_bytes xs ++ behind) e h ∙ piece.1)
    ∙ big_number-reads_back 5 (get_or xs k 0) piece.0 small

list_modulus-small : (l : ℕ) → list_modulus l ≤ 256 ^ 5
list_modulus-small l = grind arith

list-written : (bytes : List ℕ) (k l : ℕ) (xs behind : List ℕ) → drop (20480 * k) bytes ≡ residue_bytes xs ++ behind → IsPolynomial (list_modulus l) xs → xs ≡ list_in bytes k
list-written bytes k l xs behind h poly =
    let e : 5 * (4096 * k) ≡ 20480 * k = omega arith in
    let small = list_modulus-small l in
    list_in-from bytes k xs poly.size
    (λ i lt. sym (residue-written bytes (4096 * k) xs behind i (ap (λ (u : ℕ). drop u bytes) e ∙ h) (omega (arith, poly.below i lt)) (omega (arith, poly.size))))

length-list : (ct : List (List ℕ)) (l : ℕ) → IsCiphertext ct → l < 4 → length (residue_bytes (list_at ct l)) ≡ 20480
length-list ct l whole few =
    let size = (list-polynomial ct l few whole).size in
    length-pieces (big_bytes 5) 5 (list_at ct l) 0 (λ j within. length-bytes_high_first 5 (get_or (list_at ct l) j 0)) ∙ omega (arith, size)

length-ciphertext : (ct : List (List ℕ)) → IsCiphertext ct → length (ciphertext_bytes ct) ≡ 81920
unfolding ciphertext_bytes
length-ciphertext ct whole =
    let four = whole.four in
    length-pieces residue_bytes 20480 ct [] (λ l lt. length-list ct l whole (omega (arith, four))) ∙ omega (arith, four)

-- list number l of ciphertext number c
list-of : (bytes : List ℕ) (c l : ℕ) (ct : List (List ℕ)) (behind : List ℕ) → drop (81920 * c) bytes ≡ ciphertext_bytes ct ++ behind → IsCiphertext ct → l < 4 → list_at ct l ≡ list_in bytes (4 * c + l)
unfolding ciphertext_bytes
list-of bytes c l ct behind h whole few =
    let four = whole.four in
    let piece = piece_at residue_bytes 20480 ct [] l behind (λ j lt. length-list ct j whole (omega (arith, four))) (omega (arith, four)) in
    let e : 20480 * (4 * c + l) ≡ 81920 * c + 20480 * l = omega arith in
    list-written bytes (4 * c + l) l (list_at ct l) piece.0 (behind_both (81920 * c) (20480 * l) (20480 * (4 * c + l)) bytes (flat_map residue_bytes ct ++ behind) e h ∙ piece.1) (list-polynomial ct l few whole)

ciphertext-written : (bytes : List ℕ) (c : ℕ) (ct : List (List ℕ)) (behind : List ℕ) → drop (81920 * c) bytes ≡ ciphertext_bytes ct ++ behind → IsCiphertext ct → ct ≡ ciphertext_in bytes c
unfolding ciphertext_in
ciphertext-written bytes c ct behind h whole = fill_by_all (λ l. list_in bytes (4 * c + l)) ct 4 [] whole.four (λ l few. list-of bytes c l ct behind h whole few)

-- ciphertext number c stands at its place
standing : (cts : List (List (List ℕ))) (c : ℕ) → All IsCiphertext cts → c < length cts → (behind : List ℕ) × (drop (81920 * c) (ciphertexts_bytes cts) ≡ ciphertext_bytes (get_or cts c []) ++ behind)
unfolding ciphertexts_bytes
standing cts c each lt =
    let piece = piece_at ciphertext_bytes 81920 cts [] c [] (λ j within. length-ciphertext (get_or cts j []) (All-get_or IsCiphertext cts j [] within each)) lt in
    (piece.0, ap (λ (ys : List ℕ). drop (81920 * c) ys) (sym (append-nil (flat_map ciphertext_bytes cts))) ∙ piece.1)

-- the ciphertexts of their bytes
pub read_back : (cts : List (List (List ℕ))) → All IsCiphertext cts → ciphertexts_in (ciphertexts_bytes cts) (length cts) ≡ cts
unfolding ciphertexts_in
read_back cts each =
    sym (fill_by_all (ciphertext_in (ciphertexts_bytes cts)) cts (length cts) [] refl
    (λ c lt. let at = standing cts c each lt in ciphertext-written (ciphertexts_bytes cts) c (get_or cts c []) at.0 at.1 (All-get_or IsCiphertext cts c [] lt each)))

residue-in_list : (bytes : List ℕ) (k j : ℕ) → j < 4096 → residue_in bytes (4096 * k + j) ≡ get_or (list_in bytes k) j 0
unfolding list_in
residue-in_list bytes k j lt = sym (slice_index-table 4096 (λ i. residue_in bytes (4096 * k + i)) j lt)

fits-at : (cts : List (List (List ℕ))) → All IsCiphertext cts → (c l j : ℕ) → c < length cts → l < 4 → j < 4096
    → residue_in (ciphertexts_bytes cts) (4096 * (4 * c + l) + j) < residue_modulus (4096 * (4 * c + l) + j)
fits-at cts each c l j within few lt =
    let bytes = ciphertexts_bytes cts in
    let ct = get_or cts c [] in
    let whole = All-get_or IsCiphertext cts c [] within each in
    let at = standing cts c each within in
    let same : residue_in bytes (4096 * (4 * c + l) + j) ≡ get_or (list_at ct l) j 0 =
    residue-in_list bytes (4 * c + l) j lt ∙ ap (λ (xs : List ℕ). get_or xs j 0) (sym (list-of bytes c l ct at.0 at.1 whole few)) in
    rw (same, modulus_of_list c l j few lt) ((list-polynomial ct l few whole).below j lt)

-- their bytes are ciphertexts
pub AreCiphertexts-written : (cts : List (List (List ℕ))) → All IsCiphertext cts → AreCiphertexts (ciphertexts_bytes cts) (length cts)
unfolding ciphertexts_bytes
AreCiphertexts-written cts each = record {
  size = length-pieces ciphertext_bytes 81920 cts [] (λ j within. length-ciphertext (get_or cts j []) (All-get_or IsCiphertext cts j [] within each));
  fit = λ i lt.
      let e : 4096 * (4 * (i / 16384) + i / 4096 % 4) + i % 4096 ≡ i = omega arith in
      subst (λ (n : ℕ). residue_in (ciphertexts_bytes cts) n < residue_modulus n) e (fits-at cts each (i / 16384) (i / 4096 % 4) (i % 4096) (omega arith) (omega arith) (omega arith));
}

-- one ciphertext more is written
pub written_none : (old : List ℕ) → old ≡ old ++ ciphertexts_bytes []
unfolding ciphertexts_bytes
written_none old = sym (append-nil old)

pub written_more : (old : List ℕ) (cts : List (List (List ℕ))) (i : ℕ) (ct : List (List ℕ)) → i < length cts → ct ≡ get_or cts i ct → (old ++ ciphertexts_bytes (take i cts)) ++ ciphertext_bytes ct ≡ old ++ ciphertexts_bytes (take (i + 1) cts)
unfolding ciphertexts_bytes
written_more old cts i ct lt is =
    flat_map_more ciphertext_bytes old (take i cts) ct
    ∙ ap (λ (x : List (List ℕ)). old ++ flat_map ciphertext_bytes (take i cts ++ x ∷ [])) is
    ∙ ap (λ (xs : List (List (List ℕ))). old ++ flat_map ciphertext_bytes xs) (sym (take_more cts i ct lt))

pub each_more : (cts : List (List (List ℕ))) (i : ℕ) (ct : List (List ℕ)) → i < length cts → ct ≡ get_or cts i ct → All IsCiphertext (take i cts) → IsCiphertext ct → All IsCiphertext (take (i + 1) cts)
each_more cts i ct lt is each whole =
    All-same IsCiphertext (take (i + 1) cts) (take i cts ++ get_or cts i ct ∷ []) (take_more cts i ct lt)
    (All-push IsCiphertext (take i cts) (get_or cts i ct) each (subst IsCiphertext is whole))
