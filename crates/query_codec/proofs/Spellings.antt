-- Ciphertexts that were read from bytes, written again.
use Rattle.std.proofs.Common.{◌≡◌, ℕ, ◌+◌, ◌*◌, ◌<◌, ◌≤◌, List, length, take, drop, map, get_or, ap, ◌∙◌, arith}
use Rattle.std.specs.List.{flat_map, range_with_len}
use Rattle.std.proofs.lemmas.List.{take_all}
use Rattle.std.proofs.lemmas.List.Folds.{flat_map-map}
use Rattle.byteorder.specs.Endian.{big_bytes}
use Rattle.psi_residue.specs.Sums.{table}
use Rattle.query_codec.specs.Ciphertexts.{AreCiphertexts, residue_in, list_in, ciphertext_in, ciphertexts_in, residue_bytes, ciphertext_bytes, ciphertexts_bytes}
use Rattle.item_slots.proofs.BigBytes.{written_again}
use Rattle.query_codec.proofs.Pieces.{pieces, pieces_of}

spelled_residue : (bytes : List ℕ) (i : ℕ) → 5 * (i + 1) ≤ length bytes → ((j : ℕ) → get_or bytes j 0 < 256) → big_bytes 5 (residue_in bytes i) ≡ take 5 (drop (5 * i) bytes)
unfolding residue_in
spelled_residue bytes i within each = written_again (5 * i) 5 bytes (omega arith) each

spelled_residues : (bytes : List ℕ) (a n : ℕ) → 5 * (a + n) ≤ length bytes → ((j : ℕ) → get_or bytes j 0 < 256)
    → residue_bytes (table n (λ i. residue_in bytes (a + i))) ≡ take (5 * n) (drop (5 * a) bytes)
unfolding table
spelled_residues bytes a n within each = pieces_of (big_bytes 5) (residue_in bytes) 5 bytes a n (λ k lt. spelled_residue bytes k (omega arith) each)

spelled_list : (bytes : List ℕ) (k : ℕ) → 20480 * (k + 1) ≤ length bytes → ((j : ℕ) → get_or bytes j 0 < 256) → residue_bytes (list_in bytes k) ≡ take 20480 (drop (20480 * k) bytes)
unfolding list_in
spelled_list bytes k within each =
    let e : 5 * (4096 * k) ≡ 20480 * k = omega arith in
    spelled_residues bytes (4096 * k) 4096 (omega arith) each ∙ ap (λ (u : ℕ). take 20480 (drop u bytes)) e

spelled_lists : (bytes : List ℕ) (a n : ℕ) → 20480 * (a + n) ≤ length bytes → ((j : ℕ) → get_or bytes j 0 < 256)
    → flat_map residue_bytes (map (λ l. list_in bytes (a + l)) (range_with_len 0 n)) ≡ take (20480 * n) (drop (20480 * a) bytes)
spelled_lists bytes a n within each = pieces_of residue_bytes (list_in bytes) 20480 bytes a n (λ k lt. spelled_list bytes k (omega arith) each)

spelled_ciphertext : (bytes : List ℕ) (c : ℕ) → 81920 * (c + 1) ≤ length bytes → ((j : ℕ) → get_or bytes j 0 < 256) → ciphertext_bytes (ciphertext_in bytes c) ≡ take 81920 (drop (81920 * c) bytes)
unfolding ciphertext_bytes ciphertext_in
spelled_ciphertext bytes c within each =
    let e : 20480 * (4 * c) ≡ 81920 * c = omega arith in
    spelled_lists bytes (4 * c) 4 (omega arith) each ∙ ap (λ (u : ℕ). take 81920 (drop u bytes)) e

-- the ciphertexts that bytes are, written again, are the bytes
pub spelled_ciphertexts : (bytes : List ℕ) (n : ℕ) → AreCiphertexts bytes n → ((j : ℕ) → get_or bytes j 0 < 256) → ciphertexts_bytes (ciphertexts_in bytes n) ≡ bytes
unfolding ciphertexts_bytes ciphertexts_in
spelled_ciphertexts bytes n are each =
    let size : length bytes ≡ 81920 * n = are.size in
    flat_map-map ciphertext_bytes (ciphertext_in bytes) (range_with_len 0 n)
    ∙ pieces (λ c. ciphertext_bytes (ciphertext_in bytes c)) 81920 bytes n (λ c lt. spelled_ciphertext bytes c (omega arith) each)
    ∙ take_all (81920 * n) bytes (omega arith)
