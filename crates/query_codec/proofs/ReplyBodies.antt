-- The body of a reply as a header, numbers of bundles and ciphertexts.
use Rattle.std.proofs.Common.{◌≡◌, ◌⊎◌, inl, inr, ℕ, ◌+◌, ◌-◌, ◌*◌, ◌<◌, ◌≤◌, List, [], ◌∷◌, ◌++◌, None, Some, not, true, nat_le, nat_eq, eq-eqb, if◌then◌else◌, suc, length, take, drop, map, get_or, refl, ap, sym, subst, ◌∙◌, arith, append_assoc, length-append, length-drop}
use Rattle.std.specs.List.{All, flat_map, range_with_len, sum}
use Rattle.std.specs.Option.{option_map}
use Rattle.std.specs.Cmp.Lexicographic.{pointwise}
use Rattle.std.proofs.Math.Seq.{drop-append_seam}
use Rattle.std.proofs.lemmas.Bool.{le-leb}
use Rattle.std.proofs.lemmas.List.{drop-drop, take-append-drop}
use Rattle.std.proofs.lemmas.List.Folds.{flat_map-map}
use Rattle.std.proofs.lemmas.List.Sums.{sum_by-cons}
use Rattle.std.proofs.lemmas.Nat.{mul-le}
use Rattle.std.proofs.lemmas.List.FromFn.{fill_by_all, map-range_with_len_more, sum_by-map-range_with_len_more}
use Rattle.byteorder.specs.Endian.{big_number, big_bytes}
use Rattle.byteorder.specs.Numbers.{big_number-reads_back, length-bytes_high_first}
use Rattle.psi_residue.specs.Parameters.{Parameters, parameter_bytes}
use Rattle.psi_residue.specs.Ciphertexts.{IsCiphertext}
use Rattle.query_codec.specs.declared.fault.CodecFault.{CodecFault}
use Rattle.query_codec.specs.declared.fault.CodecFault.TheVariants as faults
use Rattle.query_codec.specs.Ciphertexts.{AreCiphertexts, ciphertexts_in, ciphertexts_bytes, wrong_residue}
use Rattle.query_codec.specs.Replies.{IsReply, IsReplyHead, row_count, reply_counts, reply_planes, reply_head, reply_length, reply_ciphertexts, reply_fault, reply_bytes}
use Rattle.item_slots.proofs.BigBytes.{bytes_from, written_again}
use Rattle.query_codec.proofs.Pieces.{pieces, piece_at, length-pieces}
use Rattle.query_codec.proofs.QueryBodies.{behind-same, same-pointwise}
use Rattle.query_codec.proofs.ReadBack.{read_back, AreCiphertexts-written}
use Rattle.query_codec.proofs.Residues.{none_wrong}
use Rattle.query_codec.proofs.Spellings.{spelled_ciphertexts}

-- ---- the numbers of bundles

-- one row more
pub count_more : (body : List ℕ) (r total count : ℕ) → total ≡ sum (map (row_count body) (range_with_len 0 r)) → count ≡ row_count body r → total + count ≡ sum (map (row_count body) (range_with_len 0 (r + 1)))
count_more body r total count before here = (λ i. before i + here i) ∙ sym (sum_by-map-range_with_len_more (λ (x : ℕ). x) (row_count body) 0 r r (omega arith))

pub counts_more : (body counts : List ℕ) (r count : ℕ) → counts ≡ map (row_count body) (range_with_len 0 r) → count ≡ row_count body r → counts ++ count ∷ [] ≡ map (row_count body) (range_with_len 0 (r + 1))
counts_more body counts r count before here = (λ i. before i ++ here i ∷ []) ∙ sym (map-range_with_len_more (row_count body) 0 r r (omega arith))

pub reply_counts-is : (p : Parameters) (body : List ℕ) → map (row_count body) (range_with_len 0 p.rows) ≡ reply_counts p body
unfolding reply_counts
reply_counts-is p body = refl

pub planes-is : (p : Parameters) (body : List ℕ) (bundles : ℕ) → bundles ≡ sum (map (row_count body) (range_with_len 0 p.rows)) → (1 + p.units) * bundles ≡ reply_planes p (reply_counts p body)
planes-is p body bundles e = ap (λ (n : ℕ). (1 + p.units) * n) (e ∙ ap sum (reply_counts-is p body))

-- ---- the faults

-- the fault of a body of the right length and header is that of its residues
pub reply_fault_of_residues : (p : Parameters) (body : List ℕ) → reply_head p ≤ length body → take 8 body ≡ parameter_bytes p → length body ≡ reply_length p (reply_counts p body)
    → reply_fault p body ≡ option_map faults.Residue (wrong_residue (drop (reply_head p) body) (16384 * reply_planes p (reply_counts p body)))
reply_fault_of_residues p body within header size =
    let want = reply_length p (reply_counts p body) in
    let long : nat_le (reply_head p) (length body) ≡ true = le-leb (reply_head p) (length body) within in
    let headed : pointwise nat_eq (take 8 body) (parameter_bytes p) ≡ true = same-pointwise (take 8 body) (parameter_bytes p) header in
    let sized : nat_eq (length body) want ≡ true = eq-eqb (length body) want size in
    (λ i. if not (long i) then Some (faults.Length (reply_head p)) else (if not (headed i) then Some faults.WrongParams else (if not (sized i) then Some (faults.Length want) else option_map faults.Residue (wrong_residue (drop (reply_head p) body) (16384 * reply_planes p (reply_counts p body))))))

pub no_fault-IsReply : (p : Parameters) (body : List ℕ) → IsReply p body → reply_fault p body ≡ None
no_fault-IsReply p body r =
    reply_fault_of_residues p body r.head.room r.head.header r.head.size
    ∙ ap (λ o. option_map faults.Residue o) (none_wrong (drop (reply_head p) body) (16384 * reply_planes p (reply_counts p body)) r.fit)

-- ---- what a body says

pub IsReply-from : (p : Parameters) (body : List ℕ) → IsReplyHead p body → AreCiphertexts (drop (reply_head p) body) (reply_planes p (reply_counts p body)) → IsReply p body
IsReply-from p body head are = record { head = head; fit = are.fit }

-- a fault of the head, but for want of memory, is no reply's
pub no_reply : (p : Parameters) (body : List ℕ) (fault : CodecFault) → (fault ≡ faults.NoMemory) ⊎ (reply_fault p body ≡ Some fault) → (fault ≡ faults.NoMemory → ⊥) → IsReply p body → ⊥
no_reply p body fault (inl none) other r = other none
no_reply p body fault (inr some) other r = let none = no_fault-IsReply p body r in absurd cc

-- the bytes behind the head are those of the ciphertexts
pub length-behind : (p : Parameters) (body : List ℕ) → IsReplyHead p body → length (drop (reply_head p) body) ≡ 81920 * reply_planes p (reply_counts p body)
length-behind p body head = behind_length (length body) (reply_head p) (81920 * reply_planes p (reply_counts p body)) (length (drop (reply_head p) body)) head.size (length-drop (reply_head p) body)
  where
    behind_length : (all head rest behind : ℕ) → all ≡ head + rest → behind ≡ all - head → behind ≡ rest
    behind_length all head rest behind e f = omega (arith, e, f)

pub AreCiphertexts-reply : (p : Parameters) (body : List ℕ) → IsReply p body → AreCiphertexts (drop (reply_head p) body) (reply_planes p (reply_counts p body))
AreCiphertexts-reply p body r = record { size = length-behind p body r.head; fit = r.fit }

pub reply_ciphertexts-is : (p : Parameters) (body : List ℕ) (head planes : ℕ) → head ≡ reply_head p → planes ≡ reply_planes p (reply_counts p body) → ciphertexts_in (take (length body - head) (drop head body)) planes ≡ reply_ciphertexts p body
unfolding reply_ciphertexts
reply_ciphertexts-is p body head planes head-is planes-are = behind-same ciphertexts_in body head (reply_head p) planes (reply_planes p (reply_counts p body)) head-is planes-are

-- the numbers, written again
spelled_counts : (body : List ℕ) (rows : ℕ) → 8 + 2 * rows ≤ length body → ((i : ℕ) → get_or body i 0 < 256) → flat_map (big_bytes 2) (map (row_count body) (range_with_len 0 rows)) ≡ take (2 * rows) (drop 8 body)
unfolding row_count
spelled_counts body rows within each =
    flat_map-map (big_bytes 2) (row_count body) (range_with_len 0 rows)
    ∙ pieces (λ r. big_bytes 2 (row_count body r)) 2 (drop 8 body) rows
    (λ r lt.
    written_again (8 + 2 * r) 2 body (omega arith) each
    ∙ ap (λ (ys : List ℕ). take 2 ys) (sym (drop-drop (2 * r) 8 body)))

-- a body is spelled by what it says
pub spelled_reply : (p : Parameters) (body counts : List ℕ) (cts : List (List (List ℕ))) → IsReply p body → ((i : ℕ) → get_or body i 0 < 256) → counts ≡ reply_counts p body → cts ≡ reply_ciphertexts p body → reply_bytes p counts cts ≡ body
unfolding reply_bytes reply_counts reply_ciphertexts
spelled_reply p body counts cts r each counts-are cts-are =
    let numbers : flat_map (big_bytes 2) counts ≡ take (2 * p.rows) (drop 8 body) = ap (flat_map (big_bytes 2)) counts-are ∙ spelled_counts body p.rows r.head.room each in
    let text : ciphertexts_bytes cts ≡ drop (2 * p.rows) (drop 8 body) =
    ap ciphertexts_bytes cts-are
    ∙ spelled_ciphertexts (drop (reply_head p) body) (reply_planes p (reply_counts p body)) (AreCiphertexts-reply p body r) (bytes_from (reply_head p) body each)
    ∙ sym (drop-drop (2 * p.rows) 8 body) in
    (λ i. sym r.head.header i ++ numbers i ++ text i)
    ∙ append_assoc (take 8 body) (take (2 * p.rows) (drop 8 body)) (drop (2 * p.rows) (drop 8 body))
    ∙ ap (λ (ys : List ℕ). take 8 body ++ ys) (take-append-drop (2 * p.rows) (drop 8 body))
    ∙ take-append-drop 8 body

-- ---- what was written

-- behind the numbers stand the ciphertexts
behind_numbers : (p : Parameters) (counts : List ℕ) (rest : List ℕ) → length counts ≡ p.rows → drop (reply_head p) (parameter_bytes p ++ flat_map (big_bytes 2) counts ++ rest) ≡ rest
behind_numbers p counts rest rows =
    let long = length-pieces (big_bytes 2) 2 counts 0 (λ j within. length-bytes_high_first 2 (get_or counts j 0)) in
    let e : 2 * p.rows ≡ length (flat_map (big_bytes 2) counts) = omega (arith, long, rows) in
    sym (drop-drop (2 * p.rows) 8 (parameter_bytes p ++ flat_map (big_bytes 2) counts ++ rest))
    ∙ ap (λ (n : ℕ). drop n (flat_map (big_bytes 2) counts ++ rest)) e
    ∙ drop-append_seam (flat_map (big_bytes 2) counts) rest

count_written : (p : Parameters) (counts rest : List ℕ) (r : ℕ) → r < length counts → get_or counts r 0 < 65536 → row_count (parameter_bytes p ++ flat_map (big_bytes 2) counts ++ rest) r ≡ get_or counts r 0
unfolding row_count
count_written p counts rest r lt small =
    let piece = piece_at (big_bytes 2) 2 counts 0 r rest (λ j within. length-bytes_high_first 2 (get_or counts j 0)) lt in
    ap (λ (ys : List ℕ). big_number 2 ys) (sym (drop-drop (2 * r) 8 (parameter_bytes p ++ flat_map (big_bytes 2) counts ++ rest)) ∙ piece.1)
    ∙ big_number-reads_back 2 (get_or counts r 0) piece.0 small

pub counts_back : (p : Parameters) (counts : List ℕ) (cts : List (List (List ℕ))) → length counts ≡ p.rows → ((i : ℕ) → get_or counts i 0 < 65536) → reply_counts p (reply_bytes p counts cts) ≡ counts
unfolding reply_counts reply_bytes
counts_back p counts cts rows small =
    sym (fill_by_all (row_count (parameter_bytes p ++ flat_map (big_bytes 2) counts ++ ciphertexts_bytes cts)) counts p.rows 0 rows
    (λ r lt. sym (count_written p counts (ciphertexts_bytes cts) r (omega (arith, rows)) (small r))))

behind_written : (p : Parameters) (counts : List ℕ) (cts : List (List (List ℕ))) → length counts ≡ p.rows → drop (reply_head p) (reply_bytes p counts cts) ≡ ciphertexts_bytes cts
unfolding reply_bytes
behind_written p counts cts rows = behind_numbers p counts (ciphertexts_bytes cts) rows

length-reply : (p : Parameters) (counts : List ℕ) (cts : List (List (List ℕ))) → length counts ≡ p.rows → All IsCiphertext cts → length (reply_bytes p counts cts) ≡ reply_head p + 81920 * length cts
unfolding reply_bytes
length-reply p counts cts rows each =
    let numbers = length-pieces (big_bytes 2) 2 counts 0 (λ j within. length-bytes_high_first 2 (get_or counts j 0)) in
    let text : length (ciphertexts_bytes cts) ≡ 81920 * length cts = (AreCiphertexts-written cts each).size in
    omega (arith, length-append (flat_map (big_bytes 2) counts) (ciphertexts_bytes cts), numbers, text, rows)

header-reply : (p : Parameters) (counts : List ℕ) (cts : List (List (List ℕ))) → take 8 (reply_bytes p counts cts) ≡ parameter_bytes p
unfolding reply_bytes
header-reply p counts cts = refl

-- it is a reply
pub IsReply-written : (p : Parameters) (counts : List ℕ) (cts : List (List (List ℕ))) → length counts ≡ p.rows → ((i : ℕ) → get_or counts i 0 < 65536) → length cts ≡ reply_planes p counts → All IsCiphertext cts → IsReply p (reply_bytes p counts cts)
IsReply-written p counts cts rows small planes each =
    let body = reply_bytes p counts cts in
    let long = length-reply p counts cts rows each in
    let number : length cts ≡ reply_planes p (reply_counts p body) = planes ∙ ap (reply_planes p) (sym (counts_back p counts cts rows small)) in
    let are : AreCiphertexts (drop (reply_head p) body) (reply_planes p (reply_counts p body)) =
    subst (λ (n : ℕ). AreCiphertexts (drop (reply_head p) body) n) number (subst (λ (ys : List ℕ). AreCiphertexts ys (length cts)) (sym (behind_written p counts cts rows)) (AreCiphertexts-written cts each)) in
    record {
      head = record {
        room = subst (λ (n : ℕ). reply_head p ≤ n) (sym long) (omega arith);
        header = header-reply p counts cts;
        size = long ∙ ap (λ (n : ℕ). reply_head p + 81920 * n) number;
      };
      fit = are.fit;
    }

-- and its ciphertexts are those that were written
pub reply_read_back : (p : Parameters) (counts : List ℕ) (cts : List (List (List ℕ))) → length counts ≡ p.rows → ((i : ℕ) → get_or counts i 0 < 65536) → length cts ≡ reply_planes p counts → All IsCiphertext cts → reply_ciphertexts p (reply_bytes p counts cts) ≡ cts
unfolding reply_ciphertexts
reply_read_back p counts cts rows small planes each =
    let number : reply_planes p (reply_counts p (reply_bytes p counts cts)) ≡ length cts = ap (reply_planes p) (counts_back p counts cts rows small) ∙ sym planes in
    (λ i. ciphertexts_in (behind_written p counts cts rows i) (number i)) ∙ read_back cts each

pub reply_bytes-is : (p : Parameters) (counts : List ℕ) (cts : List (List (List ℕ))) → (parameter_bytes p ++ flat_map (big_bytes 2) counts) ++ ciphertexts_bytes cts ≡ reply_bytes p counts cts
unfolding reply_bytes
reply_bytes-is p counts cts = refl

-- ---- how many

-- each number is below 2^16
pub few_bundles : (counts : List ℕ) → ((i : ℕ) → get_or counts i 0 < 65536) → sum counts ≤ 65535 * length counts
few_bundles [] small = omega arith
few_bundles (n ∷ counts) small =
    let here = small 0 in
    let later = few_bundles counts (λ i. small (suc i)) in
    omega (arith, sum_by-cons (λ x. x) n counts, here, later)

pub few_planes : (p : Parameters) (counts : List ℕ) → p.units ≤ 4 → p.rows ≤ 4 → length counts ≡ p.rows → ((i : ℕ) → get_or counts i 0 < 65536) → reply_planes p counts ≤ 1310700
few_planes p counts units rows number small =
    let bundles = few_bundles counts small in
    let most : sum counts ≤ 262140 = omega (arith, bundles, rows, number) in
    let planes : (1 + p.units) * sum counts ≤ 5 * 262140 = mul-le (1 + p.units) (sum counts) 5 262140 (omega (arith, units)) most in
    planes
