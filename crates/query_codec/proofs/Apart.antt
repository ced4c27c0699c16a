-- Where a body ends is told by its own bytes.
use Rattle.std.proofs.Common.{◌≡◌, ℕ, zero, suc, ◌+◌, ◌*◌, ◌≤◌, List, [], ◌∷◌, ◌++◌, length, map, drop, refl, ap, ◌∙◌, arith, length-append, length-drop}
use Rattle.std.specs.List.{range_with_len}
use Rattle.std.proofs.Math.ListN.{get_or-append}
use Rattle.std.proofs.lemmas.List.{drop-append-le, nil_from_length}
use Rattle.byteorder.specs.Endian.{big_from, big_number}
use Rattle.psi_residue.specs.Parameters.{Parameters}
use Rattle.query_codec.specs.Queries.{IsQuery}
use Rattle.query_codec.specs.Replies.{IsReply, row_count, reply_counts, reply_length}

-- a rest that adds no length is none
rest_none : (body rest : List ℕ) (n : ℕ) → length body ≡ n → length (body ++ rest) ≡ n → rest ≡ []
rest_none body rest n one both = nil_from_length rest (omega (arith, one, both, length-append body rest))

pub queries-apart : (p : Parameters) (body rest : List ℕ) → IsQuery p body → IsQuery p (body ++ rest) → rest ≡ []
queries-apart p body rest one both = rest_none body rest _ one.size both.size

-- a number of some bytes is the same with more bytes behind them
big_from-front : (i n : ℕ) (xs ys : List ℕ) → i + n ≤ length xs → big_from i n (xs ++ ys) ≡ big_from i n xs
big_from-front i zero xs ys le = refl
big_from-front i (suc n) xs ys le =
    let here = get_or-append xs ys 0 i (omega arith) in
    let rest = big_from-front (suc i) n xs ys (omega arith) in
    rw (here, rest) refl

row_count-front : (body rest : List ℕ) (r : ℕ) → 8 + 2 * r + 2 ≤ length body → row_count (body ++ rest) r ≡ row_count body r
unfolding row_count
row_count-front body rest r le =
    ap (big_number 2) (drop-append-le (8 + 2 * r) body rest (omega arith))
    ∙ big_from-front 0 2 (drop (8 + 2 * r) body) rest (omega (arith, length-drop (8 + 2 * r) body))

-- the numbers of rows from a on
counts_from : (body rest : List ℕ) (a n : ℕ) → 8 + 2 * (a + n) ≤ length body → map (row_count (body ++ rest)) (range_with_len a n) ≡ map (row_count body) (range_with_len a n)
counts_from body rest a zero le = refl
counts_from body rest a (suc n) le =
    let here = row_count-front body rest a (omega arith) in
    let more = counts_from body rest (a + 1) n (omega arith) in
    λ i. here i ∷ more i

counts-front : (p : Parameters) (body rest : List ℕ) → 8 + 2 * p.rows ≤ length body → reply_counts p (body ++ rest) ≡ reply_counts p body
unfolding reply_counts
counts-front p body rest le = counts_from body rest 0 p.rows (omega (arith, le))

pub replies-apart : (p : Parameters) (body rest : List ℕ) → IsReply p body → IsReply p (body ++ rest) → rest ≡ []
replies-apart p body rest one both =
    rest_none body rest (reply_length p (reply_counts p body)) one.head.size (both.head.size ∙ ap (reply_length p) (counts-front p body rest one.head.room))
