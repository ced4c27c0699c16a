-- The ciphertexts of a reply, taken by row and bundle.
use Rattle.std.specs.Prelude.{◌≡◌, ℕ, ◌+◌, ◌*◌, ◌≤◌, ◌<◌, List, [], ◌∷◌, ◌++◌, length, take, get_or}
use Rattle.std.specs.List.{flat_map, enumerate_from, sum}
use Rattle.std.proofs.Common.{refl, sym, ap, ◌∙◌, arith, length-append}
use Rattle.std.proofs.lemmas.List.{length-take-le, map-append, take_more, flat_map_more}
use Rattle.std.proofs.lemmas.List.Sums.{sum_by-cons}
use Rattle.std.proofs.lemmas.List.FromFn.{length-map-range_with_len}
use Rattle.psi_residue.specs.Parameters.{Parameters}
use Rattle.psi_bundle.specs.Bodies.{bundle_counts, evaluated_bundle, evaluated_plane, evaluated_row, evaluated_rows}
use Rattle.psi_bundle.specs.Planes.{planes_of_bundle}
use Rattle.psi_bundle.specs.Versions.{Row, Stamped, row_at}
use Rattle.query_codec.specs.Replies.{IsReply, reply_planes, reply_body, reply_bytes, reply_counts, reply_length}
use Rattle.query_pool.specs.Rounds.{longest_body}

-- ---- bundle by bundle

pub row-more : (p : Parameters) (query : List (List (List ℕ))) (r i : ℕ) (row : Row) (u : Stamped) (cts : List (List (List ℕ))) → i < length row
    → (cts ++ evaluated_row p query r (take i row)) ++ evaluated_bundle p query r (get_or row i u).bins ≡ cts ++ evaluated_row p query r (take (i + 1) row)
row-more p query r i row u cts lt =
    flat_map_more (λ (v : Stamped). evaluated_bundle p query r v.bins) cts (take i row) (get_or row i u)
    ∙ ap (λ (us : Row). cts ++ evaluated_row p query r us) (sym (take_more row i u lt))

-- ---- row by row

numbered-more : (n : ℕ) (rows : List Row) (row : Row) → enumerate_from n (rows ++ row ∷ []) ≡ enumerate_from n rows ++ (n + length rows, row) ∷ []
numbered-more n [] row = ap (λ (k : ℕ). (k, row) ∷ []) (omega arith)
numbered-more n (x ∷ rows) row = ap (λ (es : List (ℕ × Row)). (n, x) ∷ es) (numbered-more (n + 1) rows row ∙ ap (λ (k : ℕ). enumerate_from (n + 1) rows ++ (k, row) ∷ []) (omega arith))

pub rows-none : (p : Parameters) (query : List (List (List ℕ))) → evaluated_rows p [] query ≡ []
unfolding evaluated_rows
rows-none p query = refl

rows-push : (p : Parameters) (query : List (List (List ℕ))) (rows : List Row) (row : Row) → evaluated_rows p (rows ++ row ∷ []) query ≡ evaluated_rows p rows query ++ evaluated_row p query (length rows) row
unfolding evaluated_rows
rows-push p query rows row =
    ap (λ (es : List (ℕ × Row)). flat_map (λ e. evaluated_row p query e.0 e.1) es) (numbered-more 0 rows row)
    ∙ sym (flat_map_more {X = ℕ × Row} (λ e. evaluated_row p query e.0 e.1) [] (enumerate_from 0 rows) (0 + length rows, row))
    ∙ ap (λ (n : ℕ). flat_map (λ e. evaluated_row p query e.0 e.1) (enumerate_from 0 rows) ++ evaluated_row p query n row) (omega arith)

pub rows-more : (p : Parameters) (query : List (List (List ℕ))) (rows : List Row) (r : ℕ) → r < length rows
    → evaluated_rows p (take r rows) query ++ evaluated_row p query r (row_at rows r) ≡ evaluated_rows p (take (r + 1) rows) query
rows-more p query rows r lt =
    let size : length (take r rows) ≡ r = length-take-le r rows (omega arith) in
    ap (λ (n : ℕ). evaluated_rows p (take r rows) query ++ evaluated_row p query n (row_at rows r)) (sym size)
    ∙ sym (rows-push p query (take r rows) (row_at rows r)) ∙ ap (λ (rs : List Row). evaluated_rows p rs query) (sym (take_more rows r [] lt))

pub counts-more : (rows : List Row) (r n : ℕ) → r < length rows → n ≡ length (row_at rows r) → bundle_counts (take r rows) ++ n ∷ [] ≡ bundle_counts (take (r + 1) rows)
counts-more rows r n lt is =
    ap (λ (k : ℕ). bundle_counts (take r rows) ++ k ∷ []) is
    ∙ sym (map-append (λ (row : Row). length row) (take r rows) (row_at rows r ∷ [])) ∙ ap (λ (rs : List Row). bundle_counts rs) (sym (take_more rows r [] lt))

-- ---- how many there are

length-row : (p : Parameters) (query : List (List (List ℕ))) (r : ℕ) (row : Row) → length (evaluated_row p query r row) ≡ planes_of_bundle p * length row
length-row p query r [] = omega arith
length-row p query r (u ∷ row) =
    let here : length (evaluated_bundle p query r u.bins) ≡ planes_of_bundle p = length-map-range_with_len (evaluated_plane p query r u.bins) 0 (planes_of_bundle p) in
    let rest = length-row p query r row in
    length-append (evaluated_bundle p query r u.bins) (evaluated_row p query r row) ∙ omega (arith, here, rest)

length-from : (p : Parameters) (query : List (List (List ℕ))) (n : ℕ) (rows : List Row)
    → length (flat_map (λ e. evaluated_row p query e.0 e.1) (enumerate_from n rows)) ≡ planes_of_bundle p * sum (bundle_counts rows)
length-from p query n [] = omega arith
length-from p query n (row ∷ rows) =
    let here = length-row p query n row in
    let rest = length-from p query (n + 1) rows in
    let count = ap (λ (m : ℕ). planes_of_bundle p * m) (sum_by-cons (λ (m : ℕ). m) (length row) (bundle_counts rows)) in
    length-append (evaluated_row p query n row) (flat_map (λ e. evaluated_row p query e.0 e.1) (enumerate_from (n + 1) rows)) ∙ omega (arith, here, rest, count)

pub length-evaluated : (p : Parameters) (query : List (List (List ℕ))) (rows : List Row) → length (evaluated_rows p rows query) ≡ reply_planes p (bundle_counts rows)
unfolding evaluated_rows
length-evaluated p query rows = length-from p query 0 rows

-- ---- the body

pub body-of : (p : Parameters) (rows : List Row) (query cts : List (List (List ℕ))) (counts : List ℕ) → counts ≡ bundle_counts rows → cts ≡ evaluated_rows p rows query → reply_bytes p counts cts ≡ reply_body p rows query
unfolding reply_body
body-of p rows query cts counts numbers evaluated = λ i. reply_bytes p (numbers i) (evaluated i)

-- it has 16 bytes at most, and 81920 for each plane
pub body-short : (p : Parameters) (body counts : List ℕ) → p.rows ≤ 4 → reply_planes p counts ≤ 64 → IsReply p body → reply_counts p body ≡ counts → length body ≤ longest_body
body-short p body counts rows few whole back =
    let size : length body ≡ reply_length p counts = whole.head.size ∙ ap (reply_length p) back in
    omega (arith, size, few, rows)
