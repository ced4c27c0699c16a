-- The ciphertexts of the reply to a query: each is the evaluation of a plane of a bundle at the query's powers.
use Rattle.std.proofs.Common.{◌≡◌, ℕ, ◌+◌, ◌*◌, ◌<◌, List, [], length, get_or, take, ap, subst, ◌∙◌, sym, arith}
use Rattle.std.specs.List.{All, AllByRecursion, flat_map, range_with_len, sum}
use Rattle.std.proofs.lemmas.List.{get_or-map, length-map}
use Rattle.std.proofs.lemmas.List.Elements.{All-from_recursion}
use Rattle.std.proofs.lemmas.List.FromFn.{get_or-map-range_with_len, length-map-range_with_len}
use Rattle.std.proofs.lemmas.List.Sums.{sum_by_more_le}
use Rattle.std.proofs.lemmas.Nat.{mul-add-lt}
use Rattle.psi_residue.specs.Ciphertexts.{IsCiphertext}
use Rattle.psi_residue.specs.Parameters.{Parameters}
use Rattle.bfv_core.proofs.LedgerEvaluations.{evaluated-ciphertext}
use Rattle.psi_bundle.specs.Bodies.{bundle_counts, evaluated_bundle, evaluated_plane, evaluated_rows}
use Rattle.psi_bundle.specs.Planes.{planes_of_bundle}
use Rattle.psi_bundle.specs.Versions.{Row, Stamped, row_at, bins_at}
use Rattle.psi_receiver.proofs.Lists.{by_bundle, length-by_bundle, bundle-at, all-by_bundle, all-mapped, joined-by_bundle, block-at, length-blocks, all-blocks}

-- ---- the ciphertexts of all planes, a block for each bundle

abbrev block_of : Parameters → List (List (List ℕ)) → ℕ → Stamped → List (List (List ℕ))
block_of p query r u = evaluated_bundle p query r u.bins

blocks-are : (p : Parameters) (rows : List Row) (query : List (List (List ℕ))) → evaluated_rows p rows query ≡ flat_map (λ b. b) (by_bundle (block_of p query) 0 rows)
unfolding evaluated_rows
blocks-are p rows query = sym (joined-by_bundle (block_of p query) 0 rows)

block-size : (p : Parameters) (rows : List Row) (query : List (List (List ℕ))) → AllByRecursion (λ b. length b ≡ planes_of_bundle p) (by_bundle (block_of p query) 0 rows)
block-size p rows query =
    all-by_bundle (λ b. length b ≡ planes_of_bundle p) (block_of p query) 0 rows (λ r u. length-map-range_with_len (evaluated_plane p query r u.bins) 0 (planes_of_bundle p))

pub length-evaluated : (p : Parameters) (rows : List Row) (query : List (List (List ℕ))) → length (evaluated_rows p rows query) ≡ planes_of_bundle p * sum (bundle_counts rows)
length-evaluated p rows query =
    ap length (blocks-are p rows query)
    ∙ length-blocks (planes_of_bundle p) (by_bundle (block_of p query) 0 rows) (block-size p rows query)
    ∙ ap (λ (n : ℕ). planes_of_bundle p * n) (length-by_bundle (block_of p query) 0 rows)

pub all-evaluated : (p : Parameters) (rows : List Row) (query : List (List (List ℕ))) → All IsCiphertext (evaluated_rows p rows query)
all-evaluated p rows query =
    All-from_recursion IsCiphertext (evaluated_rows p rows query)
    (subst (AllByRecursion IsCiphertext) (sym (blocks-are p rows query))
    (all-blocks IsCiphertext (by_bundle (block_of p query) 0 rows)
    (all-by_bundle (AllByRecursion IsCiphertext) (block_of p query) 0 rows
    (λ r u. all-mapped IsCiphertext (evaluated_plane p query r u.bins) (range_with_len 0 (planes_of_bundle p)) (λ plane. evaluated-ciphertext _ _ _)))))

-- the number of a bundle, and of one of its planes
bundle-within : (rows : List Row) (r u : ℕ) → r < length rows → u < length (row_at rows r) → sum (take r (bundle_counts rows)) + u < sum (bundle_counts rows)
bundle-within rows r u lt within =
    let part = sum_by_more_le (λ (n : ℕ). n) (bundle_counts rows) r 0 (omega (arith, lt, length-map rows (λ (row : Row). length row))) in
    let counted : get_or (bundle_counts rows) r 0 ≡ length (row_at rows r) = get_or-map (λ (row : Row). length row) rows r [] 0 lt in
    omega (arith, part, counted, within)

pub plane-within : (p : Parameters) (rows : List Row) (query : List (List (List ℕ))) (r u plane : ℕ) → r < length rows → u < length (row_at rows r) → plane < planes_of_bundle p
    → (sum (take r (bundle_counts rows)) + u) * planes_of_bundle p + plane < length (evaluated_rows p rows query)
plane-within p rows query r u plane lt within few =
    let size = length-evaluated p rows query in
    omega (arith, size, mul-add-lt (sum (take r (bundle_counts rows)) + u) (planes_of_bundle p) plane (sum (bundle_counts rows)) (bundle-within rows r u lt within) few)

-- the ciphertext of one plane of bundle u of row r
pub evaluated-at : (p : Parameters) (rows : List Row) (query : List (List (List ℕ))) (r u plane : ℕ) → r < length rows → u < length (row_at rows r) → plane < planes_of_bundle p
    → get_or (evaluated_rows p rows query) ((sum (take r (bundle_counts rows)) + u) * planes_of_bundle p + plane) [] ≡ evaluated_plane p query r (bins_at (row_at rows r) u) plane
evaluated-at p rows query r u plane lt within few =
    ap (λ (xs : List (List (List ℕ))). get_or xs ((sum (take r (bundle_counts rows)) + u) * planes_of_bundle p + plane) []) (blocks-are p rows query)
    ∙ block-at (planes_of_bundle p) (by_bundle (block_of p query) 0 rows) (sum (take r (bundle_counts rows)) + u) plane [] (block-size p rows query) inside few
    ∙ ap (λ (b : List (List (List ℕ))). get_or b plane []) (bundle-at (block_of p query) 0 rows r u (record { stamp = 0; bins = [] }) [] lt within)
    ∙ get_or-map-range_with_len (evaluated_plane p query (0 + r) (bins_at (row_at rows r) u)) 0 (planes_of_bundle p) plane plane [] few (omega arith)
    ∙ ap (λ (k : ℕ). evaluated_plane p query k (bins_at (row_at rows r) u) plane) first
  where
    first : 0 + r ≡ r
    first = omega arith

    inside : sum (take r (bundle_counts rows)) + u < length (by_bundle (block_of p query) 0 rows)
    inside = let all = length-by_bundle (block_of p query) 0 rows in omega (arith, all, bundle-within rows r u lt within)
