-- What the opened planes of a bundle give.
use Rattle.std.proofs.Common.{◌≡◌, ℕ, ◌+◌, ◌*◌, ◌/◌, ◌%◌, ◌<◌, ◌≤◌, Bool, List, [], ◌∷◌, ◌++◌, length, get_or, map, take, drop, ap, ◌∙◌, sym, arith, length-drop}
use Rattle.std.specs.Prelude.{nat_eq}
use Rattle.std.specs.Int.{bytes_high_first}
use Rattle.std.specs.List.{flat_map, list_all, range_with_len, sum}
use Rattle.std.proofs.lemmas.Grind.{flat_map-append}
use Rattle.std.proofs.lemmas.List.{append-nil, get_or-drop, get_or-take}
use Rattle.std.proofs.lemmas.List.Folds.{flat_map-map}
use Rattle.std.proofs.lemmas.List.FromFn.{fill_by_all, length-map-range_with_len}
use Rattle.std.proofs.lemmas.List.Sums.{sum_by_more_le}
use Rattle.std.proofs.lemmas.Nat.{mul-le}
use Rattle.byteorder.specs.Numbers.{length-bytes_high_first}
use Rattle.psi_residue.specs.Parameters.{Parameters}
use Rattle.item_slots.specs.Tags.{parts}
use Rattle.query_codec.specs.Ciphertexts.{ciphertext_in, ciphertexts_in}
use Rattle.query_codec.specs.Replies.{row_count, reply_counts, reply_ciphertexts}
use Rattle.query_codec.proofs.Pieces.{length-pieces}
use Rattle.psi_bundle.specs.Planes.{planes_of_bundle}
use Rattle.psi_receiver.specs.Openings.{OpenedReply, opened_value, opens_in, opened_label, value_in}
use Rattle.psi_receiver.proofs.Steps.{range-more}

-- one number more
pub flat-more : (f : ℕ → List ℕ) (n : ℕ) → flat_map f (range_with_len 0 (n + 1)) ≡ flat_map f (range_with_len 0 n) ++ f n
flat-more f n =
    let first : 0 + n ≡ n = omega arith in
    ap (flat_map f) (range-more 0 n ∙ ap (λ (k : ℕ). range_with_len 0 n ++ k ∷ []) first)
    ∙ flat_map-append f (range_with_len 0 n) (n ∷ [])
    ∙ ap (λ (xs : List ℕ). flat_map f (range_with_len 0 n) ++ xs) (append-nil (f n))

-- the bytes of a label unit
abbrev pub unit_bytes : (bin : ℕ) → List ℕ → List ℕ
unit_bytes bin slots = flat_map (λ part. bytes_high_first 2 (value_in slots bin part % 65536)) parts

-- ten for each unit
pub length-units : (bin : ℕ) (units : List (List ℕ)) → length (flat_map (unit_bytes bin) units) ≡ 10 * length units
length-units bin units =
    length-pieces (unit_bytes bin) 10 units []
    (λ j lt. length-pieces (λ part. bytes_high_first 2 (value_in (get_or units j []) bin part % 65536)) 2 parts 0 (λ k within. length-bytes_high_first 2 (value_in (get_or units j []) bin (get_or parts k 0) % 65536)))

-- a bundle of an item's row is one of the reply's
pub bundle-last : (counts : List ℕ) (position u n : ℕ) → position < 819 * length counts → u < get_or counts (position / 819) 0 → n ≡ sum (take (position / 819) counts) + u → n + 1 ≤ sum counts
bundle-last counts position u n within below number =
    let part = sum_by_more_le (λ (k : ℕ). k) counts (position / 819) 0 (omega arith) in
    omega (arith, part, below, number)

pub planes-within : (counts : List ℕ) (planes : List (List ℕ)) (n units : ℕ) → n + 1 ≤ sum counts → length planes ≡ (1 + units) * sum counts → (n + 1) * (1 + units) ≤ length planes
planes-within counts planes n units le whole =
    let part : (n + 1) * (1 + units) ≤ sum counts * (1 + units) = mul-le (n + 1) (1 + units) (sum counts) (1 + units) le (omega arith) in
    omega (arith, part, whole)

-- one plane of a bundle
plane-of : (planes own : List (List ℕ)) (n size j : ℕ) → own ≡ take size (drop (n * size) planes) → j < size → get_or own j [] ≡ get_or planes (n * size + j) []
plane-of planes own n size j e lt = ap (λ (xs : List (List ℕ)). get_or xs j []) e ∙ get_or-take size (drop (n * size) planes) j [] lt ∙ get_or-drop (n * size) planes j []

-- the bundle of an item opens where its root plane says so
pub opens-told : (reply : OpenedReply) (position u : ℕ) (own : List (List ℕ)) (root : List ℕ) (n bin : ℕ) (b : Bool)
    → n ≡ sum (take (position / 819) reply.counts) + u → own ≡ take (planes_of_bundle reply.parameters) (drop (n * planes_of_bundle reply.parameters) reply.planes)
    → root ≡ get_or own 0 [] → bin ≡ position % 819 → b ≡ list_all (λ part. nat_eq (value_in root bin part) 0) parts → opens_in reply position u ≡ b
unfolding opens_in opened_value
opens-told reply position u own root n bin b number own-is root-is bin-is told =
    sym (told
    ∙ (λ i. list_all (λ part. nat_eq (value_in (root-is i) (bin-is i) part) 0) parts)
    ∙ ap (λ (slots : List ℕ). list_all (λ part. nat_eq (value_in slots (position % 819) part) 0) parts)
    (plane-of reply.planes own n (planes_of_bundle reply.parameters) 0 own-is (omega arith)
    ∙ ap (λ (k : ℕ). get_or reply.planes (k * planes_of_bundle reply.parameters + 0) []) number))

-- and its label is that of the planes behind it
pub label-told : (reply : OpenedReply) (position u : ℕ) (own units : List (List ℕ)) (n bin : ℕ) (label : List ℕ)
    → n ≡ sum (take (position / 819) reply.counts) + u → own ≡ take (planes_of_bundle reply.parameters) (drop (n * planes_of_bundle reply.parameters) reply.planes)
    → length own ≡ planes_of_bundle reply.parameters → units ≡ drop 1 own → bin ≡ position % 819 → label ≡ flat_map (unit_bytes bin) units → label ≡ opened_label reply position u
unfolding opened_label opened_value
label-told reply position u own units n bin label number own-is size units-are bin-is told =
    told
    ∙ (λ i. flat_map (unit_bytes (bin-is i)) ((units-are ∙ behind) i))
    ∙ flat_map-map (unit_bytes (position % 819)) plane (range_with_len 0 reply.parameters.units)
    ∙ ap (λ (k : ℕ). flat_map (λ unit. unit_bytes (position % 819) (get_or reply.planes (k * planes_of_bundle reply.parameters + (unit + 1)) [])) (range_with_len 0 reply.parameters.units)) number
  where
    plane : ℕ → List ℕ
    plane unit = get_or reply.planes (n * planes_of_bundle reply.parameters + (unit + 1)) []

    next : (k : ℕ) → 1 + k ≡ k + 1
    next k = omega arith

    behind : drop 1 own ≡ map (λ unit. get_or reply.planes (n * planes_of_bundle reply.parameters + (unit + 1)) []) (range_with_len 0 reply.parameters.units)
    behind =
        fill_by_all (λ unit. get_or reply.planes (n * planes_of_bundle reply.parameters + (unit + 1)) []) (drop 1 own) reply.parameters.units [] (omega (arith, length-drop 1 own, size))
        (λ k lt. get_or-drop 1 own k [] ∙ ap (λ (j : ℕ). get_or own j []) (next k) ∙ plane-of reply.planes own n (planes_of_bundle reply.parameters) (k + 1) own-is (omega arith))

-- ---- the lists of a reply

pub length-reply_counts : (p : Parameters) (body : List ℕ) → length (reply_counts p body) ≡ p.rows
unfolding reply_counts
length-reply_counts p body = length-map-range_with_len (row_count body) 0 p.rows

pub length-reply_ciphertexts : (p : Parameters) (body : List ℕ) → length (reply_ciphertexts p body) ≡ planes_of_bundle p * sum (reply_counts p body)
unfolding reply_ciphertexts ciphertexts_in
length-reply_ciphertexts p body = length-map-range_with_len (ciphertext_in (drop (8 + 2 * p.rows) body)) 0 (planes_of_bundle p * sum (reply_counts p body))
