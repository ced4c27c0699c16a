-- What the reply of a sound set opens to is what is found in its bundles.
use Rattle.std.proofs.Common.{◌≡◌, ℕ, zero, suc, ◌+◌, ◌*◌, ◌/◌, ◌%◌, ◌<◌, ◌≤◌, Bool, true, false, ◌&&◌, List, [], ◌∷◌, ◌++◌, length, get_or, map, take, drop, cond, refl, ap, subst, ◌∙◌, sym, inl, inr, arith}
use Rattle.std.specs.Prelude.{Some, nat_eq}
use Rattle.std.specs.List.{All, Contains, filter, find, flat_map, list_all, list_any, range_with_len, sum}
use Rattle.std.specs.Int.{bytes_high_first}
use Rattle.std.proofs.lemmas.Bool.{cases_lt, eq-eqb, ne_eqb}
use Rattle.std.proofs.lemmas.List.{length-map, get_or_past, get_or-map}
use Rattle.std.proofs.lemmas.List.Elements.{All-map}
use Rattle.std.proofs.lemmas.List.FromFn.{get_or-range_with_len, length-range_with_len}
use Rattle.std.proofs.lemmas.List.Sums.{sum_by_more_le}
use Rattle.psi_residue.specs.Interpolation.{interpolated}
use Rattle.psi_residue.specs.Numbers.{plain_modulus}
use Rattle.psi_residue.specs.Parameters.{Parameters}
use Rattle.psi_residue.specs.RootPolynomials.{root_value}
use Rattle.psi_residue.specs.Slots.{slot_of}
use Rattle.bin_poly.specs.Horner.{horner}
use Rattle.bin_poly.proofs.Products.{horner-product}
use Rattle.item_slots.specs.Tags.{parts, slot_value, positions_of}
use Rattle.item_slots.proofs.PositionLaws.{positions-below}
use Rattle.cuckoo_place.specs.Placements.{IsPlacement}
use Rattle.noise_ledger.specs.Verdicts.{ArePassed}
use Rattle.batching.proofs.Batches.{slot-slots_of}
use Rattle.bfv_core.specs.Encryptions.{opening}
use Rattle.bfv_core.specs.EncryptedLists.{key_of_seed}
use Rattle.psi_bundle.specs.declared.member.Member.{Member}
use Rattle.psi_bundle.specs.Bins.{bin_at, roots_of}
use Rattle.psi_bundle.specs.Bodies.{bundle_counts, evaluated_rows}
use Rattle.psi_bundle.specs.Histories.{AreBytes, HoldBytes}
use Rattle.psi_bundle.specs.Planes.{label_points, part_coefficient, planes_of_bundle}
use Rattle.psi_bundle.specs.Versions.{Row, Version, row_at, bins_at, IsSound, IsWithinLimits}
use Rattle.query_codec.specs.Replies.{reply_body}
use Rattle.query_codec.proofs.ReplyBodies.{counts_back, reply_read_back}
use Rattle.psi_receiver.specs.declared.placement.Placed.{Placed}
use Rattle.psi_receiver.specs.declared.found.Found.{Found}
use Rattle.psi_receiver.specs.Placements.{placed_tags, placed_item, position_sets}
use Rattle.psi_receiver.specs.Queries.{part_value, bin_value, encrypted_powers}
use Rattle.psi_receiver.specs.Openings.{OpenedReply, opened_reply, opened_value, opens_in, opened_label, opened_at, opened_item, opened, opened_slots}
use Rattle.psi_receiver.specs.Findings.{bin_in, has_roots, root_label, found_label, found_at, found_item, found}
use Rattle.psi_receiver.specs.Laws.{opened_from}
use Rattle.psi_receiver.proofs.Bins.{IsBin, HasRoot, bins-sound, root-found, roots-small, slot_value-small}
use Rattle.psi_receiver.proofs.Evaluated.{plane-value}
use Rattle.psi_receiver.proofs.Labels.{labels-same, part-bytes, root_label-is}
use Rattle.psi_receiver.proofs.Replies.{all-evaluated, evaluated-at, length-evaluated, plane-within}
use Rattle.psi_receiver.proofs.RootValues.{zero_at_roots}
use Rattle.psi_receiver.proofs.Strangers.{each_of_five}

-- the bins of rows are those of a sound version
abbrev AreBins : Parameters → List Row → Type 0
AreBins p rows = (r u b : ℕ) → IsBin p (bin_at (bins_at (row_at rows r) u) b)

-- a reply, by the rows of bundles that it is of
abbrev reply_by_rows : Parameters → (seed : List ℕ) → List Placed → List Row → OpenedReply
reply_by_rows p seed placed_tags rows =
    record { parameters = p; counts = bundle_counts rows; planes = map (opened_slots (key_of_seed seed)) (evaluated_rows p rows (encrypted_powers p seed placed_tags)) }

-- ---- one part of a bin

-- what the part of the bin of a position opens to, in one plane of a bundle
part-opened : (p : Parameters) (seed : List ℕ) (placed_tags : List Placed) (rows : List Row) (position u plane part : ℕ)
    → ArePassed p → length rows ≡ p.rows → position / 819 < p.rows → u < length (row_at rows (position / 819)) → plane < planes_of_bundle p → part < 5
    → opened_value (reply_by_rows p seed placed_tags rows) position u plane part ≡ horner (part_coefficient p (bin_in rows position u) plane part) (bin_value placed_tags position part) (suc p.capacity) 0 % plain_modulus
unfolding opened_value
part-opened p seed placed_tags rows position u plane part passed many lt within few small =
    ap (λ (slots : List ℕ). get_or slots (5 * (position % 819) + part) 0)
    (get_or-map (opened_slots (key_of_seed seed)) (evaluated_rows p rows query) number [] [] (plane-within p rows query (position / 819) u plane (omega (arith, many, lt)) within few))
    ∙ slot-slots_of (opening (key_of_seed seed) (get_or (evaluated_rows p rows query) number [])) (5 * (position % 819) + part) (omega arith)
    ∙ ap (λ (ct : List (List ℕ)). slot_of (opening (key_of_seed seed) ct) (5 * (position % 819) + part))
    (evaluated-at p rows query (position / 819) u plane (omega (arith, many, lt)) within few)
    ∙ plane-value p seed placed_tags (position / 819) plane (bins_at (row_at rows (position / 819)) u) (position % 819) part passed lt (omega arith) small
    ∙ ap (λ (q : ℕ). horner (part_coefficient p (bin_in rows position u) plane part) (bin_value placed_tags q part) (suc p.capacity) 0 % plain_modulus) whole
  where
    query : List (List (List ℕ))
    query = encrypted_powers p seed placed_tags

    number : ℕ
    number = (sum (take (position / 819) (bundle_counts rows)) + u) * planes_of_bundle p + plane

    whole : 819 * (position / 819) + position % 819 ≡ position
    whole = omega arith

-- ---- one bundle

each_part : (f g : ℕ → Bool) → ((j : ℕ) → j < 5 → f j ≡ g j) → list_all f parts ≡ list_all g parts
each_part f g h = λ i. h 0 (omega arith) i && (h 1 (omega arith) i && (h 2 (omega arith) i && (h 3 (omega arith) i && (h 4 (omega arith) i && true))))

-- An item that stands alone at its position opens in a bundle exactly where the bundle's bin has its slot values as roots.
opens-found : (p : Parameters) (seed : List ℕ) (placed_tags : List Placed) (rows : List Row) (x : Placed) (u : ℕ)
    → ArePassed p → length rows ≡ p.rows → x.position / 819 < p.rows → AreBins p rows → AreBytes x.tag
    → ((part : ℕ) → bin_value placed_tags x.position part ≡ slot_value x.tag part) → u < length (row_at rows (x.position / 819))
    → opens_in (reply_by_rows p seed placed_tags rows) x.position u ≡ has_roots (bin_in rows x.position u) x.tag
unfolding opens_in has_roots
opens-found p seed placed_tags rows x u passed many lt bins bytes alone within =
    each_part (λ part. nat_eq (opened_value (reply_by_rows p seed placed_tags rows) x.position u 0 part) 0) (λ part. list_any (nat_eq (slot_value x.tag part)) (roots_of bin part)) here
  where
    bin : List Member
    bin = bin_in rows x.position u

    h : IsBin p (bin_in rows x.position u)
    h = bins (x.position / 819) u (x.position % 819)

    here : (part : ℕ) → part < 5 → nat_eq (opened_value (reply_by_rows p seed placed_tags rows) x.position u 0 part) 0 ≡ list_any (nat_eq (slot_value x.tag part)) (roots_of (bin_in rows x.position u) part)
    here part few =
        let fits = h.fits in
        let size = length-map bin (λ (m : Member). slot_value m.tag part) in
        ap (λ (value : ℕ). nat_eq value 0)
        (part-opened p seed placed_tags rows x.position u 0 part passed many lt within (omega arith) few
        ∙ horner-product (roots_of bin part) (bin_value placed_tags x.position part) (suc p.capacity) (omega (arith, fits, size))
        ∙ ap (root_value (roots_of bin part)) (alone part))
        ∙ zero_at_roots (slot_value x.tag part) (slot_value-small x.tag part bytes) (roots_of bin part) (roots-small bin part h.tags)

-- And there its label opens.
label-found : (p : Parameters) (seed : List ℕ) (placed_tags : List Placed) (rows : List Row) (x : Placed) (u : ℕ)
    → ArePassed p → length rows ≡ p.rows → x.position / 819 < p.rows → AreBins p rows
    → ((part : ℕ) → bin_value placed_tags x.position part ≡ slot_value x.tag part) → u < length (row_at rows (x.position / 819))
    → has_roots (bin_in rows x.position u) x.tag ≡ true
    → opened_label (reply_by_rows p seed placed_tags rows) x.position u ≡ found_label p (bin_in rows x.position u) x.tag
unfolding opened_label found_label has_roots
label-found p seed placed_tags rows x u passed many lt bins alone within has =
    labels-same (λ unit part. bytes_high_first 2 (opened_value (reply_by_rows p seed placed_tags rows) x.position u (unit + 1) part % 65536))
    (λ unit part. take 2 (drop (2 * (5 * unit + part)) (root_label (bin_in rows x.position u) x.tag part))) p.units here
  where
    bin : List Member
    bin = bin_in rows x.position u

    root : (part : ℕ) → part < 5 → HasRoot (bin_in rows x.position u) (slot_value x.tag part) part
    root part few = root-found (slot_value x.tag part) part bin (each_of_five (λ j. list_any (nat_eq (slot_value x.tag j)) (roots_of bin j)) has part few)

    value : (unit part : ℕ) → unit < p.units → part < 5
        → opened_value (reply_by_rows p seed placed_tags rows) x.position u (unit + 1) part
        ≡ horner (interpolated (label_points (bin_in rows x.position u) part unit)) (slot_value x.tag part) (suc p.capacity) 0 % plain_modulus
    value unit part below few =
        let next : unit + 1 ≡ suc unit = omega arith in
        part-opened p seed placed_tags rows x.position u (unit + 1) part passed many lt within (omega arith) few
        ∙ ap (λ (plane : ℕ). horner (part_coefficient p bin plane part) (bin_value placed_tags x.position part) (suc p.capacity) 0 % plain_modulus) next
        ∙ ap (λ (v : ℕ). horner (interpolated (label_points bin part unit)) v (suc p.capacity) 0 % plain_modulus) (alone part)

    here : (unit part : ℕ) → unit < p.units → part < 5
        → bytes_high_first 2 (opened_value (reply_by_rows p seed placed_tags rows) x.position u (unit + 1) part % 65536)
        ≡ take 2 (drop (2 * (5 * unit + part)) (root_label (bin_in rows x.position u) x.tag part))
    here unit part below few =
        part-bytes p bin part unit (slot_value x.tag part) (opened_value (reply_by_rows p seed placed_tags rows) x.position u (unit + 1) part) (bins (x.position / 819) u (x.position % 819)) few below (root part few)
        (value unit part below few)
        ∙ ap (λ (label : List ℕ). take 2 (drop (2 * (5 * unit + part)) label)) (sym (root_label-is bin x.tag part (root part few)))

-- ---- one item

-- what passes two tests that agree, with values that agree where they pass
kept_same : (b c : Bool) (x y : Found) (xs ys : List Found) (us vs : List ℕ) → b ≡ c → (c ≡ true → x ≡ y) → xs ≡ ys → (f g : ℕ → Found) (u : ℕ) → f u ≡ x → g u ≡ y → map f us ≡ xs → map g vs ≡ ys
    → map f (cond b (u ∷ us) us) ≡ map g (cond c (u ∷ vs) vs)
kept_same true true x y xs ys us vs e here rest f g u fu gu fus gus = λ i. (fu ∙ here refl ∙ sym gu) i ∷ (fus ∙ rest ∙ sym gus) i
kept_same true false x y xs ys us vs e here rest f g u fu gu fus gus = absurd cc
kept_same false true x y xs ys us vs e here rest f g u fu gu fus gus = absurd cc
kept_same false false x y xs ys us vs e here rest f g u fu gu fus gus = fus ∙ rest ∙ sym gus

made_same : (test other : ℕ → Bool) (f g : ℕ → Found) (a n : ℕ) → ((u : ℕ) → a ≤ u → u < a + n → test u ≡ other u) → ((u : ℕ) → a ≤ u → u < a + n → other u ≡ true → f u ≡ g u)
    → map f (filter test (range_with_len a n)) ≡ map g (filter other (range_with_len a n))
made_same test other f g a zero tests values = λ i. []
made_same test other f g a (suc n) tests values =
    kept_same (test a) (other a) (f a) (g a) _ _ (filter test (range_with_len (a + 1) n)) (filter other (range_with_len (a + 1) n)) (tests a (omega arith) (omega arith)) (values a (omega arith) (omega arith))
    (made_same test other f g (a + 1) n (λ u low high. tests u (omega arith) (omega arith)) (λ u low high. values u (omega arith) (omega arith))) f g a refl refl refl refl

item-found : (p : Parameters) (seed : List ℕ) (placed_tags : List Placed) (rows : List Row) (x : Placed)
    → ArePassed p → length rows ≡ p.rows → x.position / 819 < p.rows → AreBins p rows → AreBytes x.tag
    → ((part : ℕ) → bin_value placed_tags x.position part ≡ slot_value x.tag part)
    → opened_item (reply_by_rows p seed placed_tags rows) x ≡ found_item p rows x
unfolding opened_item found_item
item-found p seed placed_tags rows x passed many lt bins bytes alone =
    ap (λ (n : ℕ). map (opened_at reply x) (filter (opens_in reply x.position) (range_with_len 0 n))) (get_or-map (λ (row : Row). length row) rows (x.position / 819) [] 0 (omega (arith, many, lt)))
    ∙ made_same (opens_in reply x.position) (λ u. has_roots (bin_in rows x.position u) x.tag) (opened_at reply x) (found_at p rows x) 0 (length (row_at rows (x.position / 819)))
    (λ u low high. opens-found p seed placed_tags rows x u passed many lt bins bytes alone (omega arith))
    (λ u low high has i. record { item = x.item; bundle = u; label = label-found p seed placed_tags rows x u passed many lt bins alone (omega arith) has i })
  where
    reply : OpenedReply
    reply = reply_by_rows p seed placed_tags rows

-- ---- the reply's body

pub small-counts : (p : Parameters) (rows : List Row) (i : ℕ) → IsWithinLimits p rows → get_or (bundle_counts rows) i 0 < 65536
small-counts p rows i limits =
    elim (cases_lt i (length (bundle_counts rows))) [
      | inl lt ↦
          let part = sum_by_more_le (λ (n : ℕ). n) (bundle_counts rows) i 0 lt in
          let whole : sum (bundle_counts rows) ≤ 64 = few (sum (bundle_counts rows)) p.units limits.0 in
          omega (arith, part, whole)
      | inr le ↦ rw (get_or_past (bundle_counts rows) i 0 le) (omega arith)
    ]
  where
    few : (n m : ℕ) → n * (1 + m) ≤ 64 → n ≤ 64
    few n m le = omega (arith, le)

reply-read : (p : Parameters) (seed : List ℕ) (placed_tags : List Placed) (rows : List Row) → length rows ≡ p.rows → IsWithinLimits p rows
    → opened_reply p seed (reply_body p rows (encrypted_powers p seed placed_tags)) ≡ reply_by_rows p seed placed_tags rows
unfolding reply_body
reply-read p seed placed_tags rows many limits =
    λ i. record {
      parameters = p;
      counts = counts_back p (bundle_counts rows) cts each_row small i;
      planes = map (opened_slots (key_of_seed seed)) (reply_read_back p (bundle_counts rows) cts each_row small (length-evaluated p rows query) (all-evaluated p rows query) i);
    }
  where
    query : List (List (List ℕ))
    query = encrypted_powers p seed placed_tags

    cts : List (List (List ℕ))
    cts = evaluated_rows p rows (encrypted_powers p seed placed_tags)

    each_row : length (bundle_counts rows) ≡ p.rows
    each_row = length-map rows (λ (row : Row). length row) ∙ many

    small : (i : ℕ) → get_or (bundle_counts rows) i 0 < 65536
    small i = small-counts p rows i limits

-- ---- placed tags

find-placed : (f : ℕ → Placed) (test : Placed → Bool) (a n i : ℕ) → i < n → ((k : ℕ) → a ≤ k → k < a + i → test (f k) ≡ false) → test (f (a + i)) ≡ true → find test (map f (range_with_len a n)) ≡ Some (f (a + i))
find-placed f test a zero i lt before here = absurd (omega arith)
find-placed f test a (suc n) zero lt before here =
    let e : a + 0 ≡ a = omega arith in
    ap (λ (b : Bool). cond b (Some (f a)) (find test (map f (range_with_len (a + 1) n)))) (ap (λ (k : ℕ). test (f k)) (sym e) ∙ here)
    ∙ ap (λ (k : ℕ). Some (f k)) (sym e)
find-placed f test a (suc n) (suc i) lt before here =
    let e : a + suc i ≡ a + 1 + i = omega arith in
    ap (λ (b : Bool). cond b (Some (f a)) (find test (map f (range_with_len (a + 1) n)))) (before a (omega arith) (omega arith))
    ∙ find-placed f test (a + 1) n i (omega arith) (λ k low high. before k (omega arith) (omega arith)) (ap (λ (k : ℕ). test (f k)) (sym e) ∙ here)
    ∙ ap (λ (k : ℕ). Some (f k)) (sym e)

-- each placed tag stands alone at its position
placed-alone : (rows : ℕ) (tags : List (List ℕ)) (places : List ℕ) (i part : ℕ) → IsPlacement (position_sets rows tags) places → i < length tags
    → bin_value (placed_tags tags places) (get_or places i 0) part ≡ slot_value (get_or tags i []) part
unfolding bin_value placed_tags
placed-alone rows tags places i part placement lt =
    ap (λ o. part_value o part)
    (find-placed (placed_item tags places) (λ x. nat_eq x.position (get_or places i 0)) 0 (length tags) i lt
    (λ k low high. ne_eqb (get_or places k 0) (get_or places i 0) (placement.apart k i (omega arith) (omega (arith, lt, length-map tags (positions_of rows)))))
    (eq-eqb (get_or places (0 + i) 0) (get_or places i 0) (ap (λ (k : ℕ). get_or places k 0) first)))
    ∙ ap (λ (k : ℕ). slot_value (get_or tags k []) part) first
  where
    first : 0 + i ≡ i
    first = omega arith

-- each position is one of the tag's
pub placed-own : (rows : ℕ) (tags : List (List ℕ)) (places : List ℕ) (i : ℕ) → IsPlacement (position_sets rows tags) places → i < length tags
    → Contains (positions_of rows (get_or tags i [])) (get_or places i 0)
placed-own rows tags places i placement lt =
    subst (λ (xs : List ℕ). Contains xs (get_or places i 0)) (get_or-map (positions_of rows) tags i [] [] lt)
    (placement.own i (omega (arith, lt, length-map tags (positions_of rows))))

place-below : (rows : ℕ) (tags : List (List ℕ)) (places : List ℕ) (i : ℕ) → 1 ≤ rows → IsPlacement (position_sets rows tags) places → i < length tags → get_or places i 0 < 819 * rows
place-below rows tags places i some placement lt =
    let own = placed-own rows tags places i placement lt in
    let below = positions-below rows (get_or tags i []) some own.0 (get_or places i 0) own.1 in
    let same = own.2 in
    omega (arith, below, same)

pub placed-below : (rows : ℕ) (tags : List (List ℕ)) (places : List ℕ) → 1 ≤ rows → IsPlacement (position_sets rows tags) places → All (λ x. x.position < 819 * rows) (placed_tags tags places)
unfolding placed_tags
placed-below rows tags places some placement =
    All-map (λ (x : Placed). x.position < 819 * rows) (placed_item tags places) (range_with_len 0 (length tags))
    (λ k d lt.
    let within : k < length tags = omega (arith, lt, length-range_with_len 0 (length tags)) in
    let first : 0 + k ≡ k = omega arith in
    subst (λ (j : ℕ). get_or places j 0 < 819 * rows) (sym (get_or-range_with_len 0 (length tags) k d within ∙ first)) (place-below rows tags places k some placement within))

each_item : (f g : Placed → List Found) (h : ℕ → Placed) (a n : ℕ) → ((i : ℕ) → a ≤ i → i < a + n → f (h i) ≡ g (h i)) → flat_map f (map h (range_with_len a n)) ≡ flat_map g (map h (range_with_len a n))
each_item f g h a zero same = λ i. []
each_item f g h a (suc n) same = λ i. same a (omega arith) (omega arith) i ++ each_item f g h (a + 1) n (λ k low high. same k (omega arith) (omega arith)) i

pub opened-found : (v : Version) (seed : List ℕ) (tags : List (List ℕ)) (places : List ℕ)
    → ArePassed v.parameters → IsSound v → HoldBytes v.labels → All AreBytes tags → IsPlacement (position_sets v.parameters.rows tags) places
    → opened_from v seed (placed_tags tags places) ≡ found v.parameters v.rows (placed_tags tags places)
unfolding opened found placed_tags
opened-found v seed tags places passed sound bytes tag_bytes placement =
    ap (λ (reply : OpenedReply). flat_map (opened_item reply) (placed_tags tags places)) (reply-read v.parameters seed (placed_tags tags places) v.rows sound.each_row sound.limits)
    ∙ each_item (opened_item (reply_by_rows v.parameters seed (placed_tags tags places) v.rows)) (found_item v.parameters v.rows) (placed_item tags places) 0 (length tags)
    (λ i low high.
    let lt : i < length tags = omega arith in
    item-found v.parameters seed (placed_tags tags places) v.rows (placed_item tags places i) passed sound.each_row
    (let below = place-below v.parameters.rows tags places i passed.ranges.some_rows placement lt in omega arith) (bins-sound v sound bytes) (tag_bytes i [] lt)
    (λ part. placed-alone v.parameters.rows tags places i part placement lt))
