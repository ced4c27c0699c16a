-- One more item, one more bundle.
use Rattle.std.proofs.Common.{◌≡◌, ℕ, suc, ◌+◌, ◌/◌, ◌<◌, ◌≤◌, List, [], ◌∷◌, ◌++◌, length, get_or, map, take, drop, Bool, true, false, cond, Some, ◌&&◌, refl, ap, ◌∙◌, sym, arith}
use Rattle.std.specs.Prelude.{nat_eq, slice_index}
use Rattle.std.specs.List.{filter, find, flat_map, list_all, range_with_len}
use Rattle.std.proofs.lemmas.Bool.{eq-eqb, ne_eqb}
use Rattle.std.proofs.lemmas.List.{drop_all, get_or-map, take_more, append-nil}
use Rattle.std.proofs.lemmas.Grind.{flat_map-append}
use Rattle.std.proofs.lemmas.List.Folds.{list_all_at}
use Rattle.std.proofs.lemmas.List.FromFn.{map-range_with_len_more}
use Rattle.std.proofs.Math.Seq.{drop-cons}
use Rattle.item_slots.specs.Tags.{parts, slot_value, slot_values}
use Rattle.psi_receiver.specs.declared.placement.Placed.{Placed}
use Rattle.psi_receiver.specs.declared.found.Found.{Found}
use Rattle.psi_receiver.specs.Placements.{placed_tags, placed_item}
use Rattle.psi_receiver.specs.Queries.{part_value, bin_value}
use Rattle.psi_receiver.specs.Openings.{OpenedReply, opens_in, opened_at, opened_item, opened}
use Rattle.psi_bundle.proofs.BinChanges.{part_at}

pub range-more : (a n : ℕ) → range_with_len a (n + 1) ≡ range_with_len a n ++ (a + n) ∷ []
range-more a n =
    sym (map-same (range_with_len a (n + 1))) ∙ map-range_with_len_more (λ x. x) a n (a + n) refl ∙ ap (λ (xs : List ℕ). xs ++ (a + n) ∷ []) (map-same (range_with_len a n))
  where
    map-same : (xs : List ℕ) → map (λ x. x) xs ≡ xs
    map-same [] = refl
    map-same (x ∷ xs) = ap (λ (ys : List ℕ). x ∷ ys) (map-same xs)

from_here : (placed_tags : List Placed) (i : ℕ) (x : Placed) → i < length placed_tags → x ≡ get_or placed_tags i x → drop i placed_tags ≡ x ∷ drop (i + 1) placed_tags
from_here placed_tags i x lt here =
    let step : suc i ≡ i + 1 = omega arith in
    drop-cons placed_tags i x lt ∙ ap (λ (k : ℕ). get_or placed_tags i x ∷ drop k placed_tags) step ∙ ap (λ (y : Placed). y ∷ drop (i + 1) placed_tags) (sym here)

-- ---- what is placed

unfoldable pub placed_below : List (List ℕ) → List ℕ → ℕ → List Placed
placed_below tags positions n = map (placed_item tags positions) (range_with_len 0 n)

pub placed_below-none : (tags : List (List ℕ)) (positions : List ℕ) → placed_below tags positions 0 ≡ []
unfolding placed_below
placed_below-none tags positions = refl

pub placed_below-more : (tags : List (List ℕ)) (positions : List ℕ) (n : ℕ) → placed_below tags positions (n + 1) ≡ placed_below tags positions n ++ placed_item tags positions n ∷ []
unfolding placed_below
placed_below-more tags positions n = map-range_with_len_more (placed_item tags positions) 0 n n (omega arith)

pub placed_below-all : (tags : List (List ℕ)) (positions : List ℕ) → placed_below tags positions (length tags) ≡ placed_tags tags positions
unfolding placed_below placed_tags
placed_below-all tags positions = refl

-- ---- the bundles of an item

unfoldable pub opened_below : OpenedReply → Placed → ℕ → List Found
opened_below reply x n = map (opened_at reply x) (filter (opens_in reply x.position) (range_with_len 0 n))

pub opened_below-none : (reply : OpenedReply) (x : Placed) → opened_below reply x 0 ≡ []
unfolding opened_below
opened_below-none reply x = refl

kept : (b : Bool) (x : ℕ) (all front back : List ℕ) → all ≡ front ++ back → cond b (x ∷ all) all ≡ cond b (x ∷ front) front ++ back
kept true x all front back e = ap (λ (zs : List ℕ). x ∷ zs) e
kept false x all front back e = e

filter-append : (p : ℕ → Bool) (xs ys : List ℕ) → filter p (xs ++ ys) ≡ filter p xs ++ filter p ys
filter-append p [] ys = refl
filter-append p (x ∷ xs) ys = kept (p x) x (filter p (xs ++ ys)) (filter p xs) (filter p ys) (filter-append p xs ys)

map-append : (f : ℕ → Found) (xs ys : List ℕ) → map f (xs ++ ys) ≡ map f xs ++ map f ys
map-append f [] ys = refl
map-append f (x ∷ xs) ys = ap (λ (zs : List Found). f x ∷ zs) (map-append f xs ys)

filtered-more : (p : ℕ → Bool) (f : ℕ → Found) (n : ℕ)
    → map f (filter p (range_with_len 0 (n + 1))) ≡ map f (filter p (range_with_len 0 n)) ++ map f (cond (p n) (n ∷ []) [])
filtered-more p f n =
    ap (λ (xs : List ℕ). map f (filter p xs)) (range-more 0 n ∙ ap (λ (k : ℕ). range_with_len 0 n ++ k ∷ []) zero_plus)
    ∙ ap (map f) (filter-append p (range_with_len 0 n) (n ∷ []))
    ∙ map-append f (filter p (range_with_len 0 n)) (cond (p n) (n ∷ []) [])
  where
    zero_plus : 0 + n ≡ n
    zero_plus = omega arith

pub opened_below-yes : (reply : OpenedReply) (x : Placed) (n : ℕ) → opens_in reply x.position n ≡ true
    → opened_below reply x (n + 1) ≡ opened_below reply x n ++ opened_at reply x n ∷ []
unfolding opened_below
opened_below-yes reply x n opens =
    filtered-more (opens_in reply x.position) (opened_at reply x) n
    ∙ ap (λ (b : Bool). opened_below reply x n ++ map (opened_at reply x) (cond b (n ∷ []) [])) opens

pub opened_below-no : (reply : OpenedReply) (x : Placed) (n : ℕ) → opens_in reply x.position n ≡ false → opened_below reply x (n + 1) ≡ opened_below reply x n
unfolding opened_below
opened_below-no reply x n closed =
    filtered-more (opens_in reply x.position) (opened_at reply x) n
    ∙ ap (λ (b : Bool). opened_below reply x n ++ map (opened_at reply x) (cond b (n ∷ []) [])) closed
    ∙ append-none (opened_below reply x n)
  where
    append-none : (xs : List Found) → xs ++ [] ≡ xs
    append-none [] = refl
    append-none (y ∷ ys) = ap (λ (zs : List Found). y ∷ zs) (append-none ys)

pub opened_below-all : (reply : OpenedReply) (x : Placed) → opened_below reply x (slice_index reply.counts (x.position / 819)) ≡ opened_item reply x
unfolding opened_below opened_item
opened_below-all reply x = refl

-- ---- the five slots of a bin

pub all_zero : (f : ℕ → ℕ) → ((k : ℕ) → k < 5 → f k ≡ 0) → list_all (λ part. nat_eq (f part) 0) parts ≡ true
all_zero f h =
    λ i. zero_test 0 (omega arith) i && (zero_test 1 (omega arith) i && (zero_test 2 (omega arith) i && (zero_test 3 (omega arith) i && (zero_test 4 (omega arith) i && true))))
  where
    zero_test : (k : ℕ) → k < 5 → nat_eq (f k) 0 ≡ true
    zero_test k lt = eq-eqb (f k) 0 (h k lt)

pub one_not_zero : (f : ℕ → ℕ) (j : ℕ) → j < 5 → (f j ≡ 0 → ⊥) → list_all (λ part. nat_eq (f part) 0) parts ≡ false
one_not_zero f j lt other =
    list_all_at (λ part. nat_eq (f part) 0) parts j 0 lt (ap (λ (k : ℕ). nat_eq (f k) 0) (part_at j lt) ∙ ne_eqb (f j) 0 other)

-- ---- what is placed at a position

pub bin_value-here : (placed_tags : List Placed) (i position part : ℕ) (x : Placed) → i < length placed_tags → x ≡ get_or placed_tags i x → x.position ≡ position
    → bin_value (drop i placed_tags) position part ≡ slot_value x.tag part
unfolding bin_value
bin_value-here placed_tags i position part x lt here same =
    ap (λ (xs : List Placed). part_value (find (λ y. nat_eq y.position position) xs) part) (from_here placed_tags i x lt here)
    ∙ ap (λ (b : Bool). part_value (cond b (Some x) (find (λ y. nat_eq y.position position) (drop (i + 1) placed_tags))) part) (eq-eqb x.position position same)

pub bin_value-next : (placed_tags : List Placed) (i position part : ℕ) (x : Placed) → i < length placed_tags → x ≡ get_or placed_tags i x → (x.position ≡ position → ⊥)
    → bin_value (drop i placed_tags) position part ≡ bin_value (drop (i + 1) placed_tags) position part
unfolding bin_value
bin_value-next placed_tags i position part x lt here other =
    ap (λ (xs : List Placed). part_value (find (λ y. nat_eq y.position position) xs) part) (from_here placed_tags i x lt here)
    ∙ ap (λ (b : Bool). part_value (cond b (Some x) (find (λ y. nat_eq y.position position) (drop (i + 1) placed_tags))) part) (ne_eqb x.position position other)

pub bin_value-end : (placed_tags : List Placed) (i position part : ℕ) → length placed_tags ≤ i → bin_value (drop i placed_tags) position part ≡ 65536
unfolding bin_value
bin_value-end placed_tags i position part le = ap (λ (xs : List Placed). part_value (find (λ y. nat_eq y.position position) xs) part) (drop_all i placed_tags le)

slot_values-at : (tag : List ℕ) (part : ℕ) → part < 5 → get_or (slot_values tag) part 0 ≡ slot_value tag part
slot_values-at tag part lt = get_or-map (slot_value tag) parts part 0 0 lt ∙ ap (slot_value tag) (part_at part lt)

pub slot_value-told : (tag values : List ℕ) (part x : ℕ) → values ≡ slot_values tag → part < 5 → x ≡ get_or values part 0 → x ≡ slot_value tag part
slot_value-told tag values part x same lt here = here ∙ ap (λ (xs : List ℕ). get_or xs part 0) same ∙ slot_values-at tag part lt

pub opened-more : (reply : OpenedReply) (placed_tags : List Placed) (i : ℕ) (x : Placed) → i < length placed_tags → x ≡ get_or placed_tags i x
    → opened reply (take (i + 1) placed_tags) ≡ opened reply (take i placed_tags) ++ opened_item reply x
unfolding opened
opened-more reply placed_tags i x lt here =
    ap (flat_map (opened_item reply)) (take_more placed_tags i x lt ∙ ap (λ (y : Placed). take i placed_tags ++ y ∷ []) (sym here))
    ∙ flat_map-append (opened_item reply) (take i placed_tags) (x ∷ [])
    ∙ ap (λ (xs : List Found). flat_map (opened_item reply) (take i placed_tags) ++ xs) (append-nil (opened_item reply x))
