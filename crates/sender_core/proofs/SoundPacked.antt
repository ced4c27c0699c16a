-- What first fit of a row's members leaves: the same members in the same bins, in no more bundles.
use Rattle.std.proofs.Common.{◌≡◌, ◌⊎◌, ℕ, zero, suc, ◌+◌, ◌-◌, ◌≤◌, ◌<◌, Bool, true, false, cond, nat_eq, List, [], ◌∷◌, ◌++◌, length, map, get_or, fold, flat_map, remove, Contains, inl, inr, refl, sym, ap, ◌∙◌, subst, arith}
use Rattle.std.specs.List.{AllByRecursion, enumerate_from}
use Rattle.std.proofs.lemmas.Bool.{cases_eq, eq-eqb, ne_eqb, cond-true, cond-false, lt-ltb, and_from, not_from_false}
use Rattle.std.proofs.lemmas.List.{append-nil, append_assoc, length-append, get_or_append_left, get_or_at}
use Rattle.std.proofs.lemmas.List.Edits.{remove-append_right}
use Rattle.std.proofs.lemmas.List.Elements.{Contains-append_cases}
use Rattle.std.proofs.lemmas.List.Folds.{list_any_none}
use Rattle.std.proofs.lemmas.List.Quantifiers.{all_pairs_remove}
use Rattle.std.proofs.lemmas.List.Sums.{sum_by-append, fold-append}
use Rattle.psi_bundle.specs.declared.member.Member.{Member}
use Rattle.item_slots.specs.Tags.{bins_of_row}
use Rattle.psi_bundle.specs.Bins.{AreApart, accepts, same_tag, shares_slot, bin_at}
use Rattle.psi_bundle.specs.Versions.{Stamped, Row, bins_at, standing, joined, first_fit, members_of_row, packed_row}
use Rattle.sender_core.proofs.SoundLists.{count-cons, one_if}
use Rattle.sender_core.proofs.SoundCells.{held, standing-cons}
use Rattle.sender_core.proofs.SoundPlaced.{StaysOrJoins, joins-row, shaped-first_fit, weight, standing-bin, standing-other_bin}

-- ---- the members of one bin

-- of members with their bins, those of bin b
abbrev pub of_bin : ℕ → List (ℕ × Member) → List Member
of_bin b [] = []
of_bin b (e ∷ es) = cond (nat_eq e.0 b) (e.1 ∷ of_bin b es) (of_bin b es)

of_bin-here : (b : ℕ) (e : ℕ × Member) (es : List (ℕ × Member)) → e.0 ≡ b → of_bin b (e ∷ es) ≡ e.1 ∷ of_bin b es
of_bin-here b e es same = cond-true (nat_eq e.0 b) (e.1 ∷ of_bin b es) (of_bin b es) (eq-eqb e.0 b same)

of_bin-other : (b : ℕ) (e : ℕ × Member) (es : List (ℕ × Member)) → (e.0 ≡ b → ⊥) → of_bin b (e ∷ es) ≡ of_bin b es
of_bin-other b e es apart = cond-false (nat_eq e.0 b) (e.1 ∷ of_bin b es) (of_bin b es) (ne_eqb e.0 b apart)

of_bin-append : (b : ℕ) (xs ys : List (ℕ × Member)) → of_bin b (xs ++ ys) ≡ of_bin b xs ++ of_bin b ys
of_bin-append b [] ys = refl
of_bin-append b (x ∷ xs) ys = chosen (nat_eq x.0 b) (of_bin-append b xs ys)
  where
    chosen : (t : Bool) → of_bin b (xs ++ ys) ≡ of_bin b xs ++ of_bin b ys
        → cond t (x.1 ∷ of_bin b (xs ++ ys)) (of_bin b (xs ++ ys)) ≡ cond t (x.1 ∷ of_bin b xs) (of_bin b xs) ++ of_bin b ys
    chosen true h = ap (λ (ms : List Member). x.1 ∷ ms) h
    chosen false h = h

-- a bin's members, each with the bin's number
abbrev numbered : ℕ × List Member → List (ℕ × Member)
numbered bin = map {A = Member} {B = ℕ × Member} (λ m. (bin.0, m)) bin.1

of_bin-numbered : (b : ℕ) (bin : List Member) → of_bin b (numbered (b, bin)) ≡ bin
of_bin-numbered b [] = refl
of_bin-numbered b (m ∷ ms) = of_bin-here b (b, m) (numbered (b, ms)) refl ∙ ap (λ (xs : List Member). m ∷ xs) (of_bin-numbered b ms)

of_bin-numbered_other : (b c : ℕ) (bin : List Member) → (c ≡ b → ⊥) → of_bin b (numbered (c, bin)) ≡ []
of_bin-numbered_other b c [] apart = refl
of_bin-numbered_other b c (m ∷ ms) apart = of_bin-other b (c, m) (numbered (c, ms)) apart ∙ of_bin-numbered_other b c ms apart

-- the members of bins that are numbered from n on
abbrev members_from : ℕ → List (List Member) → List (ℕ × Member)
members_from n bins = flat_map numbered (enumerate_from n bins)

of_bin-below : (b n : ℕ) (bins : List (List Member)) → b < n → of_bin b (members_from n bins) ≡ []
of_bin-below b n [] lt = refl
of_bin-below b n (x ∷ xs) lt =
    of_bin-append b (numbered (n, x)) (members_from (n + 1) xs)
    ∙ ap (λ (ms : List Member). ms ++ of_bin b (members_from (n + 1) xs)) (of_bin-numbered_other b n x (λ e. omega arith))
    ∙ of_bin-below b (n + 1) xs (omega arith)

of_bin-from : (k b n : ℕ) (bins : List (List Member)) → b ≡ n + k → of_bin b (members_from n bins) ≡ bin_at bins k
of_bin-from k b n [] e = refl
of_bin-from zero b n (x ∷ xs) e =
    let same : n ≡ b = omega arith in
    of_bin-append b (numbered (n, x)) (members_from (n + 1) xs)
    ∙ ap (λ (ms : List Member). ms ++ of_bin b (members_from (n + 1) xs)) (ap (λ (c : ℕ). of_bin b (numbered (c, x))) same ∙ of_bin-numbered b x)
    ∙ ap (λ (ms : List Member). x ++ ms) (of_bin-below b (n + 1) xs (omega arith))
    ∙ append-nil x
of_bin-from (suc k) b n (x ∷ xs) e =
    of_bin-append b (numbered (n, x)) (members_from (n + 1) xs)
    ∙ ap (λ (ms : List Member). ms ++ of_bin b (members_from (n + 1) xs)) (of_bin-numbered_other b n x (λ f. omega arith))
    ∙ of_bin-from k b (n + 1) xs (omega arith)

-- the members of one bundle, of bin b
of_bin-bundle : (b : ℕ) (x : Stamped) → of_bin b (members_from 0 x.bins) ≡ bin_at x.bins b
of_bin-bundle b x = of_bin-from b b 0 x.bins (omega arith)

of_bin-row : (b : ℕ) (x : Stamped) (xs : Row) → of_bin b (members_of_row (x ∷ xs)) ≡ bin_at x.bins b ++ of_bin b (members_of_row xs)
of_bin-row b x xs = of_bin-append b (members_from 0 x.bins) (members_of_row xs) ∙ ap (λ (ms : List Member). ms ++ of_bin b (members_of_row xs)) (of_bin-bundle b x)

-- a tag is among the members of bin b as often as it stands there
pub held-members : (row : Row) (b : ℕ) (tag : List ℕ) → held (of_bin b (members_of_row row)) tag ≡ standing row b tag
held-members [] b tag = refl
held-members (x ∷ xs) b tag =
    let whole : held (of_bin b (members_of_row (x ∷ xs))) tag ≡ held (bin_at x.bins b ++ of_bin b (members_of_row xs)) tag = ap (λ (bin : List Member). held bin tag) (of_bin-row b x xs) in
    let both : held (bin_at x.bins b ++ of_bin b (members_of_row xs)) tag ≡ held (bin_at x.bins b) tag + held (of_bin b (members_of_row xs)) tag = sum_by-append (λ (m : Member). one_if (same_tag m.tag tag)) (bin_at x.bins b) (of_bin b (members_of_row xs)) in
    let rest = held-members xs b tag in
    omega (arith, whole, both, rest, standing-cons x xs b tag)

-- what holds of the members in bin b of each bundle holds of the row's members of bin b
pub members-have : (Q : Member → Type 0) (row : Row) (b : ℕ) → ((u : ℕ) (m : Member) → Contains (bin_at (bins_at row u) b) m → Q m) → (m : Member) → Contains (of_bin b (members_of_row row)) m → Q m
members-have Q [] b h m c = h 0 m c
members-have Q (x ∷ xs) b h m c =
    elim (Contains-append_cases (bin_at x.bins b) (of_bin b (members_of_row xs)) m (subst (λ ms. Contains ms m) (of_bin-row b x xs) c)) [
      | inl here ↦ h 0 m here
      | inr later ↦ members-have Q xs b (λ u. h (suc u)) m later
    ]

-- ---- first fit of members, each in its bin

-- one member more
abbrev pub packed_on : ℕ → ℕ → Row → ℕ × Member → Row
packed_on capacity stamp row e = first_fit capacity stamp e.0 e.1 row

in_bin-first : (e : ℕ × Member) (es : List (ℕ × Member)) → Contains (of_bin e.0 (e ∷ es)) e.1
in_bin-first e es = subst (λ ms. Contains ms e.1) (sym (of_bin-here e.0 e es refl)) (0, omega arith, refl)

in_bin-later : (b : ℕ) (e : ℕ × Member) (es : List (ℕ × Member)) (m : Member) → Contains (of_bin b es) m → Contains (of_bin b (e ∷ es)) m
in_bin-later b e es m c = chosen (nat_eq e.0 b)
  where
    chosen : (t : Bool) → Contains (cond t (e.1 ∷ of_bin b es) (of_bin b es)) m
    chosen true = (suc c.0, omega (arith, c.1), c.2)
    chosen false = c

-- what holds of each bin, and stays where a bin takes one of the members, holds of each bin afterwards
pub packed-each : (P : ℕ → List Member → Type 0) (capacity stamp : ℕ) (es : List (ℕ × Member)) (row : Row) → 1 ≤ capacity
    → ((b : ℕ) (bin : List Member) (m : Member) → Contains (of_bin b es) m → accepts capacity bin m.tag ≡ true → P b bin → P b (bin ++ m ∷ []))
    → ((u b : ℕ) → P b (bin_at (bins_at row u) b)) → (u b : ℕ) → P b (bin_at (bins_at (fold (packed_on capacity stamp) row es) u) b)
packed-each P capacity stamp [] row some joins each u b = each u b
packed-each P capacity stamp (e ∷ es) row some joins each u b =
    packed-each P capacity stamp es (packed_on capacity stamp row e) some (λ c bin m later. joins c bin m (in_bin-later c e es m later)) one u b
  where
    one : (w c : ℕ) → P c (bin_at (bins_at (packed_on capacity stamp row e) w) c)
    one w c =
        elim (joins-row capacity stamp e.0 e.1 row w c some) [
          | inl same ↦ subst (λ bin. P c bin) (sym same) (each w c)
          | inr new ↦ subst (λ bin. P c bin) (sym new.1)
              (joins c (bin_at (bins_at row w) c) e.1 (subst (λ k. Contains (of_bin k (e ∷ es)) e.1) (sym new.0) (in_bin-first e es)) new.2 (each w c))
        ]

pub shaped-packed : (capacity stamp : ℕ) (es : List (ℕ × Member)) (row : Row) → AllByRecursion (λ u. length u.bins ≡ bins_of_row) row
    → AllByRecursion (λ u. length u.bins ≡ bins_of_row) (fold (packed_on capacity stamp) row es)
shaped-packed capacity stamp [] row h = h
shaped-packed capacity stamp (e ∷ es) row h = shaped-packed capacity stamp es (packed_on capacity stamp row e) (shaped-first_fit capacity stamp e.0 e.1 row h)

-- in each bin a tag stands as often more as the bin's members have it
pub standing-packed : (capacity stamp : ℕ) (es : List (ℕ × Member)) (row : Row) (b : ℕ) (tag : List ℕ) → AllByRecursion (λ u. length u.bins ≡ bins_of_row) row → b < bins_of_row
    → standing (fold (packed_on capacity stamp) row es) b tag ≡ standing row b tag + held (of_bin b es) tag
standing-packed capacity stamp [] row b tag h lt = omega arith
standing-packed capacity stamp (e ∷ es) row b tag h lt =
    let after = packed_on capacity stamp row e in
    let rest = standing-packed capacity stamp es after b tag (shaped-first_fit capacity stamp e.0 e.1 row h) lt in
    elim (cases_eq e.0 b) [
      | inl same ↦
          let here : standing after b tag ≡ standing row b tag + weight e.1 tag =
          subst (λ k. standing after k tag ≡ standing row k tag + weight e.1 tag) same (standing-bin capacity stamp e.0 e.1 row tag h (omega arith)) in
          let more : held (of_bin b (e ∷ es)) tag ≡ held (e.1 ∷ of_bin b es) tag = ap (λ (bin : List Member). held bin tag) (of_bin-here b e es same) in
          let first : held (e.1 ∷ of_bin b es) tag ≡ weight e.1 tag + held (of_bin b es) tag = count-cons (λ (m : Member). same_tag m.tag tag) e.1 (of_bin b es) in
          omega (arith, rest, here, more, first)
      | inr apart ↦
          let here : standing after b tag ≡ standing row b tag = standing-other_bin capacity stamp e.0 b e.1 row tag (λ f. apart (sym f)) in
          let same : held (of_bin b (e ∷ es)) tag ≡ held (of_bin b es) tag = ap (λ (bin : List Member). held bin tag) (of_bin-other b e es apart) in
          omega (arith, rest, here, same)
    ]

-- ---- no more bundles than before

-- members that one bin can hold
pub record CanStand (capacity : ℕ) (bin : List Member) : Type 0 where
  pub apart : AreApart bin
  pub within : length bin ≤ capacity

fitting-without : (capacity : ℕ) (xs ys : List Member) (m : Member) → CanStand capacity (xs ++ m ∷ ys) → CanStand capacity (xs ++ ys)
fitting-without capacity xs ys m h =
    let whole = length-append xs (m ∷ ys) in
    let place : length xs < length (xs ++ m ∷ ys) = omega (arith, whole) in
    let none : length xs - length xs ≡ 0 = omega arith in
    let is : remove (xs ++ m ∷ ys) (length xs) ≡ xs ++ ys = remove-append_right xs (m ∷ ys) (length xs) (length xs) refl (omega arith) ∙ ap (λ (k : ℕ). xs ++ remove (m ∷ ys) k) none in
    record {
      apart = subst (λ ms. AreApart ms) is (all_pairs_remove (λ x other. shares_slot x.tag other.tag ≡ false) (xs ++ m ∷ ys) (length xs) place h.apart);
      within = omega (arith, whole, length-append xs ys, h.within);
    }

-- the front of members that one bin can hold accepts the next of them
fitting-accepts : (capacity : ℕ) (xs ys : List Member) (m : Member) → CanStand capacity (xs ++ m ∷ ys) → accepts capacity xs m.tag ≡ true
unfolding accepts
fitting-accepts capacity xs ys m h =
    let whole = length-append xs (m ∷ ys) in
    let size : length xs < capacity = omega (arith, whole, h.within) in
    and_from _ _ (lt-ltb (length xs) capacity size) (not_from_false _ (list_any_none (λ x. shares_slot x.tag m.tag) xs (λ k d lt.
    let next : get_or (xs ++ m ∷ ys) (length xs) d ≡ m = get_or_at xs m ys d (length xs) refl in
    let pair : shares_slot (get_or (xs ++ m ∷ ys) k d).tag (get_or (xs ++ m ∷ ys) (length xs) d).tag ≡ false = h.apart k (length xs) d lt (omega (arith, whole)) in
    subst (λ x. shares_slot x.tag m.tag ≡ false) (get_or_append_left xs (m ∷ ys) d k lt) (subst (λ x. shares_slot (get_or (xs ++ m ∷ ys) k d).tag x.tag ≡ false) next pair))))

-- the bins of the first bundle can hold the members that are still to come
abbrev AreFitting : ℕ → Row → List (ℕ × Member) → Type 0
AreFitting capacity row es = (b : ℕ) → CanStand capacity (bin_at (bins_at row 0) b ++ of_bin b es)

fitting-next : (capacity : ℕ) (e : ℕ × Member) (es : List (ℕ × Member)) (row new : Row) → AreFitting capacity row (e ∷ es)
    → ((b : ℕ) → StaysOrJoins capacity e.1 (b ≡ e.0) (bin_at (bins_at row 0) b) (bin_at (bins_at new 0) b)) → AreFitting capacity new es
fitting-next capacity e es row new h moves b =
    let bin = bin_at (bins_at row 0) b in
    elim (moves b) [
      | inl same ↦ elim (cases_eq e.0 b) [
        | inl here ↦ subst (λ ms. CanStand capacity (ms ++ of_bin b es)) (sym same) (fitting-without capacity bin (of_bin b es) e.1 (subst (λ ms. CanStand capacity (bin ++ ms)) (of_bin-here b e es here) (h b)))
        | inr other ↦ subst (λ ms. CanStand capacity (ms ++ of_bin b es)) (sym same) (subst (λ ms. CanStand capacity (bin ++ ms)) (of_bin-other b e es other) (h b))
      ]
      | inr took ↦
          subst (λ ms. CanStand capacity (ms ++ of_bin b es)) (sym took.1) (subst (λ ms. CanStand capacity ms) (sym (append_assoc bin (e.1 ∷ []) (of_bin b es)))
          (subst (λ ms. CanStand capacity (bin ++ ms)) (of_bin-here b e es (sym took.0)) (h b)))
    ]

-- first fit changes the front alone, or passes it
abbrev InParts : Row → Row → Row → Row → Type 0
InParts new front back last = ((f : Row) × (new ≡ f ++ back) × (length f ≡ length front)) ⊎ (new ≡ front ++ last)

in-parts : (capacity stamp b : ℕ) (m : Member) (front back : Row) → InParts (first_fit capacity stamp b m (front ++ back)) front back (first_fit capacity stamp b m back)
unfolding first_fit
in-parts capacity stamp b m [] back = inr refl
in-parts capacity stamp b m (x ∷ xs) back =
    chosen (accepts capacity (bin_at x.bins b) m.tag) (first_fit capacity stamp b m (xs ++ back)) (first_fit capacity stamp b m back) (in-parts capacity stamp b m xs back)
  where
    chosen : (t : Bool) (rest last : Row) → InParts rest xs back last → InParts (cond t (joined stamp b m x ∷ (xs ++ back)) (x ∷ rest)) (x ∷ xs) back last
    chosen true rest last h = inl (joined stamp b m x ∷ xs, refl, refl)
    chosen false rest last (inl h) = inl (x ∷ h.0, ap (λ (row : Row). x ∷ row) h.1, ap (λ (n : ℕ). suc n) h.2)
    chosen false rest last (inr e) = inr (ap (λ (row : Row). x ∷ row) e)

-- a bundle that can hold the member takes it
one-bundle : (capacity stamp : ℕ) (e : ℕ × Member) (es : List (ℕ × Member)) (row : Row) → length row ≤ 1 → AreFitting capacity row (e ∷ es) → length (first_fit capacity stamp e.0 e.1 row) ≤ 1
unfolding first_fit
one-bundle capacity stamp e es [] few h = omega arith
one-bundle capacity stamp e es (x ∷ []) few h =
    let bin = bin_at x.bins e.0 in
    let yes : accepts capacity bin e.1.tag ≡ true = fitting-accepts capacity bin (of_bin e.0 es) e.1 (subst (λ ms. CanStand capacity (bin ++ ms)) (of_bin-here e.0 e es refl) (h e.0)) in
    subst (λ row. length row ≤ 1) (sym (cond-true (accepts capacity bin e.1.tag) (joined stamp e.0 e.1 x ∷ []) (x ∷ first_fit capacity stamp e.0 e.1 []) yes)) (omega arith)
one-bundle capacity stamp e es (x ∷ y ∷ ys) few h = absurd (omega arith)

-- the members of one bundle need at most one bundle more
packs-bundle : (capacity stamp n : ℕ) (es : List (ℕ × Member)) (front back : Row) → 1 ≤ capacity → length front ≤ n → length back ≤ 1 → AreFitting capacity back es
    → length (fold (packed_on capacity stamp) (front ++ back) es) ≤ n + 1
packs-bundle capacity stamp n [] front back some few one h = omega (arith, length-append front back, few, one)
packs-bundle capacity stamp n (e ∷ es) front back some few one h =
    elim (in-parts capacity stamp e.0 e.1 front back) [
      | inl hit ↦ subst (λ row. length (fold (packed_on capacity stamp) row es) ≤ n + 1) (sym hit.1)
          (packs-bundle capacity stamp n es hit.0 back some (omega (arith, hit.2, few)) one (fitting-next capacity e es back back h (λ b. inl refl)))
      | inr passed ↦ subst (λ row. length (fold (packed_on capacity stamp) row es) ≤ n + 1) (sym passed)
          (packs-bundle capacity stamp n es front (first_fit capacity stamp e.0 e.1 back) some few (one-bundle capacity stamp e es back one h)
          (fitting-next capacity e es back (first_fit capacity stamp e.0 e.1 back) h (λ b. joins-row capacity stamp e.0 e.1 back 0 b some)))
    ]

packs-bundles : (capacity stamp n : ℕ) (row packed : Row) → 1 ≤ capacity → length packed ≤ n → ((u b : ℕ) → CanStand capacity (bin_at (bins_at row u) b))
    → length (fold (packed_on capacity stamp) packed (members_of_row row)) ≤ n + length row
packs-bundles capacity stamp n [] packed some few h = omega arith
packs-bundles capacity stamp n (x ∷ xs) packed some few h =
    let after = fold (packed_on capacity stamp) packed (members_from 0 x.bins) in
    let one : length after ≤ n + 1 =
    subst (λ row. length (fold (packed_on capacity stamp) row (members_from 0 x.bins)) ≤ n + 1) (append-nil packed)
    (packs-bundle capacity stamp n (members_from 0 x.bins) packed [] some few (omega arith) (λ b. subst (λ ms. CanStand capacity ms) (sym (of_bin-bundle b x)) (h 0 b))) in
    let rest = packs-bundles capacity stamp (n + 1) xs after some one (λ u. h (suc u)) in
    let parts : fold (packed_on capacity stamp) packed (members_of_row (x ∷ xs)) ≡ fold (packed_on capacity stamp) after (members_of_row xs) = fold-append (packed_on capacity stamp) packed (members_from 0 x.bins) (members_of_row xs) in
    omega (arith, ap length parts, rest)

-- first fit of a row's members needs no more bundles than the row has
pub length-packed : (capacity stamp : ℕ) (row : Row) → 1 ≤ capacity → ((u b : ℕ) → CanStand capacity (bin_at (bins_at row u) b)) → length (packed_row capacity stamp (members_of_row row)) ≤ length row
length-packed capacity stamp row some h = omega (arith, packs-bundles capacity stamp 0 row [] some (omega arith) h)
