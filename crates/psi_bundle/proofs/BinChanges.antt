-- Bins with one member more, with one member less and with another label, and the roots of their parts.
use Rattle.std.proofs.Common.{◌≡◌, ◌≢◌, ℕ, suc, ◌^◌, ◌<◌, Bool, true, false, cond, not, ◌||◌, List, [], ◌∷◌, ◌++◌, length, map, slice_index, get_or, nat_lt, IsFalse, nat_eq, Decides, inl, inr, refl, sym, ap, subst, ◌∙◌, arith}
use Rattle.std.specs.List.{All, AllByRecursion, Any, IsDistinct, list_any}
use Rattle.std.proofs.lemmas.Bool.{cases_Bool, cond-true, cond-false, or_parts, and_parts, not-true, true≢false, false≢true, eq-eqb}
use Rattle.std.proofs.lemmas.Bool.Decides.{Decides-eqb}
use Rattle.std.proofs.lemmas.List.{get_or-map, length-map, map_push}
use Rattle.std.proofs.lemmas.List.Elements.{All-from_recursion, recursion_from_All}
use Rattle.std.proofs.lemmas.List.Folds.{Any-from_list_any, list_any_at}
use Rattle.std.proofs.lemmas.List.Kept.{AllPairs-filter}
use Rattle.std.proofs.lemmas.List.Quantifiers.{all_pairs_push}
use Rattle.std.proofs.lemmas.Map.Made.{IsDistinct-from_AllPairs}
use Rattle.std.proofs.lemmas.Slice.Eq.{bytes_eq-Decides}
use Rattle.psi_residue.specs.Numbers.{plain_modulus}
use Rattle.psi_residue.specs.Polynomials.{value_at}
use Rattle.psi_bundle.specs.declared.member.Member.{Member}
use Rattle.item_slots.specs.Tags.{slot_value, slot_values, parts}
use Rattle.psi_bundle.specs.Bins.{AreApart, same_tag, shares_slot, accepts, holds, without, relabelled, roots_of}
use Rattle.psi_bundle.specs.KeptPolynomials.{EachPart, GainsRoot, LosesRoot, IsRootPolynomial, polynomial_at, KeepsPolynomials}
use Rattle.psi_bundle.proofs.RootChanges.{IsWithout, IsWithout-first, IsWithout-later, each_part, one-root_polynomial, root_polynomial-more, root_polynomial-less, value-at_gone}

-- ---- tags

pub same_tag-Decides : (a b : List ℕ) → Decides (same_tag a b) (a ≡ b)
same_tag-Decides a b = bytes_eq-Decides a b

pub part_at : EachPart (λ j. get_or parts j 0 ≡ j)
part_at = each_part (λ j. get_or parts j 0 ≡ j) refl refl refl refl refl

-- tags that share no slot value differ in each part
apart-differ : (a b : List ℕ) → shares_slot a b ≡ false → (j : ℕ) → j < 5 → slot_value a j ≡ slot_value b j → ⊥
apart-differ a b apart j part same =
    let test : ℕ → Bool = λ i. nat_eq (slot_value a i) (slot_value b i) in
    let here : test (get_or parts j 0) ≡ true = ap test (part_at j part) ∙ eq-eqb (slot_value a j) (slot_value b j) same in
    true≢false (sym (list_any_at test parts j 0 part here) ∙ apart)

-- so they are two tags
apart-two_tags : (a b tag : List ℕ) → shares_slot a b ≡ false → a ≡ tag → same_tag b tag ≡ false
apart-two_tags a b tag apart is =
    elim (cases_Bool (same_tag b tag)) [
      | inl same ↦ absurd (apart-differ a b apart 0 (omega arith) (ap (λ (t : List ℕ). slot_value t 0) (is ∙ sym ((same_tag-Decides b tag).0 same))))
      | inr other ↦ other
    ]

-- members of one bin differ in each part
no_member : Member
no_member = record { tag = []; label = [] }

pub values-differ : (bin : List Member) (part i j : ℕ) (d : Member) → AreApart bin → part < 5 → i < j → j < length bin
    → slot_value (get_or bin i d).tag part ≢ slot_value (get_or bin j d).tag part
values-differ bin part i j d apart lt before within = apart-differ (get_or bin i d).tag (get_or bin j d).tag (apart i j d before within) part lt

-- so the roots of a part are distinct
pub roots-distinct : (bin : List Member) (part : ℕ) → AreApart bin → part < 5 → IsDistinct nat_eq (roots_of bin part)
roots-distinct bin part apart lt =
    IsDistinct-from_AllPairs Decides-eqb (roots_of bin part)
    (λ i j d before within same.
    let size = length-map bin (λ (m : Member). slot_value m.tag part) in
    values-differ bin part i j no_member apart lt before (omega (arith, size))
    (sym (get_or-map (λ m. slot_value m.tag part) bin i no_member d (omega (arith, size))) ∙ same ∙ get_or-map (λ m. slot_value m.tag part) bin j no_member d (omega (arith, size))))

apart-first : (m : Member) (ms : List Member) → AreApart (m ∷ ms) → All (λ other. shares_slot m.tag other.tag ≡ false) ms
apart-first m ms h k d lt = h 0 (suc k) d (omega arith) (omega arith)

apart-rest : (m : Member) (ms : List Member) → AreApart (m ∷ ms) → AreApart ms
apart-rest m ms h i j d lt within = h (suc i) (suc j) d (omega arith) (omega arith)

-- ---- one member less

without-kept : (m : Member) (ms : List Member) (tag : List ℕ) → same_tag m.tag tag ≡ false → without (m ∷ ms) tag ≡ m ∷ without ms tag
unfolding without
without-kept m ms tag other = cond-true (not (same_tag m.tag tag)) (m ∷ without ms tag) (without ms tag) (ap not other)

without-gone : (m : Member) (ms : List Member) (tag : List ℕ) → same_tag m.tag tag ≡ true → without (m ∷ ms) tag ≡ without ms tag
unfolding without
without-gone m ms tag same = cond-false (not (same_tag m.tag tag)) (m ∷ without ms tag) (without ms tag) (ap not same)

without-none : (tag : List ℕ) (ms : List Member) → AllByRecursion (λ m. same_tag m.tag tag ≡ false) ms → without ms tag ≡ ms
unfolding without
without-none tag [] none = refl
without-none tag (m ∷ ms) none = without-kept m ms tag none.0 ∙ ap (λ (rest : List Member). m ∷ rest) (without-none tag ms none.1)

holds-none : (tag : List ℕ) → holds [] tag ≡ true → ⊥
unfolding holds
holds-none tag e = false≢true e

holds-later : (m : Member) (ms : List Member) (tag : List ℕ) → same_tag m.tag tag ≡ false → holds (m ∷ ms) tag ≡ true → holds ms tag ≡ true
unfolding holds
holds-later m ms tag other held = sym (ap (λ (t : Bool). t || holds ms tag) other) ∙ held

-- the first member shares no slot value with a tag that is held behind it
differs-from_first : (m : Member) (ms : List Member) (tag : List ℕ) → AreApart (m ∷ ms) → holds ms tag ≡ true → shares_slot m.tag tag ≡ false
unfolding holds
differs-from_first m ms tag apart held =
    let found : Any (λ (x : Member). same_tag x.tag tag ≡ true) ms = Any-from_list_any (λ x. same_tag x.tag tag) ms held in
    let is : (get_or ms found.0 found.1).tag ≡ tag = ap (λ (x : Member). x.tag) found.3 ∙ (same_tag-Decides found.1.tag tag).0 found.4 in
    sym (ap (λ (t : List ℕ). shares_slot m.tag t) is) ∙ apart-first m ms apart found.0 found.1 found.2

pub roots-without : (tag : List ℕ) (j : ℕ) → j < 5 → (bin : List Member) → AllByRecursion (λ a. a < 2 ^ 16) (roots_of bin j) → AreApart bin → holds bin tag ≡ true
    → IsWithout (slot_value tag j) (roots_of bin j) (roots_of (without bin tag) j)
roots-without tag j part [] small apart held = absurd (holds-none tag held)
roots-without tag j part (m ∷ ms) small apart held =
    elim (cases_Bool (same_tag m.tag tag)) [
      | inl same ↦
          let is : m.tag ≡ tag = (same_tag-Decides m.tag tag).0 same in
          let others = recursion_from_All (λ other. shares_slot m.tag other.tag ≡ false) ms (apart-first m ms apart) in
          let rest : without (m ∷ ms) tag ≡ ms = without-gone m ms tag same ∙ without-none tag ms (two_tags is ms others) in
          subst (λ (bin : List Member). IsWithout (slot_value tag j) (roots_of (m ∷ ms) j) (roots_of bin j)) (sym rest)
          (IsWithout-first (slot_value tag j) (slot_value m.tag j) (roots_of ms j) small.0 (ap (λ (t : List ℕ). slot_value t j) (sym is)))
      | inr other ↦
          let held_later = holds-later m ms tag other held in
          let differs : slot_value tag j ≡ slot_value m.tag j → ⊥ = λ e. apart-differ m.tag tag (differs-from_first m ms tag apart held_later) j part (sym e) in
          subst (λ (bin : List Member). IsWithout (slot_value tag j) (roots_of (m ∷ ms) j) (roots_of bin j)) (sym (without-kept m ms tag other))
          (IsWithout-later (slot_value tag j) (slot_value m.tag j) (roots_of ms j) (roots_of (without ms tag) j) differs
          (roots-without tag j part ms small.1 (apart-rest m ms apart) held_later))
    ]
  where
    two_tags : m.tag ≡ tag → (xs : List Member) → AllByRecursion (λ other. shares_slot m.tag other.tag ≡ false) xs → AllByRecursion (λ x. same_tag x.tag tag ≡ false) xs
    two_tags is [] all = tt
    two_tags is (x ∷ xs) all = (apart-two_tags m.tag x.tag tag all.0 is, two_tags is xs all.1)

-- what holds of all roots holds of those that are left
values-left : (P : ℕ → Type 0) (tag : List ℕ) (j : ℕ) (bin : List Member) → AllByRecursion P (roots_of bin j) → AllByRecursion P (roots_of (without bin tag) j)
unfolding without
values-left P tag j [] all = all
values-left P tag j (m ∷ ms) all =
    elim (cases_Bool (same_tag m.tag tag)) [
      | inl same ↦ subst (λ (bin : List Member). AllByRecursion P (roots_of bin j)) (sym (without-gone m ms tag same)) (values-left P tag j ms all.1)
      | inr other ↦ subst (λ (bin : List Member). AllByRecursion P (roots_of bin j)) (sym (without-kept m ms tag other)) (all.0, values-left P tag j ms all.1)
    ]

pub apart-without : (bin : List Member) (tag : List ℕ) → AreApart bin → AreApart (without bin tag)
unfolding without
apart-without bin tag h = AllPairs-filter (λ m other. IsFalse (shares_slot m.tag other.tag)) (λ m. not (same_tag m.tag tag)) bin h

-- ---- another label

-- a member, with the label if it has the tag
abbrev pub with_label : List ℕ → List ℕ → Member → Member
with_label tag label m = cond (same_tag m.tag tag) (record m { label = label }) m

pub with_label-tag : (tag label : List ℕ) (m : Member) → (with_label tag label m).tag ≡ m.tag
with_label-tag tag label m = chosen (same_tag m.tag tag)
  where
    chosen : (t : Bool) → (cond {A = Member} t (record m { label = label }) m).tag ≡ m.tag
    chosen true = refl
    chosen false = refl

roots-relabelled : (bin : List Member) (tag label : List ℕ) (j : ℕ) → roots_of (relabelled bin tag label) j ≡ roots_of bin j
unfolding relabelled
roots-relabelled [] tag label j = refl
roots-relabelled (m ∷ ms) tag label j =
    ap (λ (t : List ℕ). slot_value t j ∷ roots_of (relabelled ms tag label) j) (with_label-tag tag label m)
    ∙ ap (λ (roots : List ℕ). slot_value m.tag j ∷ roots) (roots-relabelled ms tag label j)

pub apart-relabelled : (bin : List Member) (tag label : List ℕ) → AreApart bin → AreApart (relabelled bin tag label)
unfolding relabelled
apart-relabelled bin tag label h i j d before within =
    let f : Member → Member = with_label tag label in
    let size : length (map f bin) ≡ length bin = length-map bin f in
    let second : j < length bin = omega (arith, size, within) in
    let tags : (k : ℕ) → k < length bin → (get_or (map f bin) k d).tag ≡ (get_or bin k d).tag
    = λ k lt. ap (λ (m : Member). m.tag) (get_or-map f bin k d d lt) ∙ with_label-tag tag label (get_or bin k d) in
    ap (λ (t : List ℕ). shares_slot t (get_or (map f bin) j d).tag) (tags i (omega arith))
    ∙ ap (λ (t : List ℕ). shares_slot (get_or bin i d).tag t) (tags j second)
    ∙ h i j d before second

-- ---- slot values

pub slots_by_part : (tag slots : List ℕ) → slots ≡ slot_values tag → EachPart (λ j. slice_index slots j ≡ slot_value tag j)
slots_by_part tag slots is j part = ap (λ (values : List ℕ). slice_index values j) is ∙ each j part
  where
    each : EachPart (λ j. slice_index (slot_values tag) j ≡ slot_value tag j)
    each = each_part (λ j. slice_index (slot_values tag) j ≡ slot_value tag j) refl refl refl refl refl

-- a bin that accepts a tag has no member that shares a slot value with it
pub accepted-apart : (capacity : ℕ) (bin : List Member) (tag : List ℕ) → accepts capacity bin tag ≡ true → list_any (λ m. shares_slot m.tag tag) bin ≡ false
unfolding accepts
accepted-apart capacity bin tag e =
    not-true (list_any (λ m. shares_slot m.tag tag) bin) (and_parts (nat_lt (length bin) capacity) (not (list_any (λ m. shares_slot m.tag tag) bin)) e).1

-- ---- bins with their polynomials

pub keeps-empty : (polynomials : List (List ℕ)) → EachPart (λ j. polynomial_at polynomials j ≡ 1 ∷ []) → KeepsPolynomials [] polynomials
keeps-empty polynomials ones = record { parts = λ j part. one-root_polynomial (polynomial_at polynomials j) (ones j part); apart = λ i j d before within. absurd (omega arith) }

-- a member more, which shares no slot value with those before
pub keeps-more : (bin : List Member) (m : Member) (slots : List ℕ) (old new : List (List ℕ)) → KeepsPolynomials bin old
    → list_any (λ x. shares_slot x.tag m.tag) bin ≡ false → slots ≡ slot_values m.tag
    → EachPart (λ j. GainsRoot (slice_index slots j) (polynomial_at old j) (polynomial_at new j)) → KeepsPolynomials (bin ++ m ∷ []) new
keeps-more bin m slots old new keeps apart is gains = record {
  parts = λ j part.
      subst (λ (roots : List ℕ). IsRootPolynomial roots (polynomial_at new j))
      (ap (λ (a : ℕ). roots_of bin j ++ a ∷ []) (slots_by_part m.tag slots is j part) ∙ sym (map_push (λ (x : Member). slot_value x.tag j) bin m))
      (root_polynomial-more (roots_of bin j) (polynomial_at old j) (polynomial_at new j) (slice_index slots j) (keeps.parts j part) (gains j part));
  apart = all_pairs_push (λ x other. IsFalse (shares_slot x.tag other.tag)) bin m keeps.apart (none-any (λ x. shares_slot x.tag m.tag) bin apart);
}
  where
    none-any_rec : (p : Member → Bool) (xs : List Member) → list_any p xs ≡ false → AllByRecursion (λ x. p x ≡ false) xs
    none-any_rec p [] e = tt
    none-any_rec p (x ∷ xs) e = let both = or_parts (p x) (list_any p xs) e in (both.0, none-any_rec p xs both.1)

    none-any : (p : Member → Bool) (xs : List Member) → list_any p xs ≡ false → (k : ℕ) (d : Member) → k < length xs → p (get_or xs k d) ≡ false
    none-any p xs e k d lt = All-from_recursion (λ x. p x ≡ false) xs (none-any_rec p xs e) k d lt

slot-without : (bin : List Member) (tag slots : List ℕ) (old : List (List ℕ)) → KeepsPolynomials bin old → holds bin tag ≡ true → slots ≡ slot_values tag
    → EachPart (λ j. IsWithout (slice_index slots j) (roots_of bin j) (roots_of (without bin tag) j))
slot-without bin tag slots old keeps held is j part =
    let at : slice_index slots j ≡ slot_value tag j = slots_by_part tag slots is j part in
    let small = recursion_from_All (λ a. a < 2 ^ 16) (roots_of bin j) (keeps.parts j part).values in
    subst (λ (a : ℕ). IsWithout a (roots_of bin j) (roots_of (without bin tag) j)) (sym at) (roots-without tag j part bin small keeps.apart held)

-- the polynomials that are divided are not constant, and have the tag's slot values as roots
pub not_constant : (bin : List Member) (tag slots : List ℕ) (old : List (List ℕ)) → KeepsPolynomials bin old → holds bin tag ≡ true
    → slots ≡ slot_values tag → EachPart (λ j. 1 < length (polynomial_at old j))
not_constant bin tag slots old keeps held is j part =
    omega (arith, (keeps.parts j part).longer, (slot-without bin tag slots old keeps held is j part).shorter)

pub are_roots : (bin : List Member) (tag slots : List ℕ) (old : List (List ℕ)) → KeepsPolynomials bin old → holds bin tag ≡ true
    → slots ≡ slot_values tag → EachPart (λ j. value_at plain_modulus (polynomial_at old j) (slice_index slots j) ≡ 0)
are_roots bin tag slots old keeps held is j part =
    value-at_gone (roots_of bin j) (roots_of (without bin tag) j) (polynomial_at old j) (slice_index slots j)
    (slot-without bin tag slots old keeps held is j part) (keeps.parts j part)

-- the tag's member less
pub keeps-less : (bin : List Member) (tag slots : List ℕ) (old new : List (List ℕ)) → KeepsPolynomials bin old → holds bin tag ≡ true
    → slots ≡ slot_values tag → EachPart (λ j. LosesRoot (slice_index slots j) (polynomial_at old j) (polynomial_at new j))
    → KeepsPolynomials (without bin tag) new
keeps-less bin tag slots old new keeps held is loses = record {
  parts = λ j part.
      let small = recursion_from_All (λ a. a < 2 ^ 16) (roots_of bin j) (keeps.parts j part).values in
      let left = All-from_recursion (λ a. a < 2 ^ 16) (roots_of (without bin tag) j) (values-left (λ a. a < 2 ^ 16) tag j bin small) in
      root_polynomial-less (roots_of bin j) (roots_of (without bin tag) j) (polynomial_at old j) (polynomial_at new j) (slice_index slots j) left
      (slot-without bin tag slots old keeps held is j part) (keeps.parts j part) (loses j part);
  apart = apart-without bin tag keeps.apart;
}

-- another label
pub keeps-relabelled : (bin : List Member) (tag label : List ℕ) (old new : List (List ℕ)) → KeepsPolynomials bin old
    → EachPart (λ j. polynomial_at new j ≡ polynomial_at old j) → KeepsPolynomials (relabelled bin tag label) new
keeps-relabelled bin tag label old new keeps same = record {
  parts = λ j part.
      subst (λ (roots : List ℕ). IsRootPolynomial roots (polynomial_at new j)) (sym (roots-relabelled bin tag label j))
      (subst (λ (p : List ℕ). IsRootPolynomial (roots_of bin j) p) (sym (same j part)) (keeps.parts j part));
  apart = apart-relabelled bin tag label keeps.apart;
}
