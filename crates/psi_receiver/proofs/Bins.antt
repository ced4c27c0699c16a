-- The bins of a sound version: their members, by the slot values of a part.
use Rattle.std.proofs.Common.{◌≡◌, ℕ, suc, ◌+◌, ◌*◌, ◌<◌, ◌≤◌, Bool, true, cond, ◌||◌, List, [], ◌∷◌, length, get_or, Some, refl, ap, ◌∙◌, sym, inl, inr, arith}
use Rattle.std.specs.Prelude.{nat_eq}
use Rattle.std.specs.FinMap as fin
use Rattle.std.specs.List.{All, AllByRecursion, find, list_any}
use Rattle.std.proofs.lemmas.Bool.{cases_eq, cases_lt, eq-eqb, ne_eqb, false≢true}
use Rattle.std.proofs.lemmas.List.{get_or_default, get_or-map, get_or-drop, length-map}
use Rattle.std.proofs.lemmas.List.Elements.{All-map, recursion_from_All}
use Rattle.std.proofs.lemmas.List.Folds.{list_any_at}
use Rattle.psi_residue.specs.Numbers.{plain_modulus}
use Rattle.psi_residue.specs.Parameters.{Parameters}
use Rattle.item_slots.specs.Tags.{slot_value}
use Rattle.psi_bundle.specs.declared.member.Member.{Member}
use Rattle.psi_bundle.specs.Bins.{AreApart, bin_at, roots_of}
use Rattle.psi_bundle.specs.Histories.{AreBytes, HoldBytes}
use Rattle.psi_bundle.specs.Versions.{Version, row_at, bins_at, HasLabelLength, IsSound}
use Rattle.psi_bundle.proofs.BinChanges.{values-differ}

-- what is known of a bin of a sound version
pub record IsBin (p : Parameters) (bin : List Member) : Type 0 where
  pub tags : All (λ m. AreBytes m.tag) bin
  pub labels : All (λ m. AreBytes m.label × HasLabelLength p m.label) bin
  pub fits : length bin ≤ p.capacity
  pub apart : AreApart bin

pub bins-sound : (v : Version) → IsSound v → HoldBytes v.labels → (r u b : ℕ) → IsBin v.parameters (bin_at (bins_at (row_at v.rows r) u) b)
bins-sound v sound bytes r u b = record {
  tags = λ k d lt. (bytes (get_or bin k d).tag (get_or bin k d).label (known k d lt)).0;
  labels = λ k d lt. ((bytes (get_or bin k d).tag (get_or bin k d).label (known k d lt)).1, sound.labelled (get_or bin k d).tag (get_or bin k d).label (known k d lt));
  fits = sound.within_capacity r u b;
  apart = sound.apart r u b;
}
  where
    bin : List Member
    bin = bin_at (bins_at (row_at v.rows r) u) b

    known : (k : ℕ) (d : Member) → k < length (bin_at (bins_at (row_at v.rows r) u) b) → fin.get v.labels (get_or (bin_at (bins_at (row_at v.rows r) u) b) k d).tag ≡ Some (get_or (bin_at (bins_at (row_at v.rows r) u) b) k d).label
    known k d lt = (sound.nothing_else r u b (get_or bin k d) (k, lt, get_or_default bin k (get_or bin k d) d lt)).0

-- ---- slot values

pub slot_value-small : (tag : List ℕ) (part : ℕ) → AreBytes tag → slot_value tag part < plain_modulus
unfolding slot_value
slot_value-small tag part bytes =
    let high = get_or-drop (2 * part) tag 0 0 in
    let low = get_or-drop (2 * part) tag 1 0 in
    let high_byte = bytes (2 * part + 0) in
    let low_byte = bytes (2 * part + 1) in
    omega (arith, high, low, high_byte, low_byte)

pub roots-small : (bin : List Member) (part : ℕ) → All (λ m. AreBytes m.tag) bin → AllByRecursion (λ a. a < plain_modulus) (roots_of bin part)
roots-small bin part bytes =
    recursion_from_All (λ a. a < plain_modulus) (roots_of bin part)
    (All-map (λ a. a < plain_modulus) (λ m. slot_value m.tag part) bin (λ k d lt. slot_value-small (get_or bin k d).tag part (bytes k d lt)))

-- two members with one slot value are one
pub one_member : (bin : List Member) (part i j : ℕ) (d : Member) → AreApart bin → part < 5 → i < length bin → j < length bin
    → slot_value (get_or bin i d).tag part ≡ slot_value (get_or bin j d).tag part → i ≡ j
one_member bin part i j d apart lt i_in j_in same =
    elim (cases_lt i j) [
      | inl before ↦ absurd (values-differ bin part i j d apart lt before j_in same)
      | inr le ↦
          elim (cases_lt j i) [
            | inl after ↦ absurd (values-differ bin part j i d apart lt after i_in (sym same))
            | inr ge ↦ omega arith
          ]
    ]

-- ---- the first member that has a root

pub record HasRoot (bin : List Member) (v part : ℕ) : Type 0 where
  pub member : Member
  pub number : ℕ
  pub within : number < length bin
  pub stands : get_or bin number member ≡ member
  pub first : find (λ m. nat_eq v (slot_value m.tag part)) bin ≡ Some member
  pub same : v ≡ slot_value member.tag part

root-first : (m : Member) (bin : List Member) (v part : ℕ) → v ≡ slot_value m.tag part → HasRoot (m ∷ bin) v part
root-first m bin v part e = record {
  member = m;
  number = 0;
  within = omega arith;
  stands = refl;
  first = ap (λ (b : Bool). cond b (Some m) (find (λ x. nat_eq v (slot_value x.tag part)) bin)) (eq-eqb v (slot_value m.tag part) e);
  same = e;
}

root-later : (m : Member) (bin : List Member) (v part : ℕ) → (v ≡ slot_value m.tag part → ⊥) → HasRoot bin v part → HasRoot (m ∷ bin) v part
root-later m bin v part other h = record {
  member = h.member;
  number = suc h.number;
  within = let within = h.within in omega arith;
  stands = h.stands;
  first = ap (λ (b : Bool). cond b (Some m) (find (λ x. nat_eq v (slot_value x.tag part)) bin)) (ne_eqb v (slot_value m.tag part) other) ∙ h.first;
  same = h.same;
}

pub root-found : (v part : ℕ) (bin : List Member) → list_any (nat_eq v) (roots_of bin part) ≡ true → HasRoot bin v part
root-found v part [] e = absurd (false≢true e)
root-found v part (m ∷ bin) e =
    elim (cases_eq v (slot_value m.tag part)) [
      | inl same ↦ root-first m bin v part same
      | inr other ↦
          root-later m bin v part other
          (root-found v part bin (sym (ap (λ (b : Bool). b || list_any (nat_eq v) (roots_of bin part)) (ne_eqb v (slot_value m.tag part) other)) ∙ e))
    ]

-- a member's slot value is a root
pub root-of_member : (bin : List Member) (part k v : ℕ) (m : Member) → k < length bin → get_or bin k m ≡ m → v ≡ slot_value m.tag part → list_any (nat_eq v) (roots_of bin part) ≡ true
root-of_member bin part k v m lt stands same =
    list_any_at (nat_eq v) (roots_of bin part) k 0 (omega (arith, lt, length-map bin (λ (x : Member). slot_value x.tag part)))
    (eq-eqb v (get_or (roots_of bin part) k 0) (same ∙ sym (get_or-map (λ x. slot_value x.tag part) bin k m 0 lt ∙ ap (λ (x : Member). slot_value x.tag part) stands)))
