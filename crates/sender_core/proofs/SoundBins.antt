-- Bins without a tag, and with another label for it.
use Rattle.std.proofs.Common.{◌≡◌, ◌⊎◌, ℕ, ◌≤◌, Bool, true, false, not, List, [], ◌∷◌, length, Contains, inl, inr, refl, sym, ap, ◌∙◌, arith}
use Rattle.std.specs.List.{AllByRecursion, Any}
use Rattle.std.proofs.lemmas.Bool.{cases_Bool, not_from_false, not-true, cond-true, cond-false, true≢false}
use Rattle.std.proofs.lemmas.List.{length-map}
use Rattle.std.proofs.lemmas.List.Folds.{Any-from_list_any}
use Rattle.std.proofs.lemmas.List.Sums.{length-filter, count_by-le-length}
use Rattle.psi_bundle.specs.declared.member.Member.{Member}
use Rattle.psi_bundle.specs.Bins.{same_tag, holds, without, relabelled}
use Rattle.psi_bundle.proofs.BinChanges.{same_tag-Decides, with_label, with_label-tag}
use Rattle.sender_core.proofs.SoundLists.{none-any, filter_all, Contains-filter, passes_filter, Contains-map, map_fixed, count-filter, count-map}
use Rattle.sender_core.proofs.SoundCells.{held, same_tag-apart}
use Rattle.sender_core.proofs.SoundChanged.{SparesOthers}

-- a member with the tag
pub holds-tells : (bin : List Member) (tag : List ℕ) → holds bin tag ≡ true → (m : Member) × Contains bin m × (m.tag ≡ tag)
unfolding holds
holds-tells bin tag e =
    let found : Any (λ (m : Member). same_tag m.tag tag ≡ true) bin = Any-from_list_any (λ m. same_tag m.tag tag) bin e in
    (found.1, (found.0, found.2, found.3), (same_tag-Decides found.1.tag tag).0 found.4)

-- ---- without the tag

passing : (tag : List ℕ) (bin : List Member) → AllByRecursion (λ m. same_tag m.tag tag ≡ false) bin → AllByRecursion (λ m. not (same_tag m.tag tag) ≡ true) bin
passing tag [] h = tt
passing tag (m ∷ ms) h = (not_from_false (same_tag m.tag tag) h.0, passing tag ms h.1)

pub without-spares : (tag : List ℕ) → SparesOthers (λ bin. without bin tag) tag
unfolding without holds
without-spares tag bin e = filter_all (λ m. not (same_tag m.tag tag)) bin (passing tag bin (none-any (λ m. same_tag m.tag tag) bin e))

pub Contains-without : (bin : List Member) (tag : List ℕ) (m : Member) → Contains (without bin tag) m → Contains bin m × (m.tag ≡ tag → ⊥)
unfolding without
Contains-without bin tag m h =
    let other : same_tag m.tag tag ≡ false = not-true (same_tag m.tag tag) (passes_filter (λ x. not (same_tag x.tag tag)) bin m h) in
    (Contains-filter (λ x. not (same_tag x.tag tag)) bin m h, λ e. true≢false (sym ((same_tag-Decides m.tag tag).1 e) ∙ other))

pub length-without : (bin : List Member) (tag : List ℕ) → length (without bin tag) ≤ length bin
unfolding without
length-without bin tag =
    let size = length-filter (λ (m : Member). not (same_tag m.tag tag)) bin in
    let few = count_by-le-length (λ (m : Member). not (same_tag m.tag tag)) bin in
    omega arith

-- another tag is held as often as before
pub held-without : (bin : List Member) (tag other : List ℕ) → (other ≡ tag → ⊥) → held (without bin tag) other ≡ held bin other
unfolding without
held-without bin tag other apart =
    count-filter (λ m. same_tag m.tag other) (λ m. not (same_tag m.tag tag)) bin
    (λ m e. same_tag-apart m.tag other (λ f. apart (sym f ∙ (same_tag-Decides m.tag tag).0 (turned (same_tag m.tag tag) e))))
  where
    turned : (t : Bool) → not t ≡ false → t ≡ true
    turned true e = refl
    turned false e = absurd (true≢false e)

-- ---- with another label

unlabelled : (tag label : List ℕ) (bin : List Member) → AllByRecursion (λ m. same_tag m.tag tag ≡ false) bin → AllByRecursion (λ m. with_label tag label m ≡ m) bin
unlabelled tag label [] h = tt
unlabelled tag label (m ∷ ms) h = (cond-false (same_tag m.tag tag) (record m { label = label }) m h.0, unlabelled tag label ms h.1)

pub relabelled-spares : (tag label : List ℕ) → SparesOthers (λ bin. relabelled bin tag label) tag
unfolding relabelled holds
relabelled-spares tag label bin e = map_fixed (with_label tag label) bin (unlabelled tag label bin (none-any (λ m. same_tag m.tag tag) bin e))

-- a member of the bin stood there before, and has the label now or another tag
pub Contains-relabelled : (bin : List Member) (tag label : List ℕ) (m : Member) → Contains (relabelled bin tag label) m
    → (old : Member) × Contains bin old × (old.tag ≡ m.tag) × (((m.tag ≡ tag) × (m.label ≡ label)) ⊎ ((m.tag ≡ tag → ⊥) × (old.label ≡ m.label)))
unfolding relabelled
Contains-relabelled bin tag label m h =
    let found = Contains-map (with_label tag label) bin m h in
    let old = found.0 in
    let tags : old.tag ≡ m.tag = sym (ap (λ (x : Member). x.tag) found.2 ∙ with_label-tag tag label old) in (
      old,
      found.1,
      tags,
      elim (cases_Bool (same_tag old.tag tag)) [
        | inl same ↦ inl (sym tags ∙ (same_tag-Decides old.tag tag).0 same, ap (λ (x : Member). x.label) (found.2 ∙ cond-true (same_tag old.tag tag) (record old { label = label }) old same))
        | inr other ↦ inr (
          (λ e. true≢false (sym ((same_tag-Decides old.tag tag).1 (tags ∙ e)) ∙ other)),
          sym (ap (λ (x : Member). x.label) (found.2 ∙ cond-false (same_tag old.tag tag) (record old { label = label }) old other)),
        )
      ],
    )

pub length-relabelled : (bin : List Member) (tag label : List ℕ) → length (relabelled bin tag label) ≡ length bin
unfolding relabelled
length-relabelled bin tag label = length-map bin (with_label tag label)

pub held-relabelled : (bin : List Member) (tag label other : List ℕ) → held (relabelled bin tag label) other ≡ held bin other
unfolding relabelled
held-relabelled bin tag label other = count-map (λ m. same_tag m.tag other) (with_label tag label) bin (λ m. ap (λ (t : List ℕ). same_tag t other) (with_label-tag tag label m))
