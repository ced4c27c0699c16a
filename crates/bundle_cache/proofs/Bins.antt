-- The slot values of a bin's members, no two of which share one.
use Rattle.std.proofs.Common.{◌≡◌, ℕ, ◌<◌, ◌≤◌, inl, inr, List, [], ◌∷◌, length, get_or, map, ap, ◌∙◌, sym, subst}
use Rattle.std.specs.Prelude.{nat_eq}
use Rattle.std.specs.List.{IsDistinct}
use Rattle.std.proofs.lemmas.Bool.{cases_lt}
use Rattle.psi_residue.specs.Interpolation.{interpolated}
use Rattle.label_interp.proofs.Lagrange.{interpolated-past}
use Rattle.item_slots.specs.Tags.{slot_value}
use Rattle.psi_bundle.specs.declared.member.Member.{Member}
use Rattle.psi_bundle.specs.Bins.{AreApart, roots_of}
use Rattle.psi_bundle.proofs.BinChanges.{roots-distinct}
use Rattle.psi_bundle.specs.Planes.{label_points}

-- the first numbers of the points are the roots
points-places : (bin : List Member) (part unit : ℕ) → map (λ q. q.0) (label_points bin part unit) ≡ roots_of bin part
points-places [] part unit = λ i. []
points-places (m ∷ bin) part unit = ap (λ (xs : List ℕ). slot_value m.tag part ∷ xs) (points-places bin part unit)

pub points-distinct : (bin : List Member) (part unit : ℕ) → AreApart bin → part < 5 → IsDistinct nat_eq (map (λ q. q.0) (label_points bin part unit))
points-distinct bin part unit apart lt = subst (IsDistinct nat_eq) (sym (points-places bin part unit)) (roots-distinct bin part apart lt)

-- the coefficients of a polynomial through points, also where it has none
pub interpolated-everywhere : (ps points : List (ℕ × ℕ)) (xs : List ℕ) → ps ≡ points → ((k : ℕ) → k < length ps → get_or xs k 0 ≡ interpolated ps k) → ((k : ℕ) → length ps ≤ k → get_or xs k 0 ≡ 0)
    → (k : ℕ) → get_or xs k 0 ≡ interpolated points k
interpolated-everywhere ps points xs same inside past k =
    elim (cases_lt k (length ps)) [
      | inl lt ↦ inside k lt
      | inr le ↦ past k le ∙ sym (interpolated-past ps k le)
    ] ∙ ap (λ (qs : List (ℕ × ℕ)). interpolated qs k) same
