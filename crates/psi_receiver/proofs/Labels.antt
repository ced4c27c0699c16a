-- What the label planes of a bundle open to where an item's slot values are roots: the label that is found there.
use Rattle.std.proofs.Common.{◌≡◌, ℕ, zero, suc, ◌+◌, ◌*◌, ◌%◌, ◌<◌, ◌≤◌, List, [], ◌∷◌, ◌++◌, length, get_or, map, take, drop, ap, subst, ◌∙◌, sym, arith}
use Rattle.std.specs.Prelude.{nat_eq}
use Rattle.std.specs.Int.{bytes_high_first}
use Rattle.std.specs.List.{AllByRecursion, IsDistinct, flat_map, range_with_len}
use Rattle.std.proofs.lemmas.List.{get_or-map, length-map}
use Rattle.std.proofs.Math.Nat.{mod-eq_of_lt}
use Rattle.byteorder.specs.Numbers.{big_from-lt}
use Rattle.psi_residue.specs.Interpolation.{interpolated}
use Rattle.psi_residue.specs.Numbers.{plain_modulus}
use Rattle.psi_residue.specs.Parameters.{Parameters}
use Rattle.bin_poly.specs.Horner.{horner}
use Rattle.bin_poly.proofs.Horner.{horner-any_length}
use Rattle.label_interp.specs.Points.{place_at, value_of}
use Rattle.label_interp.proofs.Lagrange.{interpolated-past, interpolated-takes}
use Rattle.item_slots.specs.Tags.{parts, slot_value}
use Rattle.item_slots.proofs.BigBytes.{bytes_from, written_again}
use Rattle.psi_bundle.specs.declared.member.Member.{Member}
use Rattle.psi_bundle.specs.Bins.{roots_of}
use Rattle.psi_bundle.specs.Histories.{AreBytes}
use Rattle.psi_bundle.specs.Planes.{label_points, label_value}
use Rattle.psi_receiver.specs.Findings.{label_of_member, root_label}
use Rattle.psi_bundle.proofs.BinChanges.{roots-distinct}
use Rattle.psi_receiver.proofs.Bins.{IsBin, HasRoot, roots-small}

-- the first numbers of the points are the roots
points-places : (p : Parameters) (bin : List Member) (part unit : ℕ) → map (λ q. q.0) (label_points bin part unit) ≡ roots_of bin part
points-places p [] part unit = λ i. []
points-places p (m ∷ bin) part unit = ap (λ (xs : List ℕ). slot_value m.tag part ∷ xs) (points-places p bin part unit)

label_value-small : (label : List ℕ) (n : ℕ) → AreBytes label → label_value label n < 65536
label_value-small label n bytes = big_from-lt 0 2 (drop (2 * n) label) (bytes_from (2 * n) label bytes)

-- the polynomial of a label unit takes a member's number at its root
pub label-taken : (p : Parameters) (bin : List Member) (part unit v : ℕ) → IsBin p bin → part < 5 → (r : HasRoot bin v part)
    → horner (interpolated (label_points bin part unit)) v (suc p.capacity) 0 % plain_modulus ≡ label_value r.member.label (5 * unit + part)
label-taken p bin part unit v h lt r =
    ap (λ (x : ℕ). x % plain_modulus)
    (horner-any_length (interpolated points) v (suc p.capacity) (length points) (λ i low. interpolated-past points i (omega (arith, fits, size))) (λ i low. interpolated-past points i low))
    ∙ ap (λ (x : ℕ). horner (interpolated points) x (length points) 0 % plain_modulus) (r.same ∙ sym place)
    ∙ interpolated-takes points r.number inside (subst (AllByRecursion (λ a. a < plain_modulus)) (sym places) (roots-small bin part h.tags))
    (subst (IsDistinct nat_eq) (sym places) (roots-distinct bin part h.apart lt)) small
    ∙ value
  where
    points : List (ℕ × ℕ)
    points = label_points bin part unit

    places : map (λ q. q.0) points ≡ roots_of bin part
    places = points-places p bin part unit

    point_of : Member → ℕ × ℕ
    point_of m = (slot_value m.tag part, label_value m.label (5 * unit + part))

    size : length points ≡ length bin
    size = length-map bin point_of

    fits : length bin ≤ p.capacity
    fits = h.fits

    inside : r.number < length points
    inside = let within = r.within in omega (arith, size, within)

    point : get_or points r.number (0, 0) ≡ point_of r.member
    point = get_or-map point_of bin r.number r.member (0, 0) r.within ∙ ap point_of r.stands

    place : place_at points r.number ≡ slot_value r.member.tag part
    place = ap (λ (q : ℕ × ℕ). q.0) point

    value : value_of points r.number ≡ label_value r.member.label (5 * unit + part)
    value = ap (λ (q : ℕ × ℕ). q.1) point

    bytes : AreBytes r.member.label
    bytes = subst (λ (m : Member). AreBytes m.label) r.stands (h.labels r.number r.member r.within).0

    small : value_of points r.number < plain_modulus
    small = let below = label_value-small r.member.label (5 * unit + part) bytes in omega (arith, below, value)

-- its two bytes are those of the label
pub part-bytes : (p : Parameters) (bin : List Member) (part unit v value : ℕ) → IsBin p bin → part < 5 → unit < p.units → (r : HasRoot bin v part)
    → value ≡ horner (interpolated (label_points bin part unit)) v (suc p.capacity) 0 % plain_modulus
    → bytes_high_first 2 (value % 65536) ≡ take 2 (drop (2 * (5 * unit + part)) r.member.label)
part-bytes p bin part unit v value h lt few r e =
    ap (λ (x : ℕ). bytes_high_first 2 (x % 65536)) (e ∙ label-taken p bin part unit v h lt r)
    ∙ ap (bytes_high_first 2) (mod-eq_of_lt (label_value-small label n bytes))
    ∙ written_again (2 * n) 2 label (omega (arith, size)) bytes
  where
    n : ℕ
    n = 5 * unit + part

    label : List ℕ
    label = r.member.label

    known : AreBytes r.member.label × (length r.member.label ≡ 10 * p.units)
    known = subst (λ (m : Member). AreBytes m.label × (length m.label ≡ 10 * p.units)) r.stands (h.labels r.number r.member r.within)

    bytes : AreBytes r.member.label
    bytes = known.0

    size : length r.member.label ≡ 10 * p.units
    size = known.1

-- the label of the member with the root
pub root_label-is : (bin : List Member) (tag : List ℕ) (part : ℕ) → (r : HasRoot bin (slot_value tag part) part) → root_label bin tag part ≡ r.member.label
root_label-is bin tag part r = ap label_of_member r.first

-- ---- labels part by part

flat-units : (f g : ℕ → List ℕ) (a n : ℕ) → ((i : ℕ) → a ≤ i → i < a + n → f i ≡ g i) → flat_map f (range_with_len a n) ≡ flat_map g (range_with_len a n)
flat-units f g a zero h = λ i. []
flat-units f g a (suc n) h = λ i. h a (omega arith) (omega arith) i ++ flat-units f g (a + 1) n (λ k low high. h k (omega arith) (omega arith)) i

flat-parts : (f g : ℕ → List ℕ) → ((part : ℕ) → part < 5 → f part ≡ g part) → flat_map f parts ≡ flat_map g parts
flat-parts f g h =
    λ i. h 0 (omega arith) i ++ (h 1 (omega arith) i ++ (h 2 (omega arith) i ++ (h 3 (omega arith) i ++ (h 4 (omega arith) i ++ []))))

pub labels-same : (f g : ℕ → ℕ → List ℕ) (units : ℕ) → ((unit part : ℕ) → unit < units → part < 5 → f unit part ≡ g unit part)
    → flat_map (λ unit. flat_map (f unit) parts) (range_with_len 0 units) ≡ flat_map (λ unit. flat_map (g unit) parts) (range_with_len 0 units)
labels-same f g units h =
    flat-units (λ unit. flat_map (f unit) parts) (λ unit. flat_map (g unit) parts) 0 units (λ unit low high. flat-parts (f unit) (g unit) (λ part lt. h unit part (omega arith) lt))
