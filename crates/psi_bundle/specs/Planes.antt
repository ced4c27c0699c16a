-- The planes of a bundle: one polynomial a slot. The root plane has the bins' members as roots (Chen, Laine, Rindal, CCS 2017);
-- a label unit interpolates label values at these roots (Chen, Huang, Laine, Rindal, CCS 2018).
use Rattle.std.specs.Prelude.{ℕ, zero, suc, ◌+◌, ◌*◌, ◌/◌, ◌%◌, List, map, drop, nat_lt, if◌then◌else◌}
use Rattle.byteorder.specs.Endian.{big_number}
use Rattle.psi_residue.specs.Parameters.{Parameters}
use Rattle.psi_residue.specs.Slots.{packed}
use Rattle.psi_residue.specs.RootPolynomials.{root_coefficient}
use Rattle.psi_residue.specs.Interpolation.{interpolated}
use Rattle.psi_bundle.specs.declared.member.Member.{Member}
use Rattle.item_slots.specs.Tags.{slot_value, parts_of_tag}
use Rattle.psi_bundle.specs.Bins.{bin_at, roots_of}

-- the 16-bit number n of a label
abbrev pub label_value : List ℕ → ℕ → ℕ
label_value label n = big_number 2 (drop (2 * n) label)

-- a bin's points of one part and label unit: at each member's root, the label's number 5·unit + part
abbrev pub label_points : List Member → (part unit : ℕ) → List (ℕ × ℕ)
label_points bin part unit = map (λ m. (slot_value m.tag part, label_value m.label (parts_of_tag * unit + part))) bin

-- a plane's polynomial of one bin and part, by its coefficients: plane 0 has the roots, plane u + 1 the label unit u
abbrev pub part_coefficient : Parameters → List Member → (plane part k : ℕ) → ℕ
part_coefficient p bin zero part k = root_coefficient (roots_of bin part) k
part_coefficient p bin (suc unit) part k = interpolated (label_points bin part unit) k

-- the constant 1
abbrev pub one_coefficient : ℕ → ℕ
one_coefficient zero = 1
one_coefficient (suc k) = 0

-- A plane's polynomial of one slot: slot 5·b + j has part j of bin b, and slot 4095 has the constant 1.
unfoldable pub slot_coefficient : Parameters → List (List Member) → (plane slot k : ℕ) → ℕ
slot_coefficient p bins plane slot k =
    if nat_lt slot 4095 then part_coefficient p (bin_at bins (slot / parts_of_tag)) plane (slot % parts_of_tag) k else one_coefficient k

-- the packing of a plane's k-th coefficients over the slots
abbrev pub packed_plane : Parameters → List (List Member) → (plane k : ℕ) → List ℕ
packed_plane p bins plane k = packed (λ slot. slot_coefficient p bins plane slot k)

-- the planes of a bundle: the root plane, and one for each label unit
abbrev pub planes_of_bundle : Parameters → ℕ
planes_of_bundle p = 1 + p.units

-- the coefficients of a plane's polynomials: one more than a bin's members at most
abbrev pub coefficients_of_plane : Parameters → ℕ
coefficients_of_plane p = p.capacity + 1
