-- The coefficients of a bundle's planes are plaintexts.
use Rattle.std.proofs.Common.{ℕ, zero, suc, ◌/◌, ◌%◌, ◌<◌, Bool, true, false, List, arith, if◌then◌else◌}
use Rattle.std.specs.Prelude.{nat_lt}
use Rattle.psi_residue.specs.Interpolation.{interpolated}
use Rattle.psi_residue.specs.Parameters.{Parameters}
use Rattle.bin_poly.proofs.Products.{coefficient-below}
use Rattle.psi_bundle.specs.declared.member.Member.{Member}
use Rattle.psi_bundle.specs.Bins.{bin_at, roots_of}
use Rattle.psi_bundle.specs.Planes.{one_coefficient, part_coefficient, slot_coefficient}

pub part_coefficient-below : (p : Parameters) (bin : List Member) (plane part k : ℕ) → part_coefficient p bin plane part k < 65537
unfolding interpolated
part_coefficient-below p bin zero part k = coefficient-below (roots_of bin part) k
part_coefficient-below p bin (suc unit) part k = omega arith

one_coefficient-below : (k : ℕ) → one_coefficient k < 65537
one_coefficient-below zero = omega arith
one_coefficient-below (suc k) = omega arith

pub slot_coefficient-below : (p : Parameters) (bins : List (List Member)) (plane slot k : ℕ) → slot_coefficient p bins plane slot k < 65537
unfolding slot_coefficient
slot_coefficient-below p bins plane slot k = chosen (nat_lt slot 4095)
  where
    chosen : (b : Bool) → (if b then part_coefficient p (bin_at bins (slot / 5)) plane (slot % 5) k else one_coefficient k) < 65537
    chosen true = part_coefficient-below p (bin_at bins (slot / 5)) plane (slot % 5) k
    chosen false = one_coefficient-below k
