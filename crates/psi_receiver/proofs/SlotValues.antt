-- The slots of a query's plaintexts and of the packed coefficients of a bundle's planes.
use Rattle.std.proofs.Common.{◌≡◌, ℕ, ◌+◌, ◌*◌, ◌/◌, ◌%◌, ◌^◌, ◌<◌, List, get_or, Bool, true, ap, ◌∙◌, sym, arith}
use Rattle.std.specs.Prelude.{if◌then◌else◌, nat_lt}
use Rattle.std.proofs.lemmas.Bool.{lt-ltb}
use Rattle.psi_residue.specs.Numbers.{root_inverse, degree_inverse}
use Rattle.psi_residue.specs.Parameters.{Parameters}
use Rattle.psi_residue.specs.Slots.{coefficient_from, slot_of, packed_at, packed, packed_list}
use Rattle.psi_residue.specs.Sums.{table}
use Rattle.psi_residue.proofs.Sums.{sum_below-same, slice_index-table, table-same}
use Rattle.batching.proofs.Batches.{slots_of-packed_list, slot-slots_of}
use Rattle.psi_residue.proofs.Polynomials.{IsPolynomial-table}
use Rattle.psi_bundle.specs.declared.member.Member.{Member}
use Rattle.psi_bundle.specs.Bins.{bin_at}
use Rattle.psi_bundle.specs.Planes.{one_coefficient, part_coefficient, slot_coefficient, packed_plane}
use Rattle.psi_bundle.proofs.Planes.{slot_coefficient-below}
use Rattle.psi_receiver.specs.declared.placement.Placed.{Placed}
use Rattle.psi_receiver.specs.Queries.{bin_value, query_value, powers_of, row_values}

-- ---- a number of packed values is their list's, whose slots they are

coefficient-listed : (v : ℕ → ℕ) (i : ℕ) → packed_at v i ≡ packed_at (λ j. get_or (table 4096 v) j 0) i
unfolding packed_at coefficient_from
coefficient-listed v i =
    ap (λ (u : ℕ). (degree_inverse * u) % 65537)
    (sum_below-same 4096 (λ j. v j * root_inverse ^ ((2 * j + 1) * i)) (λ j. get_or (table 4096 v) j 0 * root_inverse ^ ((2 * j + 1) * i))
    (λ j lt. ap (λ (u : ℕ). u * root_inverse ^ ((2 * j + 1) * i)) (sym (slice_index-table 4096 v j lt))))

packed-listed : (v : ℕ → ℕ) → packed v ≡ packed_list (table 4096 v)
unfolding packed_list packed
packed-listed v = table-same 4096 (packed_at v) (packed_at (λ j. get_or (table 4096 v) j 0)) (λ i lt. coefficient-listed v i)

pub slot-listed : (v : ℕ → ℕ) (s : ℕ) → ((j : ℕ) → j < 4096 → v j < 65537) → s < 4096 → slot_of (packed_list (table 4096 v)) s ≡ v s
slot-listed v s below lt =
    sym (slot-slots_of (packed_list (table 4096 v)) s lt)
    ∙ ap (λ (xs : List ℕ). get_or xs s 0) (slots_of-packed_list (table 4096 v) (IsPolynomial-table 65537 v below))
    ∙ slice_index-table 4096 v s lt

slot-packed : (v : ℕ → ℕ) (s : ℕ) → ((j : ℕ) → j < 4096 → v j < 65537) → s < 4096 → slot_of (packed v) s ≡ v s
slot-packed v s below lt = ap (λ (p : List ℕ). slot_of p s) (packed-listed v) ∙ slot-listed v s below lt

-- ---- the place of a part among the slots

bin_of_slot : (b j : ℕ) → j < 5 → (5 * b + j) / 5 ≡ b
bin_of_slot b j few = omega arith

part_of_slot : (b j : ℕ) → j < 5 → (5 * b + j) % 5 ≡ j
part_of_slot b j few = omega arith

choose : {X : Type 0} (b : Bool) (x y : X) → b ≡ true → (if b then x else y) ≡ x
choose b x y e = ap (λ (t : Bool). if t then x else y) e

-- ---- the slots of a plane

coefficient-of_bin : (p : Parameters) (bins : List (List Member)) (plane b j k : ℕ) → b < 819 → j < 5 → slot_coefficient p bins plane (5 * b + j) k ≡ part_coefficient p (bin_at bins b) plane j k
unfolding slot_coefficient
coefficient-of_bin p bins plane b j k within few =
    choose (nat_lt (5 * b + j) 4095) (part_coefficient p (bin_at bins ((5 * b + j) / 5)) plane ((5 * b + j) % 5) k) (one_coefficient k) (lt-ltb (5 * b + j) 4095 (omega arith))
    ∙ ap (λ (c : ℕ). part_coefficient p (bin_at bins c) plane ((5 * b + j) % 5) k) (bin_of_slot b j few)
    ∙ ap (λ (c : ℕ). part_coefficient p (bin_at bins b) plane c k) (part_of_slot b j few)

-- slot 5·b + j of the packing of a plane's k-th coefficients
pub plane-slot : (p : Parameters) (bins : List (List Member)) (plane b j k : ℕ) → b < 819 → j < 5 → slot_of (packed_plane p bins plane k) (5 * b + j) ≡ part_coefficient p (bin_at bins b) plane j k
plane-slot p bins plane b j k within few =
    slot-packed (λ s. slot_coefficient p bins plane s k) (5 * b + j) (λ s lt. slot_coefficient-below p bins plane s k) (omega arith) ∙ coefficient-of_bin p bins plane b j k within few

-- ---- the slots of the query

value-of_bin : (placed : List Placed) (row b j : ℕ) → b < 819 → j < 5 → query_value placed row (5 * b + j) ≡ bin_value placed (819 * row + b) j
unfolding query_value
value-of_bin placed row b j within few =
    choose (nat_lt (5 * b + j) (5 * 819)) (bin_value placed (819 * row + (5 * b + j) / 5) ((5 * b + j) % 5)) 65536 (lt-ltb (5 * b + j) (5 * 819) (omega arith))
    ∙ ap (λ (c : ℕ). bin_value placed (819 * row + c) ((5 * b + j) % 5)) (bin_of_slot b j few)
    ∙ ap (λ (c : ℕ). bin_value placed (819 * row + b) c) (part_of_slot b j few)

power-below : (v k : ℕ) → v ^ k % 65537 < 65537
power-below v k = omega arith

-- slot 5·b + j of the plaintext of a row and the exponent k
pub query-slot : (placed : List Placed) (row k b j : ℕ) → b < 819 → j < 5
    → slot_of (packed_list (powers_of (row_values placed row) k)) (5 * b + j) ≡ bin_value placed (819 * row + b) j ^ k % 65537
unfolding powers_of row_values
query-slot placed row k b j within few =
    slot-listed (λ s. get_or (table 4096 (query_value placed row)) s 0 ^ k % 65537) (5 * b + j) (λ s lt. power-below (get_or (table 4096 (query_value placed row)) s 0) k) (omega arith)
    ∙ ap (λ (v : ℕ). v ^ k % 65537) (slice_index-table 4096 (query_value placed row) (5 * b + j) (omega arith) ∙ value-of_bin placed row b j within few)
