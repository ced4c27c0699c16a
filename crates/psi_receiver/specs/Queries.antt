-- The query of placed tags: the encrypted powers of their slot values (Chen, Laine, Rindal, CCS 2017), 4096 slots in one ciphertext
-- (Smart and Vercauteren 2014). The order of slots, and the value of a bin that holds no item, are this project's own.
use Rattle.std.specs.Prelude.{◌≡◌, ℕ, ◌+◌, ◌*◌, ◌/◌, ◌%◌, ◌^◌, List, map, nat_eq, nat_lt, Option, None, Some, slice_index, if◌then◌else◌}
use Rattle.std.specs.List.{find, range_with_len}
use Rattle.psi_residue.specs.Numbers.{ring_degree, plain_modulus}
use Rattle.psi_residue.specs.Parameters.{Parameters}
use Rattle.psi_residue.specs.Sums.{table}
use Rattle.psi_residue.specs.Slots.{packed_list}
use Rattle.item_slots.specs.Tags.{bins_of_row, slot_value}
use Rattle.bfv_core.specs.EncryptedLists.{encrypted}
use Rattle.query_codec.specs.Queries.{query_body}
use Rattle.psi_receiver.specs.declared.placement.Placed.{Placed}
use Rattle.psi_receiver.specs.Placements.{ArePlaced}

-- the value of a slot that holds no item, which is above every slot value
abbrev pub empty_value : ℕ
empty_value = 65536

-- one part's slot value of what is placed
abbrev pub part_value : Option Placed → ℕ → ℕ
part_value None part = empty_value
part_value (Some x) part = slot_value x.tag part

-- one part's value at a position: that of the tag placed there
unfoldable pub bin_value : List Placed → (position part : ℕ) → ℕ
bin_value placed position part = part_value (find (λ x. nat_eq x.position position) placed) part

-- the value of a slot of a row: slot 5·b + j has part j of bin b, and slot 4095 holds no item
unfoldable pub query_value : List Placed → (row slot : ℕ) → ℕ
query_value placed row slot =
    if nat_lt slot (5 * bins_of_row) then bin_value placed (bins_of_row * row + slot / 5) (slot % 5) else empty_value

-- the values of a row's slots
unfoldable pub row_values : List Placed → (row : ℕ) → List ℕ
row_values placed row = table ring_degree (query_value placed row)

-- the powers of slot values with the exponent k, modulo the plaintext modulus
unfoldable pub powers_of : List ℕ → (k : ℕ) → List ℕ
powers_of values k = table ring_degree (λ slot. slice_index values slot ^ k % plain_modulus)

-- The ciphertext of a row and a power k has the number c = row·capacity + k - 1. Number c:
unfoldable pub query_ciphertext : (capacity : ℕ) → (seed : List ℕ) → List Placed → (c : ℕ) → List (List ℕ)
query_ciphertext capacity seed placed c = encrypted seed c (packed_list (powers_of (row_values placed (c / capacity)) (c % capacity + 1)))

-- the ciphertexts of the query
unfoldable pub encrypted_powers : Parameters → (seed : List ℕ) → List Placed → List (List (List ℕ))
encrypted_powers p seed placed = map (query_ciphertext p.capacity seed placed) (range_with_len 0 (p.rows * p.capacity))

-- the query's body
abbrev pub query_of : Parameters → (seed : List ℕ) → List Placed → List ℕ
query_of p seed placed = query_body p (encrypted_powers p seed placed)

-- a body is the query of tags
abbrev pub IsQueryOf : Parameters → (seed : List ℕ) → (tags : List (List ℕ)) → (body : List ℕ) → Type 0
IsQueryOf p seed tags body = (placed : List Placed) × ArePlaced p.rows tags placed × (body ≡ query_of p seed placed)
