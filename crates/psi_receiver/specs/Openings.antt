-- What a reply opens to: the placed items whose slots are 0 in the root plane of a bundle (Chen, Laine, Rindal, CCS 2017), with the labels
-- that the other planes give (Chen, Huang, Laine, Rindal, CCS 2018). It speaks of the reply alone, and of the receiver's key.
use Rattle.std.specs.Prelude.{◌≡◌, ℕ, Bool, ◌+◌, ◌*◌, ◌/◌, ◌%◌, nat_eq, List, [], map, take, drop, filter, slice_index, slice_index_or, ℤ}
use Rattle.std.specs.List.{flat_map, list_all, range_with_len, sum}
use Rattle.std.specs.Int.{bytes_high_first}
use Rattle.psi_residue.specs.Numbers.{ring_degree}
use Rattle.psi_residue.specs.Parameters.{Parameters}
use Rattle.psi_residue.specs.Slots.{slots_of}
use Rattle.item_slots.specs.Tags.{bins_of_row, parts}
use Rattle.psi_bundle.specs.Planes.{planes_of_bundle}
use Rattle.bfv_core.specs.Encryptions.{opening}
use Rattle.bfv_core.specs.EncryptedLists.{key_of_seed}
use Rattle.query_codec.specs.Ciphertexts.{AreBelow}
use Rattle.query_codec.specs.Replies.{reply_ciphertext, reply_ciphertexts, reply_counts, reply_head}
use Rattle.psi_receiver.specs.declared.placement.Placed.{Placed}
use Rattle.psi_receiver.specs.declared.found.Found.{Found}
use Rattle.psi_receiver.specs.Placements.{ArePlaced}

-- An opened reply: its parameters, the bundles of each row, and the slots of what each ciphertext opens to, by row, bundle and plane.
pub record OpenedReply : Type 0 where
  pub parameters : Parameters
  pub counts : List ℕ
  pub planes : List (List ℕ)

-- the number of one plane of bundle u of a row
abbrev pub ciphertext_number : OpenedReply → (row u plane : ℕ) → ℕ
ciphertext_number reply row u plane = (sum (take row reply.counts) + u) * planes_of_bundle reply.parameters + plane

-- the value of one part of a bin among a plane's slots
abbrev pub value_in : (slots : List ℕ) → (bin part : ℕ) → ℕ
value_in slots bin part = slice_index slots (5 * bin + part)

-- the five slots of a bin are 0
abbrev pub is_zero_in : (slots : List ℕ) → (bin : ℕ) → Bool
is_zero_in slots bin = list_all (λ part. nat_eq (value_in slots bin part) 0) parts

-- the value that a part of a bin opens to, in one plane of bundle u of the bin's row: position p is bin p % 819 of row p / 819
unfoldable pub opened_value : OpenedReply → (position u plane part : ℕ) → ℕ
opened_value reply position u plane part =
    value_in (slice_index_or reply.planes (ciphertext_number reply (position / bins_of_row) u plane) []) (position % bins_of_row) part

-- the five slots of the bin are 0 in the root plane of bundle u
unfoldable pub opens_in : OpenedReply → (position u : ℕ) → Bool
opens_in reply position u = list_all (λ part. nat_eq (opened_value reply position u 0 part) 0) parts

-- the label there: 16 bits from each part of each unit
unfoldable pub opened_label : OpenedReply → (position u : ℕ) → List ℕ
opened_label reply position u =
    flat_map (λ unit. flat_map (λ part. bytes_high_first 2 (opened_value reply position u (unit + 1) part % 65536)) parts) (range_with_len 0 reply.parameters.units)

-- an item in one bundle
abbrev pub opened_at : OpenedReply → Placed → ℕ → Found
opened_at reply x u = record { item = x.item; bundle = u; label = opened_label reply x.position u }

-- an item in each bundle of its row in which it opens, in their order
unfoldable pub opened_item : OpenedReply → Placed → List Found
opened_item reply x = map (opened_at reply x) (filter (opens_in reply x.position) (range_with_len 0 (slice_index reply.counts (x.position / bins_of_row))))

-- by item, then by bundle
unfoldable pub opened : OpenedReply → List Placed → List Found
opened reply placed = flat_map (opened_item reply) placed

-- the slots of what a ciphertext opens to under a key
abbrev pub opened_slots : (key : List ℤ) → List (List ℕ) → List ℕ
opened_slots key ct = slots_of (opening key ct)

-- the slots are what ciphertext number c of a reply body opens to, and its residues are below their moduli
pub record IsOpenedPlane (p : Parameters) (key : List ℤ) (body : List ℕ) (c : ℕ) (slots : List ℕ) : Type 0 where
  pub opened : slots ≡ opened_slots key (reply_ciphertext p body c)
  pub below : AreBelow (drop (reply_head p) body) (4 * ring_degree * c) (4 * ring_degree * (c + 1))

-- a reply body, read under the parameters and opened by the key of a seed
abbrev pub opened_reply : Parameters → (seed body : List ℕ) → OpenedReply
opened_reply p seed body = record { parameters = p; counts = reply_counts p body; planes = map (opened_slots (key_of_seed seed)) (reply_ciphertexts p body) }

-- what a reply body opens to for tags
abbrev pub AreOpened : Parameters → (seed : List ℕ) → (tags : List (List ℕ)) → (reply : List ℕ) → List Found → Type 0
AreOpened p seed tags reply found = (placed : List Placed) × ArePlaced p.rows tags placed × (found ≡ opened (opened_reply p seed reply) placed)
