-- What the answers to a receiver's queries open to: what is found in the set at their places.
use Rattle.std.specs.Prelude.{◌≡◌, ◌≢◌, ℕ, ◌<◌, List, length, map, None, Some}
use Rattle.std.specs.FinMap as fin
use Rattle.std.specs.List.{All, Contains}
use Rattle.item_slots.specs.Tags.{tag_of}
use Rattle.cuckoo_place.specs.Placements.{IsPlacement}
use Rattle.psi_residue.specs.Parameters.{Parameters}
use Rattle.psi_bundle.specs.declared.history.Entry.{Entry}
use Rattle.psi_bundle.specs.Histories.{AreBytes, version_at}
use Rattle.psi_bundle.specs.Versions.{Version}
use Rattle.query_codec.specs.Queries.{query_ciphertexts}
use Rattle.psi_frames.specs.declared.request.Request.{Request}
use Rattle.psi_frames.specs.Requests.{asked_ciphertexts as ciphertexts_asked}
use Rattle.psi_frames.specs.Served.{Exchange, body_of, place_of}
use Rattle.psi_receiver.specs.declared.found.Found.{Found}
use Rattle.psi_receiver.specs.declared.placement.Placed.{Placed}
use Rattle.psi_receiver.specs.Findings.{found}
use Rattle.psi_receiver.specs.Laws.{item_at}
use Rattle.psi_receiver.specs.Openings.{opened, opened_reply}
use Rattle.psi_receiver.specs.Placements.{placed_tags, position_sets}
use Rattle.psi_receiver.specs.Queries.{query_of}

-- a request asks the query of a seed and placed tags: its ciphertexts are those that are read from that query's body
abbrev pub AsksQuery : Parameters → (seed : List ℕ) → List Placed → Request → Type 0
AsksQuery p seed xs r = ciphertexts_asked r ≡ query_ciphertexts p (query_of p seed xs)

-- what a reply body opens to, with the seed and the placed tags of its query
abbrev pub opened_by : Parameters → (seed : List ℕ) → List Placed → (body : List ℕ) → List Found
opened_by p seed xs body = opened (opened_reply p seed body) xs

-- The answer to a query of tags with a placement opens to exactly what is found in the bundles of the set at its place: the tags whose
-- slot values are roots in one bundle, with its labels.
abbrev pub OpensToFound : Parameters → (start : Version) → List Entry → Exchange → Type 0
OpensToFound p start history e =
    (place : ℕ) (body seed : List ℕ) (tags : List (List ℕ)) (places : List ℕ)
    → place_of e.reply ≡ Some place → body_of e.reply ≡ Some body
    → All AreBytes tags → IsPlacement (position_sets p.rows tags) places → AsksQuery p seed (placed_tags tags places) e.request
    → opened_by p seed (placed_tags tags places) body ≡ found p (version_at start history place).rows (placed_tags tags places)

-- What some found items say of item i and a set: if the set has it, it is found with its label there, and if it is found nowhere, the
-- set does not have it.
pub record TellOf (v : Version) (items : List (List ℕ)) (fs : List Found) (i : ℕ) : Type 0 where
  pub member : (label : List ℕ) → fin.get v.labels (tag_of (item_at items i)) ≡ Some label → (u : ℕ) × Contains fs (record { item = i; bundle = u; label = label })
  pub missing : All (λ f. f.item ≢ i) fs → fin.get v.labels (tag_of (item_at items i)) ≡ None

-- The same in the user's terms: the answer to a query of items with a placement tells of each of them whether the set at its place has
-- it.
abbrev pub TellsOfItems : Parameters → (start : Version) → List Entry → Exchange → Type 0
TellsOfItems p start history e =
    (place : ℕ) (body seed : List ℕ) (items : List (List ℕ)) (places : List ℕ)
    → place_of e.reply ≡ Some place → body_of e.reply ≡ Some body
    → IsPlacement (position_sets p.rows (map tag_of items)) places → AsksQuery p seed (placed_tags (map tag_of items) places) e.request
    → (i : ℕ) → i < length items → TellOf (version_at start history place) items (opened_by p seed (placed_tags (map tag_of items) places) body) i

-- the answers among some exchanges do so, from a start along a history
pub record AnswersOpen (p : Parameters) (start : Version) (history : List Entry) (es : List Exchange) : Type 0 where
  pub found : All (OpensToFound p start history) es
  pub items : All (TellsOfItems p start history) es
