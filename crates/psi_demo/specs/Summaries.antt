-- What a summary counts in replies.
use Rattle.std.specs.Prelude.{◌≡◌, ◌⊎◌, ℕ, ◌<◌, Bool, ◌&&◌, nat_eq, List, [], ◌∷◌, length, take, slice_index, slice_index_or, count_by, Option, None}
use Rattle.std.specs.List.{filter_map, list_any, range_with_len}
use Rattle.std.specs.Option.{option_or}
use Rattle.std.specs.Cmp.Lexicographic.{pointwise}
use Rattle.cuckoo_place.specs.Placements.{HasNoPlacement}
use Rattle.query_codec.specs.declared.fault.CodecFault.{CodecFault}
use Rattle.query_codec.specs.Replies.{IsReply, reply_fault}
use Rattle.psi_frames.specs.declared.reply.Reply.{Reply}
use Rattle.psi_frames.specs.Frames.{added_kind, answer_kind, removed_kind, reply_kind}
use Rattle.psi_frames.specs.Served.{Sent, body_of}
use Rattle.psi_receiver.specs.declared.found.Found.{Found}
use Rattle.psi_receiver.specs.Openings.{AreOpened}
use Rattle.psi_receiver.specs.Placements.{position_sets}
use Rattle.psi_demo.specs.Items.{asked_tags, demo_parameters, demo_label, demo_seed, stable_at, stable_items}
use Rattle.psi_demo.specs.Replies.{AreSent, replies_of}

-- the answers that are opened, at most
abbrev pub opened_answers : ℕ
opened_answers = 3

-- the replies of a kind
abbrev pub count_kind : (kind : ℕ) → List Reply → ℕ
count_kind kind replies = count_by (λ r. nat_eq (reply_kind r) kind) replies

-- the bodies of the answers that are opened
abbrev pub bodies_of : List Reply → List (List ℕ)
bodies_of replies = take opened_answers (filter_map body_of replies)

-- How many replies there are, of which kinds, and the bodies of the answers that are opened.
pub record Tally : Type 0 where
  pub replies : ℕ
  pub added : ℕ
  pub removed : ℕ
  pub asks : ℕ
  pub bodies : List (List ℕ)

abbrev pub tally_of : List Reply → Tally
tally_of replies = record {
  replies = length replies;
  added = count_kind added_kind replies;
  removed = count_kind removed_kind replies;
  asks = count_kind answer_kind replies;
  bodies = bodies_of replies;
}

-- The bytes are replies, and this holds of their tally, whatever replies they are.
pub record ForTally (bytes : List ℕ) (P : Tally → Type 0) : Type 0 where
  pub sents : List Sent
  pub sent : AreSent bytes sents
  pub holds : (others : List Sent) → AreSent bytes others → P (tally_of (replies_of others))

-- stable item k is found with its own label
abbrev pub is_own : (number k : ℕ) → Found → Bool
is_own number k f = nat_eq f.item k && pointwise nat_eq f.label (demo_label number (stable_at k))

-- how many stable items are found with their own labels
unfoldable pub stable_found : (number : ℕ) → List Found → ℕ
stable_found number found = count_by (λ k. list_any (is_own number k) found) (range_with_len 0 stable_items)

-- What an answer's body opens to for tags has this number of stable items.
pub record HasStable (number ask : ℕ) (tags : List (List ℕ)) (body : List ℕ) (n : ℕ) : Type 0 where
  pub found : List Found
  pub opened : AreOpened demo_parameters (demo_seed number ask) tags body found
  pub reply : IsReply demo_parameters body
  pub counted : n ≡ stable_found number found

-- tags have no placement
abbrev pub AreUnplaced : (tags : List (List ℕ)) → Type 0
AreUnplaced tags = HasNoPlacement (position_sets demo_parameters.rows tags)

-- The number of an answer in the line `stable`. Where the tags have no placement, it is not opened, and its number is 0.
abbrev pub IsStable : (number ask : ℕ) → (tags : List (List ℕ)) → (body : List ℕ) → ℕ → Type 0
IsStable number ask tags body n = HasStable number ask tags body n ⊎ (AreUnplaced tags × (n ≡ 0))

-- The numbers of the line `stable`: answer a, from 0, is opened with the seed of ask a.
pub record AreStable (number : ℕ) (bodies : List (List ℕ)) (stable : List ℕ) : Type 0 where
  pub one_each : length stable ≡ length bodies
  pub each : (a : ℕ) → a < length bodies → IsStable number a (asked_tags number) (slice_index_or bodies a []) (slice_index stable a)

-- the fault of the first body that has one
unfoldable pub first_fault : List (List ℕ) → Option CodecFault
first_fault [] = None
first_fault (body ∷ bodies) = option_or (reply_fault demo_parameters body) (first_fault bodies)
