-- Which frames are replies, and what they tell.
use Rattle.std.specs.Prelude.{◌≡◌, ℕ, ◌<◌, ◌^◌, Bool, ◌&&◌, nat_eq, nat_le, List, drop, slice_index, if◌then◌else◌}
use Rattle.byteorder.specs.Endian.{big_number}
use Rattle.psi_frames.specs.declared.reply.Reply.{Reply}
use Rattle.psi_frames.specs.declared.reply.Reply.TheVariants as reply
use Rattle.psi_frames.specs.Frames.{absent_kind, added_kind, answer_kind, full_bytes, full_kind, is_kind_between, moved_bytes, moved_kind, place_bytes, refused_bytes, refused_kind, removed_kind, repacked_bytes, repacked_kind, replaced_kind, reply_content, reply_kind}

-- A row of the table of replies: a kind, and a body of so many bytes. The body of an Answer has 8 bytes or more, and that of each other
-- kind has one length.
abbrev pub is_reply_row : (kind bytes : ℕ) → Bool
is_reply_row kind bytes =
    if is_kind_between added_kind absent_kind kind then nat_eq bytes place_bytes
    else (if nat_eq kind full_kind then nat_eq bytes full_bytes
    else (if nat_eq kind answer_kind then nat_le place_bytes bytes
    else (if nat_eq kind repacked_kind then nat_eq bytes repacked_bytes
    else (if nat_eq kind moved_kind then nat_eq bytes moved_bytes
    else nat_eq kind refused_kind && nat_eq bytes refused_bytes))))

-- the numbers of a reply are in the ranges of their fields
abbrev pub AreInRange : Reply → Type 0
AreInRange (reply.Added place) = place < 2 ^ 64
AreInRange (reply.Replaced place) = place < 2 ^ 64
AreInRange (reply.Removed place) = place < 2 ^ 64
AreInRange (reply.Absent place) = place < 2 ^ 64
AreInRange (reply.Full place planes cells) = (place < 2 ^ 64) × (planes < 2 ^ 32) × (cells < 2 ^ 32)
AreInRange (reply.Answer place body) = place < 2 ^ 64
AreInRange (reply.Repacked place from before after) = (place < 2 ^ 64) × (from < 2 ^ 64) × (before < 2 ^ 16) × (after < 2 ^ 16)
AreInRange (reply.Moved place from stamp) = (place < 2 ^ 64) × (from < 2 ^ 64) × (stamp < 2 ^ 64)
AreInRange (reply.Refused code) = code < 2 ^ 8

-- A frame of this kind and body tells the reply: they are the reply's.
pub record Tells (kind : ℕ) (body : List ℕ) (r : Reply) : Type 0 where
  pub same_kind : reply_kind r ≡ kind
  pub same_body : reply_content r ≡ body
  pub range : AreInRange r

-- the reply that a kind and a body of a row tell: numbers from their places on
unfoldable pub told_reply : (kind : ℕ) → List ℕ → Reply
told_reply kind body =
    let place = big_number 8 body in
    if nat_eq kind added_kind then reply.Added place
    else (if nat_eq kind replaced_kind then reply.Replaced place
    else (if nat_eq kind removed_kind then reply.Removed place
    else (if nat_eq kind absent_kind then reply.Absent place
    else (if nat_eq kind full_kind then reply.Full place (big_number 4 (drop 8 body)) (big_number 4 (drop 12 body))
    else (if nat_eq kind answer_kind then reply.Answer place (drop 8 body)
    else (if nat_eq kind repacked_kind then reply.Repacked place (big_number 8 (drop 8 body)) (big_number 2 (drop 16 body)) (big_number 2 (drop 18 body))
    else (if nat_eq kind moved_kind then reply.Moved place (big_number 8 (drop 8 body)) (big_number 8 (drop 16 body)) else reply.Refused (slice_index body 0))))))))
