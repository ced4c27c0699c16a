-- An entry at the front of some bytes, read by the places of its fields.
use Rattle.std.specs.Prelude.{ℕ, ◌+◌, ◌*◌, Bool, true, false, ◌&&◌, nat_eq, nat_lt, nat_le, List, length, take, drop, slice_index, if◌then◌else◌}
use Rattle.byteorder.specs.Endian.{big_number}
use Rattle.psi_residue.specs.Parameters.{Parameters}
use Rattle.psi_bundle.specs.declared.history.Call.{Call}
use Rattle.psi_bundle.specs.declared.history.Call.TheVariants as call
use Rattle.psi_bundle.specs.declared.history.Answer.{Answer}
use Rattle.psi_bundle.specs.declared.history.Answer.TheVariants as answer
use Rattle.psi_bundle.specs.Histories.{most_entries}
use Rattle.psi_follower.specs.declared.entry_bytes.Fed.{Fed}
use Rattle.psi_follower.specs.EntryBytes.{answers_to}
use Rattle.psi_frames.specs.Frames.{put_kind, drop_kind, ask_kind, repack_kind, added_kind, replaced_kind, removed_kind, absent_kind, full_kind, answer_kind, repacked_kind, moved_kind}

-- how many bytes a call of a kind has, 0 for another kind
abbrev pub call_size : Parameters → ℕ → ℕ
call_size p kind =
    if nat_eq kind put_kind then 23 + 10 * p.units
    else (if nat_eq kind drop_kind then 23
    else (if nat_eq kind ask_kind then 1
    else (if nat_eq kind repack_kind then 10 else 0)))

-- these bytes begin with a call: enough bytes of a known kind, and a row that the set has
abbrev pub is_call_front : Parameters → List ℕ → Bool
is_call_front p bytes =
    let size = call_size p (slice_index bytes 0) in
    nat_lt 0 (length bytes) && (nat_lt 0 size && (nat_le size (length bytes)
    && (if nat_eq (slice_index bytes 0) repack_kind then nat_lt (slice_index bytes 1) p.rows else true)))

-- the call that they begin with
abbrev pub front_call : Parameters → List ℕ → Call
front_call p bytes =
    if nat_eq (slice_index bytes 0) put_kind then call.Put (take 22 (drop 1 bytes)) (take (10 * p.units) (drop 23 bytes))
    else (if nat_eq (slice_index bytes 0) drop_kind then call.Drop (take 22 (drop 1 bytes))
    else (if nat_eq (slice_index bytes 0) ask_kind then call.Ask else call.Repack (slice_index bytes 1) (big_number 8 (drop 2 bytes))))

-- how many bytes an answer of a kind has
abbrev pub answer_size : ℕ → ℕ
answer_size kind =
    if nat_eq kind full_kind then 9
    else (if nat_eq kind repacked_kind then 5
    else (if nat_eq kind moved_kind then 9 else 1))

-- the answer that bytes begin with
abbrev pub front_answer : List ℕ → Answer
front_answer bytes =
    let kind = slice_index bytes 0 in
    if nat_eq kind added_kind then answer.Added
    else (if nat_eq kind replaced_kind then answer.Replaced
    else (if nat_eq kind removed_kind then answer.Removed
    else (if nat_eq kind absent_kind then answer.Absent
    else (if nat_eq kind full_kind then answer.Full (big_number 4 (drop 1 bytes)) (big_number 4 (drop 5 bytes))
    else (if nat_eq kind answer_kind then answer.Seen
    else (if nat_eq kind repacked_kind then answer.Done (big_number 2 (drop 1 bytes)) (big_number 2 (drop 3 bytes)) else answer.Moved (big_number 8 (drop 1 bytes))))))))

-- these bytes begin with an answer to the call: enough bytes, of a kind that a step has for it
abbrev pub is_answer_front : Call → List ℕ → Bool
is_answer_front c bytes =
    nat_lt 0 (length bytes) && (answers_to c (slice_index bytes 0) && nat_le (answer_size (slice_index bytes 0)) (length bytes))

-- what stands behind the call of bytes that begin with a place and a call
abbrev pub behind_call : Parameters → List ℕ → List ℕ
behind_call p bytes = drop (call_size p (slice_index (drop 8 bytes) 0)) (drop 8 bytes)

-- these bytes begin with an entry
abbrev pub is_entry_front : Parameters → List ℕ → Bool
is_entry_front p bytes =
    nat_le 8 (length bytes) && (nat_lt (big_number 8 bytes) most_entries && (is_call_front p (drop 8 bytes) && is_answer_front (front_call p (drop 8 bytes)) (behind_call p bytes)))

-- the entry that they begin with
abbrev pub front_entry : Parameters → List ℕ → Fed
front_entry p bytes = record {
  place = big_number 8 bytes;
  entry = record { call = front_call p (drop 8 bytes); answer = front_answer (behind_call p bytes) };
}

-- how many bytes it has
abbrev pub entry_size : Parameters → List ℕ → ℕ
entry_size p bytes = 8 + call_size p (slice_index (drop 8 bytes) 0) + answer_size (slice_index (behind_call p bytes) 0)
