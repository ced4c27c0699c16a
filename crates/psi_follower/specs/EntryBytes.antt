-- Entries as bytes (the format is this project's own). Every number is big-endian.
use Rattle.std.specs.Prelude.{◌≡◌, ◌≢◌, ℕ, ◌+◌, ◌^◌, ◌<◌, Bool, true, false, ◌||◌, nat_eq, IsTrue, List, [], ◌∷◌, ◌++◌, length, ⊤}
use Rattle.std.specs.List.{All, flat_map}
use Rattle.byteorder.specs.Endian.{big_bytes}
use Rattle.psi_residue.specs.Parameters.{Parameters}
use Rattle.psi_bundle.specs.declared.history.Call.{Call}
use Rattle.psi_bundle.specs.declared.history.Call.TheVariants as call
use Rattle.psi_bundle.specs.declared.history.Answer.{Answer}
use Rattle.psi_bundle.specs.declared.history.Answer.TheVariants as answer
use Rattle.psi_bundle.specs.declared.history.Entry.{Entry}
use Rattle.psi_bundle.specs.Histories.{HasBytes, most_entries}
use Rattle.psi_frames.specs.Frames.{put_kind, drop_kind, ask_kind, repack_kind, added_kind, replaced_kind, removed_kind, absent_kind, full_kind, answer_kind, repacked_kind, moved_kind}
use Rattle.psi_follower.specs.declared.entry_bytes.Fed.{Fed}
use Rattle.psi_follower.specs.declared.entry_bytes.EntriesFault.{EntriesFault}
use Rattle.psi_follower.specs.declared.entry_bytes.EntriesFault.TheVariants as fault
use Rattle.psi_follower.specs.Taking.{IsOfSet}

-- the bytes of a call: its kind as of a request, then the tag and the label, the tag, nothing, or the row and `from`
abbrev pub call_bytes : Call → List ℕ
call_bytes (call.Put tag label) = big_bytes 1 put_kind ++ tag ++ label
call_bytes (call.Drop tag) = big_bytes 1 drop_kind ++ tag
call_bytes call.Ask = big_bytes 1 ask_kind
call_bytes (call.Repack row from) = big_bytes 1 repack_kind ++ big_bytes 1 row ++ big_bytes 8 from

-- the kind of an answer, as of a reply
abbrev pub kind_of_answer : Answer → ℕ
kind_of_answer answer.Added = added_kind
kind_of_answer answer.Replaced = replaced_kind
kind_of_answer answer.Removed = removed_kind
kind_of_answer answer.Absent = absent_kind
kind_of_answer (answer.Full planes cells) = full_kind
kind_of_answer answer.Seen = answer_kind
kind_of_answer (answer.Done before after) = repacked_kind
kind_of_answer (answer.Moved stamp) = moved_kind

-- the numbers that an answer tells
abbrev pub numbers_of_answer : Answer → List ℕ
numbers_of_answer answer.Added = []
numbers_of_answer answer.Replaced = []
numbers_of_answer answer.Removed = []
numbers_of_answer answer.Absent = []
numbers_of_answer (answer.Full planes cells) = big_bytes 4 planes ++ big_bytes 4 cells
numbers_of_answer answer.Seen = []
numbers_of_answer (answer.Done before after) = big_bytes 2 before ++ big_bytes 2 after
numbers_of_answer (answer.Moved stamp) = big_bytes 8 stamp

-- the bytes of an answer
abbrev pub answer_bytes : Answer → List ℕ
answer_bytes a = big_bytes 1 (kind_of_answer a) ++ numbers_of_answer a

-- the bytes of an entry: its place, its call and its answer
abbrev pub entry_bytes : (place : ℕ) → Entry → List ℕ
entry_bytes place e = big_bytes 8 place ++ call_bytes e.call ++ answer_bytes e.answer

-- the kinds of answer that a step has for a call
abbrev pub answers_to : Call → ℕ → Bool
answers_to (call.Put tag label) kind = nat_eq kind added_kind || nat_eq kind replaced_kind || nat_eq kind full_kind
answers_to (call.Drop tag) kind = nat_eq kind removed_kind || nat_eq kind absent_kind
answers_to call.Ask kind = nat_eq kind answer_kind
answers_to (call.Repack row from) kind = nat_eq kind repacked_kind || nat_eq kind moved_kind

-- a tag has 22 bytes
abbrev pub HasTag : Call → Type 0
HasTag (call.Put tag label) = length tag ≡ 22
HasTag (call.Drop tag) = length tag ≡ 22
HasTag call.Ask = ⊤
HasTag (call.Repack row from) = ⊤

-- numbers of a call in their ranges
abbrev pub IsCallInRange : Call → Type 0
IsCallInRange (call.Put tag label) = ⊤
IsCallInRange (call.Drop tag) = ⊤
IsCallInRange call.Ask = ⊤
IsCallInRange (call.Repack row from) = (row < 2 ^ 8) × (from < 2 ^ 64)

-- numbers of an answer in their ranges
abbrev pub IsAnswerInRange : Answer → Type 0
IsAnswerInRange answer.Added = ⊤
IsAnswerInRange answer.Replaced = ⊤
IsAnswerInRange answer.Removed = ⊤
IsAnswerInRange answer.Absent = ⊤
IsAnswerInRange (answer.Full planes cells) = (planes < 2 ^ 32) × (cells < 2 ^ 32)
IsAnswerInRange answer.Seen = ⊤
IsAnswerInRange (answer.Done before after) = (before < 2 ^ 16) × (after < 2 ^ 16)
IsAnswerInRange (answer.Moved stamp) = stamp < 2 ^ 64

-- an entry that is read: its place is one of a journal, its call one of the set, and its answer of a kind that a step has for it
pub record IsReadable (p : Parameters) (f : Fed) : Type 0 where
  pub place : f.place < most_entries
  pub of_set : IsOfSet p f.entry
  pub tag : HasTag f.entry.call
  pub bytes : HasBytes f.entry.call
  pub call : IsCallInRange f.entry.call
  pub answers : IsTrue (answers_to f.entry.call (kind_of_answer f.entry.answer))
  pub answer : IsAnswerInRange f.entry.answer

-- the bytes of a list of entries: one after another
abbrev pub list_bytes : List Fed → List ℕ
list_bytes feds = flat_map (λ (f : Fed). entry_bytes f.place f.entry) feds

-- these bytes are the list of these entries
abbrev pub AreEntries : Parameters → List ℕ → List Fed → Type 0
AreEntries p bytes feds = (bytes ≡ list_bytes feds) × All (IsReadable p) feds

-- the bytes from an offset on begin no entry, and those before it are a list of entries
pub record BreakAt (p : Parameters) (bytes : List ℕ) (offset : ℕ) : Type 0 where
  pub feds : List Fed
  pub rest : List ℕ
  pub front : bytes ≡ list_bytes feds ++ rest
  pub each : All (IsReadable p) feds
  pub at : offset ≡ length (list_bytes feds)
  pub some : rest ≢ []
  pub none : (f : Fed) (more : List ℕ) → IsReadable p f → rest ≢ entry_bytes f.place f.entry ++ more

-- why bytes are not read: they break at an offset, or memory ran out
abbrev pub IsEntriesFault : Parameters → List ℕ → EntriesFault → Type 0
IsEntriesFault p bytes (fault.Bad offset) = BreakAt p bytes offset
IsEntriesFault p bytes fault.NoMemory = ⊤
