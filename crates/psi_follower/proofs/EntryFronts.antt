-- An entry at the front of some bytes: what is read, and what is written, are the same.
use Rattle.std.specs.Prelude.{◌≡◌, ◌≢◌, ℕ, ◌+◌, ◌*◌, ◌^◌, ◌%◌, ◌<◌, ◌≤◌, Bool, true, false, ◌&&◌, nat_eq, nat_lt, nat_le, IsTrue, List, [], ◌∷◌, ◌++◌, length, take, drop, slice_index, if◌then◌else◌}
use Rattle.std.specs.List.{All, flat_map}
use Rattle.std.proofs.Common.{refl, sym, ap, ◌∙◌, subst, arith, length-append, append_assoc}
use Rattle.std.proofs.Math.Nat.{mod-eq_of_lt}
use Rattle.std.proofs.Math.Seq.{take-append_seam, drop-append_seam}
use Rattle.std.proofs.lemmas.Bool.{false≢true, le-leb, lt-ltb, leb-true, ltb-true}
use Rattle.std.proofs.lemmas.List.{take-append-drop, drop-drop, length-take-le, length-drop}
use Rattle.byteorder.specs.Endian.{big_number, big_bytes}
use Rattle.byteorder.specs.Numbers.{big_from-lt, big_number-reads_back}
use Rattle.item_slots.proofs.BigBytes.{bytes_from}
use Rattle.psi_residue.specs.Parameters.{Parameters}
use Rattle.psi_bundle.specs.declared.history.Call.{Call}
use Rattle.psi_bundle.specs.declared.history.Call.TheVariants as call
use Rattle.psi_bundle.specs.declared.history.Answer.{Answer}
use Rattle.psi_bundle.specs.declared.history.Answer.TheVariants as answer
use Rattle.psi_bundle.specs.Histories.{IsFitting, HasBytes, AreBytes, most_entries}
use Rattle.psi_follower.specs.declared.entry_bytes.Fed.{Fed}
use Rattle.psi_follower.specs.Taking.{HasRow}
use Rattle.psi_follower.specs.EntryBytes.{call_bytes, answer_bytes, entry_bytes, kind_of_answer, answers_to, HasTag, IsCallInRange, IsAnswerInRange, IsReadable}
use Rattle.psi_follower.specs.Inner.EntryFronts.{call_size, is_call_front, front_call, is_answer_front, front_answer, answer_size, behind_call, is_entry_front, front_entry, entry_size}
use Rattle.psi_follower.proofs.EntryLaws.{and_left, and_right, number-read, call-read, answer-read, entry-told}

-- ---- what is read stands there

module _ (p : Parameters) (bytes : List ℕ) (each : AreBytes bytes) (front : is_entry_front p bytes ≡ true) where
  f : Fed
  f = front_entry p bytes

  long : 8 ≤ length bytes
  long = leb-true 8 (length bytes) (and_left (nat_le 8 (length bytes)) _ front)

  behind : (nat_lt (big_number 8 bytes) most_entries && (is_call_front p (drop 8 bytes) && is_answer_front (front_call p (drop 8 bytes)) (behind_call p bytes))) ≡ true
  behind = and_right (nat_le 8 (length bytes)) _ front

  further : (is_call_front p (drop 8 bytes) && is_answer_front (front_call p (drop 8 bytes)) (behind_call p bytes)) ≡ true
  further = and_right (nat_lt (big_number 8 bytes) most_entries) _ behind

  called : is_call_front p (drop 8 bytes) ≡ true
  called = and_left (is_call_front p (drop 8 bytes)) _ further

  answered : is_answer_front (front_call p (drop 8 bytes)) (behind_call p bytes) ≡ true
  answered = and_right (is_call_front p (drop 8 bytes)) _ further

  size_is : drop (entry_size p bytes) bytes ≡ drop (answer_size (slice_index (behind_call p bytes) 0)) (behind_call p bytes)
  size_is =
      let s = call_size p (slice_index (drop 8 bytes) 0) in
      let a = answer_size (slice_index (behind_call p bytes) 0) in
      sym (ap (drop a) (drop-drop s 8 bytes) ∙ drop-drop a (8 + s) bytes)

  pub front-spelled : bytes ≡ entry_bytes (front_entry p bytes).place (front_entry p bytes).entry ++ drop (entry_size p bytes) bytes
  front-spelled =
      let c = call-read p (drop 8 bytes) (bytes_from 8 bytes each) called in
      let a = answer-read (front_call p (drop 8 bytes)) (behind_call p bytes) (bytes_from (call_size p (slice_index (drop 8 bytes) 0)) (drop 8 bytes) (bytes_from 8 bytes each)) answered in
      let head = big_bytes 8 (big_number 8 bytes) in
      let mid = call_bytes (front_call p (drop 8 bytes)) in
      let last = answer_bytes (front_answer (behind_call p bytes)) in
      number-read 8 bytes long each
      ∙ ap (λ (ys : List ℕ). head ++ ys) (c.spelled ∙ ap (λ (ys : List ℕ). mid ++ ys) (a.spelled ∙ ap (λ (ys : List ℕ). last ++ ys) (sym size_is)))
      ∙ ap (λ (ys : List ℕ). head ++ ys) (sym (append_assoc mid last (drop (entry_size p bytes) bytes)))
      ∙ sym (append_assoc head (mid ++ last) (drop (entry_size p bytes) bytes))

  pub front-size : entry_size p bytes ≡ length (entry_bytes (front_entry p bytes).place (front_entry p bytes).entry)
  front-size =
      let c = call-read p (drop 8 bytes) (bytes_from 8 bytes each) called in
      let a = answer-read (front_call p (drop 8 bytes)) (behind_call p bytes) (bytes_from (call_size p (slice_index (drop 8 bytes) 0)) (drop 8 bytes) (bytes_from 8 bytes each)) answered in
      omega (arith, c.size_is, a.size_is, length-append (call_bytes (front_call p (drop 8 bytes))) (answer_bytes (front_answer (behind_call p bytes))))

  pub front-readable : IsReadable p (front_entry p bytes)
  front-readable =
      let c = call-read p (drop 8 bytes) (bytes_from 8 bytes each) called in
      let a = answer-read (front_call p (drop 8 bytes)) (behind_call p bytes) (bytes_from (call_size p (slice_index (drop 8 bytes) 0)) (drop 8 bytes) (bytes_from 8 bytes each)) answered in
      let tests = and_right (nat_lt 0 (length (behind_call p bytes))) (answers_to (front_call p (drop 8 bytes)) (slice_index (behind_call p bytes) 0) && nat_le (answer_size (slice_index (behind_call p bytes) 0)) (length (behind_call p bytes))) answered in record {
        place = ltb-true (big_number 8 bytes) most_entries (and_left (nat_lt (big_number 8 bytes) most_entries) (is_call_front p (drop 8 bytes) && is_answer_front (front_call p (drop 8 bytes)) (behind_call p bytes)) behind);
        of_set = (c.fits, c.row);
        tag = c.tag;
        bytes = c.bytes_are;
        call = c.in_range;
        answers =
            subst (λ (k : ℕ). IsTrue (answers_to (front_call p (drop 8 bytes)) k)) (sym a.kind)
            (and_left (answers_to (front_call p (drop 8 bytes)) (slice_index (behind_call p bytes) 0)) (nat_le (answer_size (slice_index (behind_call p bytes) 0)) (length (behind_call p bytes))) tests);
        answer = a.in_range;
      }

-- ---- what is written is read

-- a call at the front of what is written
record IsCallWritten (p : Parameters) (c : Call) (bytes : List ℕ) : Type 0 where
  front : is_call_front p bytes ≡ true
  size : call_size p (slice_index bytes 0) ≡ length (call_bytes c)
  same : front_call p bytes ≡ c

four : {a b c d : Bool} → a ≡ true → b ≡ true → c ≡ true → d ≡ true → (a && (b && (c && d))) ≡ true
four w x y z = rw w rw x rw y z

call-written : (p : Parameters) (c : Call) (more : List ℕ) → IsFitting p c → HasRow p c → HasTag c → IsCallInRange c → IsCallWritten p c (call_bytes c ++ more)
call-written p (call.Put tag label) more fits row is_tag range =
    let size : 23 + 10 * p.units ≡ length (call_bytes (call.Put tag label)) = omega (arith, is_tag, fits, length-append tag label) in
    let bytes = 1 ∷ ((tag ++ label) ++ more) in
    let n : length bytes ≡ 23 + 10 * p.units + length more = omega (arith, is_tag, fits, length-append tag label, length-append (tag ++ label) more) in
    let shape : (tag ++ label) ++ more ≡ tag ++ (label ++ more) = append_assoc tag label more in
    let is_tag_front : take 22 ((tag ++ label) ++ more) ≡ tag = ap (take 22) shape ∙ ap (λ (k : ℕ). take k (tag ++ (label ++ more))) (sym is_tag) ∙ take-append_seam tag (label ++ more) in
    let behind : drop 22 ((tag ++ label) ++ more) ≡ label ++ more = ap (drop 22) shape ∙ ap (λ (k : ℕ). drop k (tag ++ (label ++ more))) (sym is_tag) ∙ drop-append_seam tag (label ++ more) in
    let is_label : take (10 * p.units) (drop 22 ((tag ++ label) ++ more)) ≡ label = ap (take (10 * p.units)) behind ∙ ap (λ (k : ℕ). take k (label ++ more)) (sym fits) ∙ take-append_seam label more in record {
      front = four (lt-ltb 0 (length bytes) (omega (arith, n))) (lt-ltb 0 (23 + 10 * p.units) (omega arith)) (le-leb (23 + 10 * p.units) (length bytes) (omega (arith, n))) refl;
      size = size;
      same = λ i. call.Put (is_tag_front i) (is_label i);
    }
call-written p (call.Drop tag) more fits row is_tag range =
    let bytes = 2 ∷ (tag ++ more) in
    let n : length bytes ≡ 23 + length more = omega (arith, is_tag, length-append tag more) in
    let is_tag_front : take 22 (tag ++ more) ≡ tag = ap (λ (k : ℕ). take k (tag ++ more)) (sym is_tag) ∙ take-append_seam tag more in record {
      front = four (lt-ltb 0 (length bytes) (omega (arith, n))) refl (le-leb 23 (length bytes) (omega (arith, n))) refl;
      size = omega (arith, is_tag);
      same = λ i. call.Drop (is_tag_front i);
    }
call-written p call.Ask more fits row is_tag range =
    let bytes = 3 ∷ more in record {
      front = four (lt-ltb 0 (length bytes) (omega arith)) refl (le-leb 1 (length bytes) (omega arith)) refl;
      size = refl;
      same = refl;
    }
call-written p (call.Repack r from) more fits row is_tag range =
    let bytes = call_bytes (call.Repack r from) ++ more in
    let is_row : r % 256 ≡ r = mod-eq_of_lt range.0 in
    let n : length bytes ≡ 10 + length more = omega arith in record {
      front =
          four (lt-ltb 0 (length bytes) (omega (arith, n))) refl (le-leb 10 (length bytes) (omega (arith, n)))
          (ap (λ (k : ℕ). nat_lt k p.rows) is_row ∙ lt-ltb r p.rows row);
      size = refl;
      same = λ i. call.Repack (is_row i) (big_number-reads_back 8 from more range.1 i);
    }

three : {a b c : Bool} → a ≡ true → b ≡ true → c ≡ true → (a && (b && c)) ≡ true
three x y z = rw x rw y z

-- an answer at the front of what is written
answer-written : (c : Call) (a : Answer) (more : List ℕ) → answers_to c (kind_of_answer a) ≡ true → is_answer_front c (answer_bytes a ++ more) ≡ true
answer-written c answer.Added more to = three (lt-ltb 0 (length (129 ∷ more)) (omega arith)) to (le-leb 1 (length (129 ∷ more)) (omega arith))
answer-written c answer.Replaced more to = three (lt-ltb 0 (length (130 ∷ more)) (omega arith)) to (le-leb 1 (length (130 ∷ more)) (omega arith))
answer-written c answer.Removed more to = three (lt-ltb 0 (length (131 ∷ more)) (omega arith)) to (le-leb 1 (length (131 ∷ more)) (omega arith))
answer-written c answer.Absent more to = three (lt-ltb 0 (length (132 ∷ more)) (omega arith)) to (le-leb 1 (length (132 ∷ more)) (omega arith))
answer-written c (answer.Full planes cells) more to =
    let n : length (answer_bytes (answer.Full planes cells) ++ more) ≡ 9 + length more = omega arith in
    three (lt-ltb 0 (length (answer_bytes (answer.Full planes cells) ++ more)) (omega (arith, n))) to (le-leb 9 (length (answer_bytes (answer.Full planes cells) ++ more)) (omega (arith, n)))
answer-written c answer.Seen more to = three (lt-ltb 0 (length (134 ∷ more)) (omega arith)) to (le-leb 1 (length (134 ∷ more)) (omega arith))
answer-written c (answer.Done before after) more to =
    let n : length (answer_bytes (answer.Done before after) ++ more) ≡ 5 + length more = omega arith in
    three (lt-ltb 0 (length (answer_bytes (answer.Done before after) ++ more)) (omega (arith, n))) to (le-leb 5 (length (answer_bytes (answer.Done before after) ++ more)) (omega (arith, n)))
answer-written c (answer.Moved stamp) more to =
    let n : length (answer_bytes (answer.Moved stamp) ++ more) ≡ 9 + length more = omega arith in
    three (lt-ltb 0 (length (answer_bytes (answer.Moved stamp) ++ more)) (omega (arith, n))) to (le-leb 9 (length (answer_bytes (answer.Moved stamp) ++ more)) (omega (arith, n)))

-- what is written begins with an entry
pub entry-written : (p : Parameters) (f : Fed) (more : List ℕ) → IsReadable p f → is_entry_front p (entry_bytes f.place f.entry ++ more) ≡ true
entry-written p f more h =
    let mid = call_bytes f.entry.call in
    let last = answer_bytes f.entry.answer ++ more in
    let bytes = entry_bytes f.place f.entry ++ more in
    let written = call-written p f.entry.call last h.of_set.0 h.of_set.1 h.tag h.call in
    let whole : mid ++ last ≡ drop 8 bytes = sym (append_assoc mid (answer_bytes f.entry.answer) more) in
    let place : f.place ≡ big_number 8 bytes = sym (big_number-reads_back 8 f.place ((mid ++ answer_bytes f.entry.answer) ++ more) (omega (arith, h.place))) in
    let long : 8 ≤ length bytes = omega arith in
    entry-told p bytes f.place place f.entry.call (mid ++ last) last (length mid) whole (sym written.size) (sym (drop-append_seam mid last)) long h.place written.front (sym written.same)
    ∙ answer-written f.entry.call f.entry.answer more h.answers
