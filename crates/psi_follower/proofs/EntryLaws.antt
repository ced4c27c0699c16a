-- Laws of entries as bytes: reading an entry undoes writing it, and what is read is what stands there.
use Rattle.std.specs.Prelude.{◌≡◌, ◌≢◌, ◌⊎◌, ℕ, zero, suc, ◌+◌, ◌*◌, ◌^◌, ◌%◌, ◌<◌, ◌≤◌, Bool, true, false, ◌&&◌, ◌||◌, nat_eq, nat_lt, nat_le, IsTrue, List, [], ◌∷◌, ◌++◌, length, take, drop, slice_index, if◌then◌else◌}
use Rattle.std.proofs.Common.{refl, sym, ap, ◌∙◌, subst, arith, length-append, append_assoc, inl, inr}
use Rattle.std.proofs.Math.Nat.{mod-eq_of_lt}
use Rattle.std.proofs.Math.Seq.{take-append_seam, drop-append_seam}
use Rattle.std.proofs.lemmas.Bool.{false≢true, cases_lt, le-leb, lt-ltb, leb-true, ltb-true, eqb-true}
use Rattle.std.proofs.lemmas.Bool.Decides.{eqb_tells}
use Rattle.std.proofs.lemmas.List.{take-append-drop, drop-drop, length-take-le, length-take, length-drop, get_or-drop, get_or-take, get_or_past}
use Rattle.byteorder.specs.Endian.{big_number, big_bytes}
use Rattle.byteorder.specs.Numbers.{big_from-lt, big_number-reads_back}
use Rattle.item_slots.proofs.BigBytes.{big_bytes-big_number, bytes_from, written_again}
use Rattle.psi_residue.specs.Parameters.{Parameters}
use Rattle.psi_bundle.specs.declared.history.Call.{Call}
use Rattle.psi_bundle.specs.declared.history.Call.TheVariants as call
use Rattle.psi_bundle.specs.Histories.{IsFitting, HasBytes, AreBytes, most_entries}
use Rattle.psi_follower.specs.Taking.{HasRow}
use Rattle.psi_bundle.specs.declared.history.Answer.{Answer}
use Rattle.psi_bundle.specs.declared.history.Answer.TheVariants as answer
use Rattle.psi_follower.specs.EntryBytes.{call_bytes, answer_bytes, kind_of_answer, numbers_of_answer, answers_to, HasTag, IsCallInRange, IsAnswerInRange}
use Rattle.psi_follower.specs.Inner.EntryFronts.{call_size, is_call_front, front_call, is_answer_front, front_answer, answer_size, behind_call, is_entry_front, front_entry, entry_size}

-- ---- parts of a list

-- n elements from place i, and what stands behind them
pub cut_at : (i n : ℕ) (xs : List ℕ) → take n (drop i xs) ++ drop (i + n) xs ≡ drop i xs
cut_at i n xs = ap (λ (ys : List ℕ). take n (drop i xs) ++ ys) (sym (drop-drop n i xs)) ∙ take-append-drop n (drop i xs)

pub and_left : (a b : Bool) → (a && b) ≡ true → a ≡ true
and_left true b e = refl
and_left false b e = absurd cc

pub and_right : (a b : Bool) → (a && b) ≡ true → b ≡ true
and_right true b e = e
and_right false b e = absurd cc

bytes-front : (n : ℕ) (xs : List ℕ) → AreBytes xs → AreBytes (take n xs)
bytes-front n xs each i =
    elim (cases_lt i n) [
      | inl lt ↦ omega (arith, get_or-take n xs i 0 lt, each i)
      | inr le ↦ omega (arith, get_or_past (take n xs) i 0 (omega (arith, le, length-take n xs)))
    ]

-- bytes of a part
bytes-part : (i n : ℕ) (bytes : List ℕ) → AreBytes bytes → AreBytes (take n (drop i bytes))
bytes-part i n bytes each = bytes-front n (drop i bytes) (bytes_from i bytes each)

-- ---- calls

-- what a call is read from: bytes that begin with it
pub record IsCallRead (p : Parameters) (bytes : List ℕ) (c : Call) (size : ℕ) : Type 0 where
  pub spelled : bytes ≡ call_bytes c ++ drop size bytes
  pub size_is : size ≡ length (call_bytes c)
  pub fits : IsFitting p c
  pub row : HasRow p c
  pub tag : HasTag c
  pub bytes_are : HasBytes c
  pub in_range : IsCallInRange c

module _ (p : Parameters) (rest : List ℕ) where
  put-read : 23 + 10 * p.units ≤ 1 + length rest → AreBytes (1 ∷ rest) → IsCallRead p (1 ∷ rest) (call.Put (take 22 rest) (take (10 * p.units) (drop 22 rest))) (23 + 10 * p.units)
  put-read long each =
      let n = length-take-le 22 rest (omega (arith, long)) in
      let m = length-take-le (10 * p.units) (drop 22 rest) (omega (arith, long, length-drop 22 rest)) in
      let whole : take 22 rest ++ (take (10 * p.units) (drop 22 rest) ++ drop (22 + 10 * p.units) rest) ≡ rest =
      ap (λ (ys : List ℕ). take 22 rest ++ ys) (cut_at 22 (10 * p.units) rest) ∙ take-append-drop 22 rest in
      let behind : drop (23 + 10 * p.units) (1 ∷ rest) ≡ drop (22 + 10 * p.units) rest = ap (λ (k : ℕ). drop k (1 ∷ rest)) one_more in record {
        spelled =
            ap (λ (ys : List ℕ). 1 ∷ ys) (sym whole ∙ sym (append_assoc (take 22 rest) (take (10 * p.units) (drop 22 rest)) (drop (22 + 10 * p.units) rest)))
            ∙ ap (λ (ys : List ℕ). 1 ∷ (take 22 rest ++ take (10 * p.units) (drop 22 rest)) ++ ys) (sym behind);
        size_is = omega (arith, n, m, length-append (take 22 rest) (take (10 * p.units) (drop 22 rest)));
        fits = m;
        row = tt;
        tag = n;
        bytes_are = (bytes-front 22 rest (bytes_from 1 (1 ∷ rest) each), bytes-part 22 (10 * p.units) rest (bytes_from 1 (1 ∷ rest) each));
        in_range = tt;
      }
    where
      one_more : 23 + 10 * p.units ≡ suc (22 + 10 * p.units)
      one_more = omega arith

  drop-read : 23 ≤ 1 + length rest → AreBytes (2 ∷ rest) → IsCallRead p (2 ∷ rest) (call.Drop (take 22 rest)) 23
  drop-read long each =
      let n = length-take-le 22 rest (omega (arith, long)) in record {
        spelled = ap (λ (ys : List ℕ). 2 ∷ ys) (sym (take-append-drop 22 rest));
        size_is = omega (arith, n);
        fits = tt;
        row = tt;
        tag = n;
        bytes_are = bytes-front 22 rest (bytes_from 1 (2 ∷ rest) each);
        in_range = tt;
      }

  ask-read : IsCallRead p (3 ∷ rest) call.Ask 1
  ask-read = record { spelled = refl; size_is = refl; fits = tt; row = tt; tag = tt; bytes_are = tt; in_range = (tt) }

  repack-read : 10 ≤ 1 + length rest → slice_index rest 0 < p.rows → AreBytes (4 ∷ rest) → IsCallRead p (4 ∷ rest) (call.Repack (slice_index rest 0) (big_number 8 (drop 1 rest))) 10
  repack-read long row each =
      let all = bytes_from 1 (4 ∷ rest) each in
      let byte : big_bytes 1 (slice_index rest 0) ≡ take 1 rest = ap (big_bytes 1) (first rest) ∙ written_again 0 1 rest (omega (arith, long)) all in
      let number = written_again 1 8 rest (omega (arith, long)) all in
      let whole : take 1 rest ++ (take 8 (drop 1 rest) ++ drop 9 rest) ≡ rest = ap (λ (ys : List ℕ). take 1 rest ++ ys) (cut_at 1 8 rest) ∙ take-append-drop 1 rest in record {
        spelled =
            ap (λ (ys : List ℕ). 4 ∷ ys) (sym whole ∙ sym (append_assoc (take 1 rest) (take 8 (drop 1 rest)) (drop 9 rest)))
            ∙ (λ i. 4 ∷ (sym byte i ++ sym number i) ++ drop 9 rest);
        size_is = refl;
        fits = tt;
        row = row;
        tag = tt;
        bytes_are = tt;
        in_range = (omega (arith, all 0), big_from-lt 0 8 (drop 1 rest) (bytes_from 1 rest all));
      }
    where
      first : (xs : List ℕ) → slice_index xs 0 ≡ big_number 1 (drop 0 xs)
      first xs = omega (arith, get_or-drop 0 xs 0 0)

-- ---- the calls together

-- the tests of a front behind the first one: some bytes
rest_of : (p : Parameters) (b : ℕ) (rest : List ℕ) → is_call_front p (b ∷ rest) ≡ true
    → (nat_lt 0 (call_size p b) && (nat_le (call_size p b) (length (b ∷ rest)) && (if nat_eq b 4 then nat_lt (slice_index rest 0) p.rows else true))) ≡ true
rest_of p b rest front = and_right (nat_lt 0 (length (b ∷ rest))) _ front

-- enough bytes, and the row's test
sized : (p : Parameters) (b : ℕ) (rest : List ℕ) → is_call_front p (b ∷ rest) ≡ true → (call_size p b ≤ 1 + length rest) × ((if nat_eq b 4 then nat_lt (slice_index rest 0) p.rows else true) ≡ true)
sized p b rest front =
    let tests = and_right (nat_lt 0 (call_size p b)) (nat_le (call_size p b) (length (b ∷ rest)) && (if nat_eq b 4 then nat_lt (slice_index rest 0) p.rows else true)) (rest_of p b rest front) in
    let enough = leb-true (call_size p b) (length (b ∷ rest)) (and_left (nat_le (call_size p b) (length (b ∷ rest))) (if nat_eq b 4 then nat_lt (slice_index rest 0) p.rows else true) tests) in
    (omega (arith, enough), and_right (nat_le (call_size p b) (length (b ∷ rest))) (if nat_eq b 4 then nat_lt (slice_index rest 0) p.rows else true) tests)

no_call : (p : Parameters) (b : ℕ) (rest : List ℕ) → nat_eq b 1 ≡ false → nat_eq b 2 ≡ false → nat_eq b 3 ≡ false → nat_eq b 4 ≡ false → is_call_front p (b ∷ rest) ≡ true → ⊥
no_call p b rest n1 n2 n3 n4 front =
    let none : call_size p b ≡ 0 = rw n1 rw n2 rw n3 rw n4 refl in
    let some = and_left (nat_lt 0 (call_size p b)) (nat_le (call_size p b) (length (b ∷ rest)) && (if nat_eq b 4 then nat_lt (slice_index rest 0) p.rows else true)) (rest_of p b rest front) in
    false≢true (sym (ap (nat_lt 0) none) ∙ some)

-- the call at a front
pub call-read : (p : Parameters) (bytes : List ℕ) → AreBytes bytes → is_call_front p bytes ≡ true → IsCallRead p bytes (front_call p bytes) (call_size p (slice_index bytes 0))
call-read p [] each front = absurd cc
call-read p (b ∷ rest) each front =
    elim (eqb_tells b 1) [
      | inl put ↦ subst Goes (sym put.1) (λ each sized. put-read p rest sized.0 each) each (sized p b rest front)
      | inr not_put ↦ elim (eqb_tells b 2) [
        | inl dropped ↦ subst Goes (sym dropped.1) (λ each sized. drop-read p rest sized.0 each) each (sized p b rest front)
        | inr not_drop ↦ elim (eqb_tells b 3) [
          | inl ask ↦ subst Goes (sym ask.1) (λ each sized. ask-read p rest) each (sized p b rest front)
          | inr not_ask ↦ elim (eqb_tells b 4) [
            | inl repack ↦ subst Goes (sym repack.1) (λ each sized. repack-read p rest sized.0 (ltb-true (slice_index rest 0) p.rows sized.1) each) each (sized p b rest front)
            | inr not_repack ↦ absurd (no_call p b rest not_put.0 not_drop.0 not_ask.0 not_repack.0 front)
          ]
        ]
      ]
    ]
  where
    Goes : ℕ → Type 0
    Goes b = AreBytes (b ∷ rest) → (call_size p b ≤ 1 + length rest) × ((if nat_eq b 4 then nat_lt (slice_index rest 0) p.rows else true) ≡ true) → IsCallRead p (b ∷ rest) (front_call p (b ∷ rest)) (call_size p b)

-- ---- answers

-- what an answer is read from
pub record IsAnswerRead (bytes : List ℕ) (a : Answer) (size : ℕ) : Type 0 where
  pub spelled : bytes ≡ answer_bytes a ++ drop size bytes
  pub size_is : size ≡ length (answer_bytes a)
  pub in_range : IsAnswerInRange a
  pub kind : kind_of_answer a ≡ slice_index bytes 0

-- a number at the front of some bytes, and what stands behind it
pub number-read : (n : ℕ) (xs : List ℕ) → n ≤ length xs → AreBytes xs → xs ≡ big_bytes n (big_number n xs) ++ drop n xs
number-read n xs long each = sym (take-append-drop n xs) ∙ ap (λ (ys : List ℕ). ys ++ drop n xs) (sym (big_bytes-big_number n xs long each))

-- two numbers of n bytes each
two-read : (n : ℕ) (xs : List ℕ) → n + n ≤ length xs → AreBytes xs → xs ≡ (big_bytes n (big_number n xs) ++ big_bytes n (big_number n (drop n xs))) ++ drop (n + n) xs
two-read n xs long each =
    let first = number-read n xs (omega (arith, long)) each in
    let second = number-read n (drop n xs) (omega (arith, long, length-drop n xs)) (bytes_from n xs each) in
    first
    ∙ ap (λ (ys : List ℕ). big_bytes n (big_number n xs) ++ ys) (second ∙ ap (λ (ys : List ℕ). big_bytes n (big_number n (drop n xs)) ++ ys) (drop-drop n n xs))
    ∙ sym (append_assoc (big_bytes n (big_number n xs)) (big_bytes n (big_number n (drop n xs))) (drop (n + n) xs))

module _ (rest : List ℕ) where
  full-read : 9 ≤ 1 + length rest → AreBytes rest → IsAnswerRead (133 ∷ rest) (answer.Full (big_number 4 rest) (big_number 4 (drop 4 rest))) 9
  full-read long each = record {
    spelled = ap (λ (ys : List ℕ). 133 ∷ ys) (two-read 4 rest (omega (arith, long)) each);
    size_is = refl;
    in_range = (big_from-lt 0 4 rest each, big_from-lt 0 4 (drop 4 rest) (bytes_from 4 rest each));
    kind = refl;
  }

  done-read : 5 ≤ 1 + length rest → AreBytes rest → IsAnswerRead (135 ∷ rest) (answer.Done (big_number 2 rest) (big_number 2 (drop 2 rest))) 5
  done-read long each = record {
    spelled = ap (λ (ys : List ℕ). 135 ∷ ys) (two-read 2 rest (omega (arith, long)) each);
    size_is = refl;
    in_range = (big_from-lt 0 2 rest each, big_from-lt 0 2 (drop 2 rest) (bytes_from 2 rest each));
    kind = refl;
  }

  moved-read : 9 ≤ 1 + length rest → AreBytes rest → IsAnswerRead (136 ∷ rest) (answer.Moved (big_number 8 rest)) 9
  moved-read long each = record {
    spelled = ap (λ (ys : List ℕ). 136 ∷ ys) (number-read 8 rest (omega (arith, long)) each);
    size_is = refl;
    in_range = big_from-lt 0 8 rest each;
    kind = refl;
  }

  bare-read : (k : ℕ) (a : Answer) → k < 256 → numbers_of_answer a ≡ [] → kind_of_answer a ≡ k → IsAnswerInRange a → IsAnswerRead (k ∷ rest) a 1
  bare-read k a lt none is range =
      let spelled : answer_bytes a ≡ k ∷ [] = (λ i. (is i % 256) ∷ none i) ∙ ap (λ (b : ℕ). b ∷ []) (mod-eq_of_lt lt) in record {
        spelled = ap (λ (xs : List ℕ). xs ++ rest) (sym spelled);
        size_is = ap length (sym spelled);
        in_range = range;
        kind = is;
      }

either : (a b : Bool) → (a || b) ≡ true → (a ≡ true) ⊎ (b ≡ true)
either true b e = inl refl
either false b e = inr e

-- what holds of each kind of answer holds of a kind that answers a call
pub by-kind : (P : ℕ → Type 0) → P 129 → P 130 → P 131 → P 132 → P 133 → P 134 → P 135 → P 136 → (c : Call) (k : ℕ) → answers_to c k ≡ true → P k
by-kind P added replaced removed absent full seen done moved (call.Put tag label) k e =
    elim (either (nat_eq k 129 || nat_eq k 130) (nat_eq k 133) e) [
      | inl first ↦ elim (either (nat_eq k 129) (nat_eq k 130) first) [
        | inl one ↦ subst P (sym (eqb-true k 129 one)) added
        | inr one ↦ subst P (sym (eqb-true k 130 one)) replaced
      ]
      | inr last ↦ subst P (sym (eqb-true k 133 last)) full
    ]
by-kind P added replaced removed absent full seen done moved (call.Drop tag) k e =
    elim (either (nat_eq k 131) (nat_eq k 132) e) [
      | inl one ↦ subst P (sym (eqb-true k 131 one)) removed
      | inr last ↦ subst P (sym (eqb-true k 132 last)) absent
    ]
by-kind P added replaced removed absent full seen done moved call.Ask k e = subst P (sym (eqb-true k 134 e)) seen
by-kind P added replaced removed absent full seen done moved (call.Repack row from) k e =
    elim (either (nat_eq k 135) (nat_eq k 136) e) [
      | inl one ↦ subst P (sym (eqb-true k 135 one)) done
      | inr last ↦ subst P (sym (eqb-true k 136 last)) moved
    ]

pub answer-read : (c : Call) (bytes : List ℕ) → AreBytes bytes → is_answer_front c bytes ≡ true → IsAnswerRead bytes (front_answer bytes) (answer_size (slice_index bytes 0))
answer-read c [] each front = absurd cc
answer-read c (b ∷ rest) each front =
    by-kind Goes (λ long. bare-read rest 129 answer.Added (omega arith) refl refl tt) (λ long. bare-read rest 130 answer.Replaced (omega arith) refl refl tt) (λ long. bare-read rest 131 answer.Removed (omega arith) refl refl tt)
    (λ long. bare-read rest 132 answer.Absent (omega arith) refl refl tt) (λ long. full-read rest long all) (λ long. bare-read rest 134 answer.Seen (omega arith) refl refl tt) (λ long. done-read rest long all) (λ long. moved-read rest long all)
    c b (and_left (answers_to c b) (nat_le (answer_size b) (length (b ∷ rest))) tests) (omega (arith, leb-true (answer_size b) (length (b ∷ rest)) (and_right (answers_to c b) (nat_le (answer_size b) (length (b ∷ rest))) tests)))
  where
    all : AreBytes rest
    all = bytes_from 1 (b ∷ rest) each

    tests : (answers_to c b && nat_le (answer_size b) (length (b ∷ rest))) ≡ true
    tests = and_right (nat_lt 0 (length (b ∷ rest))) _ front

    Goes : ℕ → Type 0
    Goes k = answer_size k ≤ 1 + length rest → IsAnswerRead (k ∷ rest) (front_answer (k ∷ rest)) (answer_size k)

-- ---- the front of bytes, test by test

module _ (p : Parameters) (bytes : List ℕ) (place : ℕ) (is_place : place ≡ big_number 8 bytes) (c : Call) where
  both : {a b c d : Bool} → a ≡ true → b ≡ true → c ≡ true → (a && (b && (c && d))) ≡ d
  both x y z = rw x rw y rw z refl

  pub entry-front : 8 ≤ length bytes → place < most_entries → is_call_front p (drop 8 bytes) ≡ true → c ≡ front_call p (drop 8 bytes) → is_entry_front p bytes ≡ is_answer_front c (behind_call p bytes)
  entry-front long low front is =
      both (le-leb 8 (length bytes) long) (lt-ltb (big_number 8 bytes) most_entries (subst (λ (n : ℕ). n < most_entries) is_place low)) front
      ∙ ap (λ (d : Call). is_answer_front d (behind_call p bytes)) (sym is)

  -- with the parts as they were cut off
  module _ (b8 more : List ℕ) (size : ℕ) (is_b8 : b8 ≡ drop 8 bytes) (is_size : size ≡ call_size p (slice_index b8 0)) (is_more : more ≡ drop size b8) where
    pub behind-told : more ≡ behind_call p bytes
    behind-told = is_more ∙ (λ i. drop (is_size i) b8) ∙ (λ i. drop (call_size p (slice_index (is_b8 i) 0)) (is_b8 i))

    pub entry-told : 8 ≤ length bytes → place < most_entries → is_call_front p b8 ≡ true → c ≡ front_call p b8 → is_entry_front p bytes ≡ is_answer_front c more
    entry-told long low front is =
        entry-front long low (ap (is_call_front p) (sym is_b8) ∙ front) (is ∙ ap (front_call p) is_b8) ∙ ap (is_answer_front c) (sym behind-told)
