-- What stands at the front of bytes: what each case tells, and that more bytes do not change a fault.
use Rattle.std.proofs.Common.{◌≡◌, ◌⊎◌, inl, inr, ℕ, ◌+◌, ◌-◌, ◌^◌, ◌<◌, ◌≤◌, Bool, true, false, ◌&&◌, not, nat_eq, nat_lt, nat_le, List, [], ◌++◌, length, take, drop, slice_index, Option, None, Some, refl, sym, ap, ◌∙◌, arith, length-append, length-drop, if◌then◌else◌}
use Rattle.std.proofs.lemmas.Bool.{eqb-false, leb-true, eqb-true, ne_eqb, le-ltb, ltb-true, ltb-false, and_parts, and_cases, not-false}
use Rattle.std.proofs.lemmas.List.{get_or_append_left, append-nil, nil_from_length, length-take-le}
use Rattle.byteorder.specs.Endian.{big_number}
use Rattle.byteorder.specs.Numbers.{big_from-append}
use Rattle.psi_frames.specs.Frames.{Fault, Short, Length, Kind, Table, IsFrame, frame_bytes, front_fault, is_frame_length, go_kind, head_bytes, greatest_length}
use Rattle.psi_frames.specs.Feeds.{IsBegun, table_of}
use Rattle.psi_frames.specs.Cuts.{BeginsWhole}
use Rattle.psi_frames.specs.FrontFrames.{front_frame, behind_front}
use Rattle.psi_frames.proofs.FrameLaws.{frame-front_frame, IsSpellable-front_frame}

-- the tests in their order: no byte, too few for a length word, a length of the table, too few for a kind, a kind of the table, a Go
-- frame with a body, too few for the whole
abbrev tested : (none few ranged headless kind long cut : Bool) → (n k : ℕ) → Option Fault
tested none few ranged headless kind long cut n k =
    if none then None
    else (if few then Some Short
    else (if not ranged then Some (Length n)
    else (if headless then Some Short
    else (if not kind then Some (Kind k)
    else (if long then Some (Length n)
    else (if cut then Some Short else None))))))

-- a Go frame with a body
abbrev pub is_long_go : (kind n : ℕ) → Bool
is_long_go kind n = nat_eq kind go_kind && not (nat_eq n head_bytes)

as_tested : (table : Table) (bytes : List ℕ) → front_fault table bytes
    ≡ tested (nat_eq (length bytes) 0) (nat_lt (length bytes) 4) (is_frame_length table (big_number 4 bytes)) (nat_lt (length bytes) 5) (table.has_kind (slice_index bytes 4)) (is_long_go (slice_index bytes 4) (big_number 4 bytes)) (nat_lt (length bytes) (4 + big_number 4 bytes)) (big_number 4 bytes) (slice_index bytes 4)
unfolding front_fault
as_tested table bytes = refl

-- no byte is counted, where there are some
some_bytes : (bytes : List ℕ) → 0 < length bytes → nat_eq (length bytes) 0 ≡ false
some_bytes bytes some = ne_eqb (length bytes) 0 (λ e. omega arith)

-- there are bytes of a length word, and it is none of the table
pub fault-length : (table : Table) (bytes : List ℕ) → 4 ≤ length bytes → is_frame_length table (big_number 4 bytes) ≡ false
    → front_fault table bytes ≡ Some (Length (big_number 4 bytes))
fault-length table bytes four l =
    let z = some_bytes bytes (omega arith) in
    let s = le-ltb (length bytes) 4 four in
    as_tested table bytes ∙ by_length _ _ _ _ _ _ _ _ _ z s l where
      by_length : (z s l h k g c : Bool) (n m : ℕ) → z ≡ false → s ≡ false → l ≡ false → tested z s l h k g c n m ≡ Some (Length n)
      by_length z s l h k g c n m p q r = rw (p, q, r) refl

-- the kind is none of the table
pub fault-kind : (table : Table) (bytes : List ℕ) → 5 ≤ length bytes → is_frame_length table (big_number 4 bytes) ≡ true → table.has_kind (slice_index bytes 4) ≡ false
    → front_fault table bytes ≡ Some (Kind (slice_index bytes 4))
fault-kind table bytes five l k =
    let z = some_bytes bytes (omega arith) in
    let s = le-ltb (length bytes) 4 (omega arith) in
    let h = le-ltb (length bytes) 5 five in
    as_tested table bytes ∙ by_kind _ _ _ _ _ _ _ _ _ z s l h k where
      by_kind : (z s l h k g c : Bool) (n m : ℕ) → z ≡ false → s ≡ false → l ≡ true → h ≡ false → k ≡ false → tested z s l h k g c n m ≡ Some (Kind m)
      by_kind z s l h k g c n m p q r t u = rw (p, q, r, t, u) refl

-- it is a Go frame with a body
pub fault-go : (table : Table) (bytes : List ℕ) → 5 ≤ length bytes → is_frame_length table (big_number 4 bytes) ≡ true → table.has_kind (slice_index bytes 4) ≡ true
    → is_long_go (slice_index bytes 4) (big_number 4 bytes) ≡ true → front_fault table bytes ≡ Some (Length (big_number 4 bytes))
fault-go table bytes five l k g =
    let z = some_bytes bytes (omega arith) in
    let s = le-ltb (length bytes) 4 (omega arith) in
    let h = le-ltb (length bytes) 5 five in
    as_tested table bytes ∙ by_go _ _ _ _ _ _ _ _ _ z s l h k g where
      by_go : (z s l h k g c : Bool) (n m : ℕ) → z ≡ false → s ≡ false → l ≡ true → h ≡ false → k ≡ true → g ≡ true → tested z s l h k g c n m ≡ Some (Length n)
      by_go z s l h k g c n m p q r t u v = rw (p, q, r, t, u, v) refl

-- no fault, and the frame is whole
pub begins-whole : (table : Table) (bytes : List ℕ) → 5 ≤ length bytes → is_frame_length table (big_number 4 bytes) ≡ true → table.has_kind (slice_index bytes 4) ≡ true
    → is_long_go (slice_index bytes 4) (big_number 4 bytes) ≡ false → 4 + big_number 4 bytes ≤ length bytes → BeginsWhole table bytes
begins-whole table bytes five l k g long =
    let z = some_bytes bytes (omega arith) in
    let s = le-ltb (length bytes) 4 (omega arith) in
    let h = le-ltb (length bytes) 5 five in
    let c = le-ltb (length bytes) (4 + big_number 4 bytes) long in
    record { some = omega arith; faultless = as_tested table bytes ∙ by_whole _ _ _ _ _ _ _ _ _ z s l h k g c } where
      by_whole : (z s l h k g c : Bool) (n m : ℕ) → z ≡ false → s ≡ false → l ≡ true → h ≡ false → k ≡ true → g ≡ false → c ≡ false → tested z s l h k g c n m ≡ None
      by_whole z s l h k g c n m p q r t u v w = rw (p, q, r, t, u, v, w) refl

-- What a whole frame at the front tells of the tests.
pub record Passes (table : Table) (bytes : List ℕ) : Type 0 where
  pub ranged : is_frame_length table (big_number 4 bytes) ≡ true
  pub kind : table.has_kind (slice_index bytes 4) ≡ true
  pub short_go : is_long_go (slice_index bytes 4) (big_number 4 bytes) ≡ false
  pub five : 5 ≤ length bytes
  pub whole : 4 + big_number 4 bytes ≤ length bytes

pub passes : (table : Table) (bytes : List ℕ) → BeginsWhole table bytes → Passes table bytes
passes table bytes begins =
    let t = passed (nat_eq (length bytes) 0) (nat_lt (length bytes) 4) (is_frame_length table (big_number 4 bytes)) (nat_lt (length bytes) 5) (table.has_kind (slice_index bytes 4)) (is_long_go (slice_index bytes 4) (big_number 4 bytes)) (nat_lt (length bytes) (4 + big_number 4 bytes)) (big_number 4 bytes) (slice_index bytes 4)
    (some_bytes bytes begins.some) (sym (as_tested table bytes) ∙ begins.faultless) in
    record {
      ranged = t.0;
      kind = t.2;
      short_go = t.3;
      five = ltb-false (length bytes) 5 t.1;
      whole = ltb-false (length bytes) (4 + big_number 4 bytes) t.4;
    } where
      passed : (z s l h k g c : Bool) (n m : ℕ) → z ≡ false → tested z s l h k g c n m ≡ None → (l ≡ true) × (h ≡ false) × (k ≡ true) × (g ≡ false) × (c ≡ false)
      passed true s l h k g c n m p e = absurd (cc)
      passed false true l h k g c n m p e = absurd (cc)
      passed false false false h k g c n m p e = absurd (cc)
      passed false false true true k g c n m p e = absurd (cc)
      passed false false true false false g c n m p e = absurd (cc)
      passed false false true false true true c n m p e = absurd (cc)
      passed false false true false true false true n m p e = absurd (cc)
      passed false false true false true false false n m p e = (refl, refl, refl, refl, refl)

-- What keeps a frame from being whole: too few bytes for its length word, or for its kind, or for all of it.
pub record IsCutShort (table : Table) (bytes : List ℕ) : Type 0 where
  pub few : (length bytes < 5) ⊎ ((4 ≤ length bytes) × (is_frame_length table (big_number 4 bytes) ≡ true) × (length bytes < 4 + big_number 4 bytes))

pub cut_short : (table : Table) (bytes : List ℕ) → IsBegun table bytes → IsCutShort table bytes
cut_short table bytes (inl none) = record { few = inl (omega (arith, ap length none)) }
cut_short table bytes (inr short) = elim (shortened (nat_eq (length bytes) 0) (nat_lt (length bytes) 4) (is_frame_length table (big_number 4 bytes)) (nat_lt (length bytes) 5) (table.has_kind (slice_index bytes 4)) (is_long_go (slice_index bytes 4) (big_number 4 bytes)) (nat_lt (length bytes) (4 + big_number 4 bytes)) (big_number 4 bytes) (slice_index bytes 4) (sym (as_tested table bytes) ∙ short)) [
  | inl s ↦ let few = ltb-true (length bytes) 4 s in record { few = inl (omega arith) }
  | inr more ↦ elim more [
    | inl h ↦ record { few = inl (ltb-true (length bytes) 5 h) }
    | inr t ↦ record { few = inr (ltb-false (length bytes) 4 t.0, t.1, ltb-true (length bytes) (4 + big_number 4 bytes) t.2) }
  ]
] where
  shortened : (z s l h k g c : Bool) (n m : ℕ) → tested z s l h k g c n m ≡ Some Short → (s ≡ true) ⊎ ((h ≡ true) ⊎ ((s ≡ false) × (l ≡ true) × (c ≡ true)))
  shortened true s l h k g c n m e = absurd (cc)
  shortened false true l h k g c n m e = inl refl
  shortened false false false h k g c n m e = absurd (cc)
  shortened false false true true k g c n m e = inr (inl refl)
  shortened false false true false false g c n m e = absurd (cc)
  shortened false false true false true true c n m e = absurd (cc)
  shortened false false true false true false true n m e = inr (inr (refl, refl, refl))
  shortened false false true false true false false n m e = absurd (cc)

-- What a fault tells: a length word that is none of the table, a kind that is none, or a Go frame with a body.
pub record IsFaulty (table : Table) (bytes : List ℕ) (fault : Fault) : Type 0 where
  pub told :
      ((4 ≤ length bytes) × (is_frame_length table (big_number 4 bytes) ≡ false) × (fault ≡ Length (big_number 4 bytes)))
      ⊎ ((5 ≤ length bytes) × (is_frame_length table (big_number 4 bytes) ≡ true)
      × (((table.has_kind (slice_index bytes 4) ≡ false) × (fault ≡ Kind (slice_index bytes 4)))
      ⊎ ((table.has_kind (slice_index bytes 4) ≡ true) × (is_long_go (slice_index bytes 4) (big_number 4 bytes) ≡ true) × (fault ≡ Length (big_number 4 bytes)))))

pub faulty : (table : Table) (bytes : List ℕ) (fault : Fault) → front_fault table bytes ≡ Some fault → (fault ≡ Short → ⊥) → IsFaulty table bytes fault
faulty table bytes fault e other = elim (wrong (nat_eq (length bytes) 0) (nat_lt (length bytes) 4) (is_frame_length table (big_number 4 bytes)) (nat_lt (length bytes) 5) (table.has_kind (slice_index bytes 4)) (is_long_go (slice_index bytes 4) (big_number 4 bytes)) (nat_lt (length bytes) (4 + big_number 4 bytes)) (big_number 4 bytes) (slice_index bytes 4) fault (sym (as_tested table bytes) ∙ e) other) [
  | inl l ↦ record { told = inl (ltb-false (length bytes) 4 l.0, l.1, l.2) }
  | inr more ↦ record { told = inr (ltb-false (length bytes) 5 more.0, more.1, more.2) }
] where
  wrong : (z s l h k g c : Bool) (n m : ℕ) (fault : Fault) → tested z s l h k g c n m ≡ Some fault → (fault ≡ Short → ⊥)
      → ((s ≡ false) × (l ≡ false) × (fault ≡ Length n)) ⊎ ((h ≡ false) × (l ≡ true) × (((k ≡ false) × (fault ≡ Kind m)) ⊎ ((k ≡ true) × (g ≡ true) × (fault ≡ Length n))))
  wrong true s l h k g c n m fault e other = absurd (cc)
  wrong false true l h k g c n m fault e other = absurd (other (cc))
  wrong false false false h k g c n m fault e other = inl (refl, refl, cc)
  wrong false false true true k g c n m fault e other = absurd (other (cc))
  wrong false false true false false g c n m fault e other = inr (refl, refl, inl (refl, cc))
  wrong false false true false true true c n m fault e other = inr (refl, refl, inr (refl, refl, cc))
  wrong false false true false true false true n m fault e other = absurd (other (cc))
  wrong false false true false true false false n m fault e other = absurd (cc)

-- the length word and the kind stay where more bytes come
length_word-append : (bytes more : List ℕ) → 4 ≤ length bytes → big_number 4 (bytes ++ more) ≡ big_number 4 bytes
length_word-append bytes more four = big_from-append 4 bytes more four

kind-append : (bytes more : List ℕ) → 5 ≤ length bytes → slice_index (bytes ++ more) 4 ≡ slice_index bytes 4
kind-append bytes more five = get_or_append_left bytes more 0 4 (omega arith)

-- a fault stays, whatever comes behind it
pub fault-stays : (table : Table) (bytes more : List ℕ) (fault : Fault) → front_fault table bytes ≡ Some fault → (fault ≡ Short → ⊥)
    → front_fault table (bytes ++ more) ≡ Some fault
fault-stays table bytes more fault e other = elim (faulty table bytes fault e other).told [
  | inl l ↦
      let word = length_word-append bytes more l.0 in
      let long : 4 ≤ length (bytes ++ more) = omega (arith, length-append bytes more, l.0) in
      fault-length table (bytes ++ more) long (ap (is_frame_length table) word ∙ l.1) ∙ ap (λ (n : ℕ). Some (Length n)) word ∙ ap Some (sym l.2)
  | inr k ↦
      let word = length_word-append bytes more (omega (arith, k.0)) in
      let kind = kind-append bytes more k.0 in
      let long : 5 ≤ length (bytes ++ more) = omega (arith, length-append bytes more, k.0) in
      let ranged = ap (is_frame_length table) word ∙ k.1 in
      elim k.2 [
        | inl bad ↦ fault-kind table (bytes ++ more) long ranged (ap table.has_kind kind ∙ bad.0) ∙ ap (λ (n : ℕ). Some (Kind n)) kind ∙ ap Some (sym bad.1)
        | inr go ↦
            fault-go table (bytes ++ more) long ranged (ap table.has_kind kind ∙ go.0) (ap (λ (m : ℕ). is_long_go m (big_number 4 (bytes ++ more))) kind ∙ ap (is_long_go (slice_index bytes 4)) word ∙ go.1)
            ∙ ap (λ (n : ℕ). Some (Length n)) word ∙ ap Some (sym go.2)
      ]
]

-- the tables' length words: 7 at least, and the greatest at most
pub ranged-bounds : (replies : Bool) (n : ℕ) → is_frame_length (table_of replies) n ≡ true → ((table_of replies).least ≤ n) × (head_bytes ≤ n) × (n ≤ greatest_length)
ranged-bounds replies n l = ranged-bounds_by replies n (and_parts _ _ l) where
  ranged-bounds_by : (replies : Bool) (n : ℕ) → (nat_le (table_of replies).least n ≡ true) × (nat_le n greatest_length ≡ true)
      → ((table_of replies).least ≤ n) × (head_bytes ≤ n) × (n ≤ greatest_length)
  ranged-bounds_by true n t = let a = leb-true (head_bytes + 1) n t.0 in (a, omega arith, leb-true n greatest_length t.1)
  ranged-bounds_by false n t = let a = leb-true head_bytes n t.0 in (a, a, leb-true n greatest_length t.1)

-- a frame that has begun has few bytes
pub begun-bound : (replies : Bool) (bytes : List ℕ) → IsBegun (table_of replies) bytes → length bytes < 2 ^ 32
begun-bound replies bytes begun = elim (cut_short (table_of replies) bytes begun).few [
  | inl few ↦ omega (arith, few)
  | inr more ↦ let b = ranged-bounds replies (big_number 4 bytes) more.1 in omega (arith, b.2, more.2)
]

-- where a piece makes it whole, it ends in that piece
pub begun-shorter : (replies : Bool) (bytes more : List ℕ) → IsBegun (table_of replies) bytes → BeginsWhole (table_of replies) (bytes ++ more)
    → length bytes ≤ 4 + big_number 4 (bytes ++ more)
begun-shorter replies bytes more begun whole =
    let b = ranged-bounds replies (big_number 4 (bytes ++ more)) (passes (table_of replies) (bytes ++ more) whole).ranged in
    elim (cut_short (table_of replies) bytes begun).few [
      | inl few ↦ omega (arith, few, b.1)
      | inr cut ↦ omega (arith, cut.2, length_word-append bytes more cut.0)
    ]

-- a Go frame has no body
no_long_go : (kind n : ℕ) → is_long_go kind n ≡ false → kind ≡ go_kind → n ≡ head_bytes
no_long_go kind n short go = elim (and_cases (nat_eq kind go_kind) (not (nat_eq n head_bytes)) short) [
  | inl other ↦ absurd (eqb-false kind go_kind other go)
  | inr same ↦ eqb-true n head_bytes (not-false (nat_eq n head_bytes) same)
]

-- the whole frame that bytes begin with
pub whole-frame : (replies : Bool) (rest whole behind : List ℕ) → rest ≡ whole ++ behind → BeginsWhole (table_of replies) rest → length whole ≡ 4 + big_number 4 rest
    → ((i : ℕ) → slice_index whole i < 256) → IsFrame (table_of replies) (front_frame whole) × (whole ≡ frame_bytes (front_frame whole))
unfolding front_frame behind_front
whole-frame replies rest whole behind joined begins exact each =
    let table = table_of replies in
    let p = passes table rest begins in
    let bounds = ranged-bounds replies (big_number 4 rest) p.ranged in
    let least = bounds.0 in
    let seven = bounds.1 in
    let most = bounds.2 in
    let long : 11 ≤ length whole = omega arith in
    let word : big_number 4 rest ≡ big_number 4 whole = ap (big_number 4) joined ∙ length_word-append whole behind (omega arith) in
    let kind : slice_index rest 4 ≡ slice_index whole 4 = ap (λ (t : List ℕ). slice_index t 4) joined ∙ kind-append whole behind (omega arith) in
    let seven_whole : head_bytes ≤ big_number 4 whole = omega (arith, seven, word) in
    let most_whole : big_number 4 whole ≤ greatest_length = omega (arith, most, word) in
    let exact_whole : 4 + big_number 4 whole ≤ length whole = omega (arith, exact, word) in
    let size : length (take (big_number 4 whole - head_bytes) (drop 11 whole)) ≡ big_number 4 whole - head_bytes =
    length-take-le (big_number 4 whole - head_bytes) (drop 11 whole) (omega (arith, exact_whole, length-drop 11 whole)) in
    let none : behind_front whole ≡ [] =
    nil_from_length (behind_front whole) (omega (arith, exact, word, seven_whole, length-drop (big_number 4 whole - head_bytes) (drop 11 whole), length-drop 11 whole)) in (
      record {
        spellable = IsSpellable-front_frame whole seven_whole most_whole exact_whole each;
        least = omega (arith, size, least, word, seven_whole);
        kind = ap table.has_kind (sym kind) ∙ p.kind;
        go = λ go.
            let short = no_long_go (slice_index rest 4) (big_number 4 rest) p.short_go (kind ∙ go) in
            nil_from_length (take (big_number 4 whole - head_bytes) (drop 11 whole)) (omega (arith, size, short, word));
      },
      frame-front_frame whole long seven_whole exact_whole each ∙ ap (λ (t : List ℕ). frame_bytes (front_frame whole) ++ t) none ∙ append-nil (frame_bytes (front_frame whole)),
    )
