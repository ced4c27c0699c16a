-- Replies are read back from their frames, and each row of their table is a reply.
use Rattle.std.proofs.Common.{◌≡◌, inl, inr, ℕ, ◌+◌, ◌^◌, ◌<◌, ◌≤◌, Bool, true, false, ◌&&◌, nat_eq, nat_le, List, [], ◌++◌, length, drop, slice_index, refl, sym, ap, subst, ◌∙◌, arith, append_assoc, length-drop, if◌then◌else◌}
use Rattle.std.proofs.lemmas.Bool.{and_parts, cases_eq, eqb-true, false_from_ne_true, false≢true, leb-true, ne_eqb}
use Rattle.std.proofs.lemmas.List.{drop-drop, take-append-drop, take_all}
use Rattle.byteorder.specs.Endian.{big_bytes, big_number}
use Rattle.byteorder.specs.Numbers.{big_from-lt, big_number-reads_back}
use Rattle.item_slots.proofs.BigBytes.{big_bytes-big_number, bytes_from, written_again}
use Rattle.psi_frames.specs.declared.reply.Reply.{Reply}
use Rattle.psi_frames.specs.declared.reply.Reply.TheVariants as reply
use Rattle.psi_frames.specs.Frames.{is_kind_between, reply_content, reply_kind}
use Rattle.psi_frames.specs.ReplyFrames.{AreInRange, Tells, is_reply_row, told_reply}

-- ---- what is written is read back

reads-added : (place : ℕ) → place < 2 ^ 64 → big_number 8 (big_bytes 8 place) ≡ place
reads-added place few = big_number-reads_back 8 place [] few

again : (r : Reply) → AreInRange r → told_reply (reply_kind r) (reply_content r) ≡ r
unfolding told_reply
again (reply.Added place) range = ap (λ (n : ℕ). reply.Added n) (reads-added place range)
again (reply.Replaced place) range = ap (λ (n : ℕ). reply.Replaced n) (reads-added place range)
again (reply.Removed place) range = ap (λ (n : ℕ). reply.Removed n) (reads-added place range)
again (reply.Absent place) range = ap (λ (n : ℕ). reply.Absent n) (reads-added place range)
again (reply.Full place planes cells) range =
    let p : big_number 8 (big_bytes 8 place ++ big_bytes 4 planes ++ big_bytes 4 cells) ≡ place = big_number-reads_back 8 place (big_bytes 4 planes ++ big_bytes 4 cells) range.0 in
    let q : big_number 4 (big_bytes 4 planes ++ big_bytes 4 cells) ≡ planes = big_number-reads_back 4 planes (big_bytes 4 cells) range.1 in
    let s : big_number 4 (big_bytes 4 cells) ≡ cells = big_number-reads_back 4 cells [] range.2 in
    λ i. reply.Full (p i) (q i) (s i)
again (reply.Answer place body) range =
    let p : big_number 8 (big_bytes 8 place ++ body) ≡ place = big_number-reads_back 8 place body range in
    λ i. reply.Answer (p i) body
again (reply.Repacked place from before after) range =
    let p = big_number-reads_back 8 place (big_bytes 8 from ++ big_bytes 2 before ++ big_bytes 2 after) range.0 in
    let q = big_number-reads_back 8 from (big_bytes 2 before ++ big_bytes 2 after) range.1 in
    let s = big_number-reads_back 2 before (big_bytes 2 after) range.2 in
    let t = big_number-reads_back 2 after [] range.3 in
    λ i. reply.Repacked (p i) (q i) (s i) (t i)
again (reply.Moved place from stamp) range =
    let p = big_number-reads_back 8 place (big_bytes 8 from ++ big_bytes 8 stamp) range.0 in
    let q = big_number-reads_back 8 from (big_bytes 8 stamp) range.1 in
    let s = big_number-reads_back 8 stamp [] range.2 in
    λ i. reply.Moved (p i) (q i) (s i)
again (reply.Refused code) range = let p = big_number-reads_back 1 code [] range in ap (λ (n : ℕ). reply.Refused n) (omega (arith, p))

-- a frame tells one reply alone
pub tells-again : (kind : ℕ) (body : List ℕ) (r : Reply) → Tells kind body r → told_reply kind body ≡ r
tells-again kind body r tells = (λ i. told_reply (sym tells.same_kind i) (sym tells.same_body i)) ∙ again r tells.range

-- ---- what is read is written again

-- the last n bytes, and those before them
last-bytes : (k n : ℕ) (body : List ℕ) → length body ≡ k + n → ((i : ℕ) → slice_index body i < 256) → big_bytes n (big_number n (drop k body)) ≡ drop k body
last-bytes k n body size each =
    written_again k n body (omega (arith, size)) each ∙ take_all n (drop k body) (omega (arith, size, length-drop k body))

next-bytes : (k n : ℕ) (body : List ℕ) → k + n ≤ length body → ((i : ℕ) → slice_index body i < 256) → big_bytes n (big_number n (drop k body)) ++ drop (k + n) body ≡ drop k body
next-bytes k n body size each =
    (λ i. written_again k n body size each i ++ sym (drop-drop n k body) i) ∙ take-append-drop n (drop k body)

first-bytes : (n : ℕ) (body : List ℕ) → n ≤ length body → ((i : ℕ) → slice_index body i < 256) → big_bytes n (big_number n body) ++ drop n body ≡ body
first-bytes n body size each = ap (λ (t : List ℕ). t ++ drop n body) (big_bytes-big_number n body size each) ∙ take-append-drop n body

-- numbers of bytes are in their ranges
below : (k n : ℕ) (body : List ℕ) → ((i : ℕ) → slice_index body i < 256) → big_number n (drop k body) < 256 ^ n
below k n body each = big_from-lt 0 n (drop k body) (bytes_from k body each)

-- a body of a place alone
place-body : (body : List ℕ) → length body ≡ 8 → ((i : ℕ) → slice_index body i < 256) → big_bytes 8 (big_number 8 body) ≡ body
place-body body size each = last-bytes 0 8 body size each

tells-full : (body : List ℕ) → length body ≡ 16 → ((i : ℕ) → slice_index body i < 256)
    → Tells 133 body (reply.Full (big_number 8 body) (big_number 4 (drop 8 body)) (big_number 4 (drop 12 body)))
tells-full body size each = record {
  same_kind = refl;
  same_body =
      ap (λ (t : List ℕ). big_bytes 8 (big_number 8 body) ++ big_bytes 4 (big_number 4 (drop 8 body)) ++ t) (last-bytes 12 4 body size each)
      ∙ append_assoc (big_bytes 8 (big_number 8 body)) (big_bytes 4 (big_number 4 (drop 8 body))) (drop 12 body)
      ∙ ap (λ (t : List ℕ). big_bytes 8 (big_number 8 body) ++ t) (next-bytes 8 4 body (omega (arith, size)) each) ∙ first-bytes 8 body (omega (arith, size)) each;
  range = (below 0 8 body each, below 8 4 body each, below 12 4 body each);
}

tells-answer : (body : List ℕ) → 8 ≤ length body → ((i : ℕ) → slice_index body i < 256) → Tells 134 body (reply.Answer (big_number 8 body) (drop 8 body))
tells-answer body size each = record { same_kind = refl; same_body = first-bytes 8 body size each; range = below 0 8 body each }

tells-repacked : (body : List ℕ) → length body ≡ 20 → ((i : ℕ) → slice_index body i < 256)
    → Tells 135 body (reply.Repacked (big_number 8 body) (big_number 8 (drop 8 body)) (big_number 2 (drop 16 body)) (big_number 2 (drop 18 body)))
tells-repacked body size each =
    let place = big_bytes 8 (big_number 8 body) in
    let from = big_bytes 8 (big_number 8 (drop 8 body)) in
    let before = big_bytes 2 (big_number 2 (drop 16 body)) in
    record {
      same_kind = refl;
      same_body =
          ap (λ (t : List ℕ). place ++ from ++ before ++ t) (last-bytes 18 2 body size each) ∙ append_assoc (place ++ from) before (drop 18 body)
          ∙ ap (λ (t : List ℕ). place ++ from ++ t) (next-bytes 16 2 body (omega (arith, size)) each) ∙ append_assoc place from (drop 16 body)
          ∙ ap (λ (t : List ℕ). place ++ t) (next-bytes 8 8 body (omega (arith, size)) each) ∙ first-bytes 8 body (omega (arith, size)) each;
      range = (below 0 8 body each, below 8 8 body each, below 16 2 body each, below 18 2 body each);
    }

tells-moved : (body : List ℕ) → length body ≡ 24 → ((i : ℕ) → slice_index body i < 256)
    → Tells 136 body (reply.Moved (big_number 8 body) (big_number 8 (drop 8 body)) (big_number 8 (drop 16 body)))
tells-moved body size each =
    let place = big_bytes 8 (big_number 8 body) in
    let from = big_bytes 8 (big_number 8 (drop 8 body)) in
    record {
      same_kind = refl;
      same_body =
          ap (λ (t : List ℕ). place ++ from ++ t) (last-bytes 16 8 body size each) ∙ append_assoc place from (drop 16 body)
          ∙ ap (λ (t : List ℕ). place ++ t) (next-bytes 8 8 body (omega (arith, size)) each) ∙ first-bytes 8 body (omega (arith, size)) each;
      range = (below 0 8 body each, below 8 8 body each, below 16 8 body each);
    }

tells-refused : (body : List ℕ) → length body ≡ 1 → ((i : ℕ) → slice_index body i < 256) → Tells 137 body (reply.Refused (slice_index body 0))
tells-refused body size each =
    let same : slice_index body 0 ≡ big_number 1 body = omega arith in
    record {
      same_kind = refl;
      same_body = ap (λ (n : ℕ). big_bytes 1 n) same ∙ last-bytes 0 1 body size each;
      range = each 0;
    }

-- a kind that is none of the table is in no row
no_row : (kind bytes : ℕ) → (kind ≡ 129 → ⊥) → (kind ≡ 130 → ⊥) → (kind ≡ 131 → ⊥) → (kind ≡ 132 → ⊥) → (kind ≡ 133 → ⊥) → (kind ≡ 134 → ⊥) → (kind ≡ 135 → ⊥)
    → (kind ≡ 136 → ⊥) → (kind ≡ 137 → ⊥) → is_reply_row kind bytes ≡ true → ⊥
no_row kind bytes a b c d e f g h j is =
    let between : is_kind_between 129 132 kind ≡ false =
    false_from_ne_true (is_kind_between 129 132 kind) (λ t. let x = and_parts (nat_le 129 kind) (nat_le kind 132) t in outside kind a b c d (leb-true 129 kind x.0) (leb-true kind 132 x.1)) in
    none (is_kind_between 129 132 kind) (nat_eq kind 133) (nat_eq kind 134) (nat_eq kind 135) (nat_eq kind 136) (nat_eq kind 137) between (ne_eqb kind 133 e) (ne_eqb kind 134 f) (ne_eqb kind 135 g) (ne_eqb kind 136 h) (ne_eqb kind 137 j) is where
      outside : (kind : ℕ) → (kind ≡ 129 → ⊥) → (kind ≡ 130 → ⊥) → (kind ≡ 131 → ⊥) → (kind ≡ 132 → ⊥) → 129 ≤ kind → kind ≤ 132 → ⊥
      outside kind a b c d low high = omega arith

      untold : (u v w x y z : Bool) → u ≡ false → v ≡ false → w ≡ false → x ≡ false → y ≡ false → z ≡ false
          → (if u then nat_eq bytes 8 else (if v then nat_eq bytes 16 else (if w then nat_le 8 bytes else (if x then nat_eq bytes 20 else (if y then nat_eq bytes 24 else z && nat_eq bytes 1))))) ≡ false
      untold u v w x y z p q r s t o = rw (p, q, r, s, t, o) refl

      none : (u v w x y z : Bool) → u ≡ false → v ≡ false → w ≡ false → x ≡ false → y ≡ false → z ≡ false
          → (if u then nat_eq bytes 8 else (if v then nat_eq bytes 16 else (if w then nat_le 8 bytes else (if x then nat_eq bytes 20 else (if y then nat_eq bytes 24 else z && nat_eq bytes 1))))) ≡ true → ⊥
      none u v w x y z p q r s t o is = false≢true (sym (untold u v w x y z p q r s t o) ∙ is)

-- a kind by its number
at_kind : (kind n : ℕ) (body : List ℕ) → kind ≡ n → (is_reply_row n (length body) ≡ true → Tells n body (told_reply n body)) → is_reply_row kind (length body) ≡ true
    → Tells kind body (told_reply kind body)
at_kind kind n body same tells is = subst (λ (k : ℕ). is_reply_row k (length body) ≡ true → Tells k body (told_reply k body)) (sym same) tells is

-- a frame of a row tells the reply that is read from it
pub row-tells : (kind : ℕ) (body : List ℕ) → is_reply_row kind (length body) ≡ true → ((i : ℕ) → slice_index body i < 256) → Tells kind body (told_reply kind body)
unfolding told_reply
row-tells kind body is each = elim (cases_eq kind 129) [
  | inl k ↦ at_kind kind 129 body k (λ row. record { same_kind = refl; same_body = place-body body (eqb-true (length body) 8 row) each; range = below 0 8 body each }) is
  | inr a ↦ elim (cases_eq kind 130) [
    | inl k ↦ at_kind kind 130 body k (λ row. record { same_kind = refl; same_body = place-body body (eqb-true (length body) 8 row) each; range = below 0 8 body each }) is
    | inr b ↦ elim (cases_eq kind 131) [
      | inl k ↦ at_kind kind 131 body k (λ row. record { same_kind = refl; same_body = place-body body (eqb-true (length body) 8 row) each; range = below 0 8 body each }) is
      | inr c ↦ elim (cases_eq kind 132) [
        | inl k ↦ at_kind kind 132 body k (λ row. record { same_kind = refl; same_body = place-body body (eqb-true (length body) 8 row) each; range = below 0 8 body each }) is
        | inr d ↦ elim (cases_eq kind 133) [
          | inl k ↦ at_kind kind 133 body k (λ row. tells-full body (eqb-true (length body) 16 row) each) is
          | inr e ↦ elim (cases_eq kind 134) [
            | inl k ↦ at_kind kind 134 body k (λ row. tells-answer body (leb-true 8 (length body) row) each) is
            | inr f ↦ elim (cases_eq kind 135) [
              | inl k ↦ at_kind kind 135 body k (λ row. tells-repacked body (eqb-true (length body) 20 row) each) is
              | inr g ↦ elim (cases_eq kind 136) [
                | inl k ↦ at_kind kind 136 body k (λ row. tells-moved body (eqb-true (length body) 24 row) each) is
                | inr h ↦ elim (cases_eq kind 137) [
                  | inl k ↦ at_kind kind 137 body k (λ row. tells-refused body (eqb-true (length body) 1 row) each) is
                  | inr j ↦ absurd (no_row kind (length body) a b c d e f g h j is)
                ]
              ]
            ]
          ]
        ]
      ]
    ]
  ]
]
