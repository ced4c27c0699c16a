-- What is written of a query: a tag's slot values, and the ciphertexts of all rows and powers.
use Rattle.std.proofs.Common.{◌≡◌, ◌⊎◌, ℕ, zero, suc, ◌+◌, ◌*◌, ◌/◌, ◌%◌, ◌^◌, ◌<◌, ◌≤◌, Bool, List, [], ◌∷◌, ◌++◌, length, get_or, set, map, drop, Result, Ok, ap, subst, ◌∙◌, sym, inl, inr, arith}
use Rattle.std.specs.Prelude.{◌==◌, if◌then◌else◌}
use Rattle.std.specs.List.{AllZip, flat_map, range_with_len}
use Rattle.std.specs.Result.{IfOk}
use Rattle.std.proofs.lemmas.Bool.{cases_eq, cases_lt, eq-eqb, le-ltb, lt-ltb, ne_eqb}
use Rattle.std.proofs.lemmas.List.{get_or-set_same, get_or-set_other, length-set}
use Rattle.std.proofs.lemmas.List.Folds.{flat_map-map}
use Rattle.std.proofs.lemmas.List.FromFn.{get_or-map-range_with_len}
use Rattle.std.proofs.Math.Nat.{div-lt_iff_lt-mul}
use Rattle.psi_residue.specs.Parameters.{Parameters, parameter_bytes}
use Rattle.psi_residue.specs.Slots.{packed_list}
use Rattle.psi_residue.proofs.Sums.{same_as_table}
use Rattle.item_slots.specs.Tags.{slot_value}
use Rattle.bfv_core.specs.EncryptedLists.{encrypted}
use Rattle.query_codec.specs.Ciphertexts.{ciphertext_bytes, ciphertexts_bytes}
use Rattle.query_codec.proofs.QueryBodies.{query_body-is}
use Rattle.psi_receiver.specs.declared.placement.Placed.{Placed}
use Rattle.psi_receiver.specs.Queries.{bin_value, powers_of, query_ciphertext, encrypted_powers, query_of, query_value, row_values}
use Rattle.psi_receiver.proofs.Steps.{bin_value-here, bin_value-next, bin_value-end}

-- ---- one tag

-- the first parts of a bin are a tag's, and all other slots are as before
pub record IsWriting (tag old : List ℕ) (bin count : ℕ) (xs : List ℕ) : Type 0 where
  pub size : length xs ≡ length old
  pub done : (k : ℕ) → k < count → get_or xs (5 * bin + k) 0 ≡ slot_value tag k
  pub rest : (slot : ℕ) → (slot < 5 * bin) ⊎ (5 * bin + count ≤ slot) → get_or xs slot 0 ≡ get_or old slot 0

pub writing-none : (tag old : List ℕ) (bin : ℕ) → IsWriting tag old bin 0 old
writing-none tag old bin = record { size = λ i. length old; done = λ k lt. absurd (omega arith); rest = λ slot away i. get_or old slot 0 }

pub writing-more : (tag old : List ℕ) (bin count : ℕ) (xs : List ℕ) (value : ℕ) → 5 * bin + count < length xs → value ≡ slot_value tag count → IsWriting tag old bin count xs
    → IsWriting tag old bin (count + 1) (set xs (5 * bin + count) value)
writing-more tag old bin count xs value within e h = record {
  size = length-set xs (5 * bin + count) value ∙ h.size;
  done = λ k lt.
      elim (cases_eq k count) [
        | inl same ↦ ap (λ (j : ℕ). get_or (set xs (5 * bin + count) value) (5 * bin + j) 0) same ∙ get_or-set_same xs (5 * bin + count) value 0 within ∙ e ∙ ap (slot_value tag) (sym same)
        | inr other ↦ get_or-set_other xs (5 * bin + count) (5 * bin + k) value 0 (λ f. other (omega (arith, f))) ∙ h.done k (omega arith)
      ];
  rest = λ slot away. get_or-set_other xs (5 * bin + count) slot value 0 (λ f. elim away [ inl low ↦ omega (arith, f, low) | inr high ↦ omega (arith, f, high) ]) ∙ h.rest slot (elim away [ inl low ↦ inl low | inr high ↦ inr (omega (arith, high)) ]);
}

pub writing-all : (tag old : List ℕ) (bin : ℕ) (xs : List ℕ) → IsWriting tag old bin 5 xs → (slot : ℕ)
    → get_or xs slot 0 ≡ (if slot / 5 == bin then slot_value tag (slot % 5) else get_or old slot 0)
writing-all tag old bin xs h slot =
    elim (cases_eq (slot / 5) bin) [
      | inl same ↦
          let whole : 5 * bin + slot % 5 ≡ slot = omega (arith, same) in
          ap (λ (s : ℕ). get_or xs s 0) (sym whole) ∙ h.done (slot % 5) (omega arith)
          ∙ sym (ap (λ (b : Bool). if b then slot_value tag (slot % 5) else get_or old slot 0) (eq-eqb (slot / 5) bin same))
      | inr other ↦
          h.rest slot (elim (cases_lt slot (5 * bin)) [ inl low ↦ inl low | inr high ↦ inr (omega (arith, other, high)) ])
          ∙ sym (ap (λ (b : Bool). if b then slot_value tag (slot % 5) else get_or old slot 0) (ne_eqb (slot / 5) bin other))
    ]

-- ---- a row

-- the slots have the values of the tags from number i on
abbrev pub AreWritten : List Placed → (row i : ℕ) → List ℕ → Type 0
AreWritten placed row i xs = (slot : ℕ) → slot < 4096 → get_or xs slot 0 ≡ query_value (drop i placed) row slot

either : {X : Type 0} (b c : Bool) (x y : X) → b ≡ c → (if b then x else y) ≡ (if c then x else y)
either b c x y e = ap (λ (t : Bool). if t then x else y) e

query_value-last : (placed : List Placed) (row slot : ℕ) → 4095 ≤ slot → query_value placed row slot ≡ 65536
unfolding query_value
query_value-last placed row slot le = ap (λ (t : Bool). if t then bin_value placed (819 * row + slot / 5) (slot % 5) else 65536) (le-ltb slot 4095 le)

query_value-bin : (placed : List Placed) (row slot : ℕ) → slot < 4095 → query_value placed row slot ≡ bin_value placed (819 * row + slot / 5) (slot % 5)
unfolding query_value
query_value-bin placed row slot lt = ap (λ (t : Bool). if t then bin_value placed (819 * row + slot / 5) (slot % 5) else 65536) (lt-ltb slot 4095 lt)

pub nothing-written : (placed : List Placed) (row i : ℕ) (xs : List ℕ) → length placed ≤ i → ((slot : ℕ) → slot < 4096 → get_or xs slot 0 ≡ 65536) → AreWritten placed row i xs
nothing-written placed row i xs all empty slot within =
    elim (cases_lt slot 4095) [
      | inl lt ↦ empty slot within ∙ sym (query_value-bin (drop i placed) row slot lt ∙ bin_value-end placed i (819 * row + slot / 5) (slot % 5) all)
      | inr le ↦ empty slot within ∙ sym (query_value-last (drop i placed) row slot le)
    ]

-- a tag of another row
pub other-row : (placed : List Placed) (row i : ℕ) (x : Placed) (xs : List ℕ) → i < length placed → x ≡ get_or placed i x → (x.position / 819 ≡ row → ⊥) → AreWritten placed row (i + 1) xs → AreWritten placed row i xs
other-row placed row i x xs lt here other h slot within =
    elim (cases_lt slot 4095) [
      | inl inside ↦
          h slot within ∙ query_value-bin (drop (i + 1) placed) row slot inside
          ∙ sym (query_value-bin (drop i placed) row slot inside ∙ bin_value-next placed i (819 * row + slot / 5) (slot % 5) x lt here (λ e. other (omega (arith, e))))
      | inr le ↦ h slot within ∙ query_value-last (drop (i + 1) placed) row slot le ∙ sym (query_value-last (drop i placed) row slot le)
    ]

-- a tag of this row, written
pub this-row : (placed : List Placed) (row i : ℕ) (x : Placed) (xs ys : List ℕ) → i < length placed → x ≡ get_or placed i x → x.position / 819 ≡ row
    → ((slot : ℕ) → get_or ys slot 0 ≡ (if slot / 5 == x.position % 819 then slot_value x.tag (slot % 5) else get_or xs slot 0))
    → AreWritten placed row (i + 1) xs → AreWritten placed row i ys
this-row placed row i x xs ys lt here same written h slot within =
    elim (cases_lt slot 4095) [
      | inl inside ↦ written slot ∙ in_bin inside ∙ sym (query_value-bin (drop i placed) row slot inside)
      | inr le ↦
          written slot
          ∙ ap (λ (b : Bool). if b then slot_value x.tag (slot % 5) else get_or xs slot 0) (ne_eqb (slot / 5) (x.position % 819) (λ e. absurd (omega (arith, e, le, within))))
          ∙ h slot within ∙ query_value-last (drop (i + 1) placed) row slot le ∙ sym (query_value-last (drop i placed) row slot le)
    ]
  where
    in_bin : slot < 4095 → (if slot / 5 == x.position % 819 then slot_value x.tag (slot % 5) else get_or xs slot 0) ≡ bin_value (drop i placed) (819 * row + slot / 5) (slot % 5)
    in_bin inside =
        elim (cases_eq (slot / 5) (x.position % 819)) [
          | inl own ↦
              ap (λ (b : Bool). if b then slot_value x.tag (slot % 5) else get_or xs slot 0) (eq-eqb (slot / 5) (x.position % 819) own)
              ∙ sym (bin_value-here placed i (819 * row + slot / 5) (slot % 5) x lt here (omega (arith, own, same)))
          | inr other ↦
              ap (λ (b : Bool). if b then slot_value x.tag (slot % 5) else get_or xs slot 0) (ne_eqb (slot / 5) (x.position % 819) other)
              ∙ h slot within ∙ query_value-bin (drop (i + 1) placed) row slot inside
              ∙ sym (bin_value-next placed i (819 * row + slot / 5) (slot % 5) x lt here (λ e. other (omega (arith, e, same, inside))))
        ]

pub row-written : (placed : List Placed) (row i : ℕ) (xs : List ℕ) → i ≤ 0 → length xs ≡ 4096 → AreWritten placed row i xs → xs ≡ row_values placed row
unfolding row_values
row-written placed row i xs none size h =
    let e : i ≡ 0 = omega arith in
    same_as_table 4096 (query_value placed row) xs size (λ slot lt. h slot lt ∙ ap (λ (k : ℕ). query_value (drop k placed) row slot) e)

-- ---- powers

pub powers-from : (values : List ℕ) (k : ℕ) (out : List ℕ) → length out ≡ 4096 → ((i : ℕ) → i < 4096 → get_or out i 0 ≡ get_or values i 0 ^ k % 65537) → out ≡ powers_of values k
unfolding powers_of
powers-from values k out size each = same_as_table 4096 (λ slot. get_or values slot 0 ^ k % 65537) out size each

-- ---- all ciphertexts

map-same : (f g : ℕ → List (List ℕ)) (a n : ℕ) → ((k : ℕ) → a ≤ k → k < a + n → f k ≡ g k) → map f (range_with_len a n) ≡ map g (range_with_len a n)
map-same f g a zero h = λ i. []
map-same f g a (suc n) h = λ i. h a (omega arith) (omega arith) i ∷ map-same f g (a + 1) n (λ k low high. h k (omega arith) (omega arith)) i

pub ciphertexts-made : (p : Parameters) (seed : List ℕ) (placed : List Placed) (values : List (List ℕ)) (capacity n : ℕ) → 1 ≤ p.capacity → capacity ≡ p.capacity → values ≡ map (row_values placed) (range_with_len 0 p.rows) → n ≡ p.rows * p.capacity
    → map (λ c. encrypted seed c (packed_list (powers_of (get_or values (c / capacity) []) (c % capacity + 1)))) (range_with_len 0 n) ≡ encrypted_powers p seed placed
unfolding encrypted_powers query_ciphertext
ciphertexts-made p seed placed values capacity n some same are number =
    (λ i. map (λ c. encrypted seed c (packed_list (powers_of (get_or values (c / same i) []) (c % same i + 1)))) (range_with_len 0 (number i)))
    ∙ map-same (λ c. encrypted seed c (packed_list (powers_of (get_or values (c / p.capacity) []) (c % p.capacity + 1)))) (query_ciphertext p.capacity seed placed) 0 (p.rows * p.capacity)
    (λ c low high. ap (λ (v : List ℕ). encrypted seed c (packed_list (powers_of v (c % p.capacity + 1)))) (row c (omega arith)))
  where
    row : (c : ℕ) → c < p.rows * p.capacity → get_or values (c / p.capacity) [] ≡ row_values placed (c / p.capacity)
    row c lt =
        ap (λ (vs : List (List ℕ)). get_or vs (c / p.capacity) []) are
        ∙ get_or-map-range_with_len (row_values placed) 0 p.rows (c / p.capacity) (c / p.capacity) [] ((div-lt_iff_lt-mul some).1 lt) (omega arith)

-- the bytes of the pieces, one after another, are those of all ciphertexts
pub bytes-made : {V : Type 0} (view : V → List ℕ) (p : Parameters) (seed : List ℕ) (placed : List Placed) (values : List (List ℕ)) (capacity n : ℕ) (pieces : List V)
    → 1 ≤ p.capacity → capacity ≡ p.capacity → values ≡ map (row_values placed) (range_with_len 0 p.rows) → n ≡ p.rows * p.capacity
    → map view pieces ≡ map (λ c. ciphertext_bytes (encrypted seed c (packed_list (powers_of (get_or values (c / capacity) []) (c % capacity + 1))))) (range_with_len 0 n)
    → flat_map view pieces ≡ ciphertexts_bytes (encrypted_powers p seed placed)
unfolding ciphertexts_bytes
bytes-made view p seed placed values capacity n pieces some same are number told =
    let made : ℕ → List (List ℕ) = λ c. encrypted seed c (packed_list (powers_of (get_or values (c / capacity) []) (c % capacity + 1))) in
    sym (flat_map-map (λ ys. ys) view pieces)
    ∙ ap (flat_map (λ ys. ys)) told
    ∙ flat_map-map (λ ys. ys) (λ c. ciphertext_bytes (made c)) (range_with_len 0 n)
    ∙ sym (flat_map-map ciphertext_bytes made (range_with_len 0 n))
    ∙ ap (flat_map ciphertext_bytes) (ciphertexts-made p seed placed values capacity n some same are number)

-- and behind the parameters they are the query's body
pub pieces-body : (p : Parameters) (seed : List ℕ) (placed : List Placed) (text body : List ℕ) → text ≡ ciphertexts_bytes (encrypted_powers p seed placed) → body ≡ parameter_bytes p ++ text → body ≡ query_of p seed placed
pieces-body p seed placed text body told written = written ∙ ap (λ (ys : List ℕ). parameter_bytes p ++ ys) told ∙ query_body-is p (encrypted_powers p seed placed)

-- results that are all there show the values
pub all-shown : {X T B E : Type 0} (f : X → B) (view : T → B) (xs : List X) (rs : List (Result T E)) (ys : List T) → AllZip (λ x r. IfOk r (λ y. view y ≡ f x)) xs rs → rs ≡ map Ok ys → map view ys ≡ map f xs
all-shown f view [] [] [] all e = λ i. []
all-shown f view [] [] (y ∷ ys) all e = absurd cc
all-shown f view [] (r ∷ rs) ys all e = absurd all
all-shown f view (x ∷ xs) [] ys all e = absurd all
all-shown f view (x ∷ xs) (r ∷ rs) [] all e = absurd cc
all-shown {X} {T} {B} {E} f view (x ∷ xs) (r ∷ rs) (y ∷ ys) all e =
    let here : r ≡ Ok y = cc in
    let later : rs ≡ map Ok ys = cc in
    let value : view y ≡ f x = subst (λ (q : Result T E). IfOk q (λ v. view v ≡ f x)) here all.0 in
    let rest = all-shown f view xs rs ys all.1 later in
    λ i. value i ∷ rest i
