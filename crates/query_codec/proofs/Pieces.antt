-- Texts that are pieces of one length.
use Rattle.std.proofs.Common.{◌≡◌, ℕ, zero, suc, ◌+◌, ◌*◌, ◌<◌, List, [], ◌∷◌, ◌++◌, length, take, drop, map, get_or, refl, ap, sym, ◌∙◌, arith, append_assoc, length-append}
use Rattle.std.specs.List.{flat_map, range_with_len}
use Rattle.std.proofs.Math.Seq.{take-add, drop-append_seam}
use Rattle.std.proofs.lemmas.List.{drop-drop}
use Rattle.std.proofs.lemmas.List.Folds.{flat_map-map}

-- pieces from place a on, each of them the next `size` bytes
pieces_from : (piece : ℕ → List ℕ) (size : ℕ) (bytes : List ℕ) (a n : ℕ) → ((k : ℕ) → k < a + n → piece k ≡ take size (drop (size * k) bytes))
    → flat_map piece (range_with_len a n) ≡ take (size * n) (drop (size * a) bytes)
pieces_from piece size bytes a zero h = let e : size * 0 ≡ 0 = omega arith in rw e refl
pieces_from piece size bytes a (suc n) h =
    let more : size * suc n ≡ size + size * n = omega arith in
    let next : size * (a + 1) ≡ size * a + size = omega arith in
    let rest : flat_map piece (range_with_len (a + 1) n) ≡ take (size * n) (drop (size * a + size) bytes) =
    pieces_from piece size bytes (a + 1) n (λ k lt. h k (omega arith)) ∙ ap (λ (u : ℕ). take (size * n) (drop u bytes)) next in
    (λ i. h a (omega arith) i ++ rest i)
    ∙ ap (λ (ys : List ℕ). take size (drop (size * a) bytes) ++ take (size * n) ys) (sym (drop-drop size (size * a) bytes))
    ∙ sym (take-add size (size * n) (drop (size * a) bytes))
    ∙ ap (λ (u : ℕ). take u (drop (size * a) bytes)) (sym more)

-- the pieces of a text, one after another, are its beginning
pub pieces : (piece : ℕ → List ℕ) (size : ℕ) (bytes : List ℕ) (n : ℕ) → ((k : ℕ) → k < n → piece k ≡ take size (drop (size * k) bytes))
    → flat_map piece (range_with_len 0 n) ≡ take (size * n) bytes
pieces piece size bytes n h =
    let e : size * 0 ≡ 0 = omega arith in
    pieces_from piece size bytes 0 n (λ k lt. h k (omega arith)) ∙ ap (λ (u : ℕ). take (size * n) (drop u bytes)) e

-- the same of values and their texts, from place a on
pub pieces_of : {X : Type 0} (text : X → List ℕ) (value : ℕ → X) (size : ℕ) (bytes : List ℕ) (a n : ℕ) → ((k : ℕ) → k < a + n → text (value k) ≡ take size (drop (size * k) bytes))
    → flat_map text (map (λ i. value (a + i)) (range_with_len 0 n)) ≡ take (size * n) (drop (size * a) bytes)
pieces_of text value size bytes a n h =
    flat_map-map text (λ i. value (a + i)) (range_with_len 0 n)
    ∙ pieces (λ i. text (value (a + i))) size (drop (size * a) bytes) n
    (λ k lt.
    let e : size * (a + k) ≡ size * a + size * k = omega arith in
    h (a + k) (omega arith) ∙ ap (λ (u : ℕ). take size (drop u bytes)) e ∙ ap (λ (ys : List ℕ). take size ys) (sym (drop-drop (size * k) (size * a) bytes)))

-- a text whose pieces have one length goes on with piece number k at that place
pub piece_at : {X : Type 0} (text : X → List ℕ) (size : ℕ) (xs : List X) (d : X) (k : ℕ) (behind : List ℕ) → ((j : ℕ) → j < length xs → length (text (get_or xs j d)) ≡ size) → k < length xs
    → (rest : List ℕ) × (drop (size * k) (flat_map text xs ++ behind) ≡ text (get_or xs k d) ++ rest)
piece_at text size [] d k behind h lt = absurd (omega arith)
piece_at text size (x ∷ xs) d zero behind h lt =
    let e : size * 0 ≡ 0 = omega arith in
    (flat_map text xs ++ behind, ap (λ (u : ℕ). drop u (flat_map text (x ∷ xs) ++ behind)) e ∙ append_assoc (text x) (flat_map text xs) behind)
piece_at text size (x ∷ xs) d (suc k) behind h lt =
    let later = piece_at text size xs d k behind (λ j within. h (suc j) (omega arith)) (omega arith) in
    let here : length (text x) ≡ size = h 0 (omega arith) in
    let e : size * suc k ≡ size + size * k = omega arith in
    let over : drop size (text x ++ (flat_map text xs ++ behind)) ≡ flat_map text xs ++ behind =
    ap (λ (u : ℕ). drop u (text x ++ (flat_map text xs ++ behind))) (sym here) ∙ drop-append_seam (text x) (flat_map text xs ++ behind) in (
      later.0,
      ap (λ (u : ℕ). drop u (flat_map text (x ∷ xs) ++ behind)) e
          ∙ ap (λ (ys : List ℕ). drop (size + size * k) ys) (append_assoc (text x) (flat_map text xs) behind)
          ∙ sym (drop-drop (size * k) size (text x ++ (flat_map text xs ++ behind)))
          ∙ ap (λ (ys : List ℕ). drop (size * k) ys) over
          ∙ later.1,
    )

-- the length of such a text
pub length-pieces : {X : Type 0} (text : X → List ℕ) (size : ℕ) (xs : List X) (d : X) → ((j : ℕ) → j < length xs → length (text (get_or xs j d)) ≡ size) → length (flat_map text xs) ≡ size * length xs
length-pieces text size [] d h = omega arith
length-pieces text size (x ∷ xs) d h =
    let here : length (text x) ≡ size = h 0 (omega arith) in
    let later = length-pieces text size xs d (λ j within. h (suc j) (omega arith)) in
    omega (arith, length-append (text x) (flat_map text xs), here, later)
