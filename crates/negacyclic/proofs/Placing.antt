-- A pass, place by place, and what it leaves in the whole list.
use Rattle.std.proofs.Common.{◌≡◌, ◌≢◌, ℕ, ◌+◌, ◌-◌, ◌*◌, ◌/◌, ◌%◌, ◌<◌, ◌≤◌, List, length, get_or, ap, ◌∙◌, sym, subst, inl, inr, arith}
use Rattle.std.proofs.lemmas.Bool.{cases_eq, cases_lt}
use Rattle.std.proofs.lemmas.Nat.{same_from_place, mul-add-lt, div_below}
use Rattle.std.proofs.Math.Nat.{mod-lt, div-add-mod}
use Rattle.psi_residue.specs.Polynomials.{IsPolynomial}
use Rattle.negacyclic.specs.Butterflies.{IsCrossed, IsUncrossed, AreFourBelow, AreSame, AreCrossed, AreUncrossed, QuartersBelow, QuartersKept, ArePlaced, StepsBelow, StepsKept, AreReplaced}

-- ---- rows and places

-- a fact of each of four times n numbers, from the four quarters
pub each_of_four : (P : ℕ → Type 0) (n : ℕ) → ((i : ℕ) → i < n → P i × P (i + n) × P (i + (n + n)) × P (i + n + (n + n))) → (i : ℕ) → i < n + n + (n + n) → P i
each_of_four P n h i lt =
    elim (cases_lt i n) [
      | inl first ↦ (h i first).0
      | inr le ↦
          elim (cases_lt i (n + n)) [
            | inl second ↦ let e : i - n + n ≡ i = omega arith in subst P e (h (i - n) (omega arith)).1
            | inr le2 ↦
                elim (cases_lt i (n + n + n)) [
                  | inl third ↦ let e : i - (n + n) + (n + n) ≡ i = omega arith in subst P e (h (i - (n + n)) (omega arith)).2
                  | inr le3 ↦ let e : i - (n + n + n) + n + (n + n) ≡ i = omega arith in subst P e (h (i - (n + n + n)) (omega arith)).3
                ]
          ]
    ]

-- a fact of each place, by its row and its place in the row
pub each_place : (P : ℕ → Type 0) (rows width n : ℕ) → 0 < width → rows * width ≡ n → ((j r : ℕ) → j < rows → r < width → P (j * width + r)) → (i : ℕ) → i < n → P i
each_place P rows width n positive size h i lt =
    let whole = div-add-mod i width in
    let e : i / width * width + i % width ≡ i = omega (arith, whole) in
    let row : i / width < rows = div_below i width rows positive (omega arith) in
    subst P e (h (i / width) (i % width) row (mod-lt i positive))

-- ---- forward

same_crossed : (q w1 w2 w3 x0 x1 x2 x3 a b c d e f g h : ℕ) → AreSame e f g h a b c d → IsCrossed q w1 w2 w3 x0 x1 x2 x3 a b c d → IsCrossed q w1 w2 w3 x0 x1 x2 x3 e f g h
same_crossed q w1 w2 w3 x0 x1 x2 x3 a b c d e f g h same crossed = record {
  first = ap (λ (u : ℕ). u % q) same.first ∙ crossed.first;
  second = ap (λ (u : ℕ). (u + (w1 * x2 + w3 * (w1 * x3))) % q) same.second ∙ crossed.second;
  third = ap (λ (u : ℕ). (u + w2 * (x1 + w1 * x3)) % q) same.third ∙ crossed.third;
  fourth = ap (λ (u : ℕ). (u + (w1 * x2 + w3 * x1)) % q) same.fourth ∙ crossed.fourth;
}

same_below : (bound a b c d e f g h : ℕ) → AreSame e f g h a b c d → AreFourBelow bound a b c d → AreFourBelow bound e f g h
same_below bound a b c d e f g h same below = record {
  first = rw same.first below.first;
  second = rw same.second below.second;
  third = rw same.third below.third;
  fourth = rw same.fourth below.fourth;
}

pub wider_below : (low high a b c d : ℕ) → low ≤ high → AreFourBelow low a b c d → AreFourBelow high a b c d
wider_below low high a b c d le below = record {
  first = omega (arith, below.first);
  second = omega (arith, below.second);
  third = omega (arith, below.third);
  fourth = omega (arith, below.fourth);
}

pub placed-none : (q bound l h : ℕ) (numbers from to : List ℕ) → ArePlaced q bound l h numbers from to 0
placed-none q bound l h numbers from to = record {
  crossed = λ j r j_lt r_lt lt. absurd (omega arith);
  below = λ j r j_lt r_lt lt. absurd (omega arith);
}

-- one place more, in row j at r
pub placed-more : (q bound l h j r w1 w2 w3 : ℕ) (numbers from to new : List ℕ) → j < l → r < h → l * h ≡ 1024
    → w1 ≡ get_or numbers (l + j) 0 → w2 ≡ get_or numbers (2 * l + j) 0 → w3 ≡ get_or numbers (3 * l + j) 0
    → AreCrossed q w1 w2 w3 h (4 * (j * h) + r) (j * h + r) from new → QuartersBelow bound (j * h + r) new → QuartersKept (j * h + r) to new
    → ArePlaced q bound l h numbers from to (j * h + r) → ArePlaced q bound l h numbers from new (j * h + r + 1)
placed-more q bound l h j r w1 w2 w3 numbers from to new j_lt r_lt size e1 e2 e3 crossed below kept before = record {
  crossed = λ j' r' j'_lt r'_lt lt.
      elim (cases_eq (j' * h + r') (j * h + r)) [
        | inl here ↦
            let same = same_from_place j' r' j r h r'_lt r_lt here in
            subst (λ (i : ℕ). AreCrossed q (get_or numbers (l + i) 0) (get_or numbers (2 * l + i) 0) (get_or numbers (3 * l + i) 0) h (4 * (i * h) + r') (i * h + r') from new) (sym same.0)
            (subst (λ (s : ℕ). AreCrossed q (get_or numbers (l + j) 0) (get_or numbers (2 * l + j) 0) (get_or numbers (3 * l + j) 0) h (4 * (j * h) + s) (j * h + s) from new) (sym same.1)
            (subst (λ (w : ℕ). AreCrossed q (get_or numbers (l + j) 0) (get_or numbers (2 * l + j) 0) w h (4 * (j * h) + r) (j * h + r) from new) e3
            (subst (λ (w : ℕ). AreCrossed q (get_or numbers (l + j) 0) w w3 h (4 * (j * h) + r) (j * h + r) from new) e2
            (subst (λ (w : ℕ). AreCrossed q w w2 w3 h (4 * (j * h) + r) (j * h + r) from new) e1 crossed))))
        | inr other ↦
            let inside : j' * h + r' < 1024 = omega (arith, mul-add-lt j' h r' l j'_lt r'_lt) in
            same_crossed q _ _ _ _ _ _ _ _ _ _ _ _ _ _ _ (kept.each (j' * h + r') inside other) (before.crossed j' r' j'_lt r'_lt (omega (arith, other)))
      ];
  below = λ j' r' j'_lt r'_lt lt.
      elim (cases_eq (j' * h + r') (j * h + r)) [
        | inl here ↦ subst (λ (i : ℕ). QuartersBelow bound i new) (sym here) below
        | inr other ↦
            let inside : j' * h + r' < 1024 = omega (arith, mul-add-lt j' h r' l j'_lt r'_lt) in
            same_below bound _ _ _ _ _ _ _ _ (kept.each (j' * h + r') inside other) (before.below j' r' j'_lt r'_lt (omega (arith, other)))
      ];
}

pub placed-along : (q bound l h : ℕ) (numbers from to : List ℕ) (n k : ℕ) → n ≡ k → ArePlaced q bound l h numbers from to n → ArePlaced q bound l h numbers from to k
placed-along q bound l h numbers from to n k e placed = subst (λ (i : ℕ). ArePlaced q bound l h numbers from to i) e placed

-- all numbers that a whole pass wrote are below the bound
pub placed-below : (q bound l h : ℕ) (numbers from to : List ℕ) → 0 < h → l * h ≡ 1024 → length to ≡ 4096 → ArePlaced q bound l h numbers from to 1024 → IsPolynomial bound to
placed-below q bound l h numbers from to positive size len placed = record {
  size = len;
  below =
      each_place (λ i. get_or to i 0 < bound) (l + l + (l + l)) h 4096 positive (omega (arith, size))
      (λ j r j_lt r_lt. each_of_four (λ i. get_or to (i * h + r) 0 < bound) l (λ i i_lt. quarter i r i_lt r_lt) j j_lt);
}
  where
    quarter : (i r : ℕ) → i < l → r < h → (get_or to (i * h + r) 0 < bound) × (get_or to ((i + l) * h + r) 0 < bound) × (get_or to ((i + (l + l)) * h + r) 0 < bound) × (get_or to ((i + l + (l + l)) * h + r) 0 < bound)
    quarter i r i_lt r_lt =
        let inside : i * h + r < 1024 = omega (arith, mul-add-lt i h r l i_lt r_lt) in
        let four = placed.below i r i_lt r_lt inside in
        let P : ℕ → Type 0 = λ k. get_or to k 0 < bound in
        let e1 : i * h + r + 1024 ≡ (i + l) * h + r = omega (arith, size) in
        let e2 : i * h + r + 2048 ≡ (i + (l + l)) * h + r = omega (arith, size) in
        let e3 : i * h + r + 3072 ≡ (i + l + (l + l)) * h + r = omega (arith, size) in
        (four.first, subst P e1 four.second, subst P e2 four.third, subst P e3 four.fourth)

-- ---- backward

same_uncrossed : (q w1 w2 w3 y0 y1 y2 y3 a b c d e f g h : ℕ) → AreSame e f g h a b c d → IsUncrossed q w1 w2 w3 y0 y1 y2 y3 a b c d → IsUncrossed q w1 w2 w3 y0 y1 y2 y3 e f g h
same_uncrossed q w1 w2 w3 y0 y1 y2 y3 a b c d e f g h same uncrossed = record {
  first = ap (λ (u : ℕ). u % q) same.first ∙ uncrossed.first;
  second = ap (λ (u : ℕ). (u + (w2 * y0 + w3 * y1)) % q) same.second ∙ uncrossed.second;
  third = ap (λ (u : ℕ). (u + w1 * (y0 + y2)) % q) same.third ∙ uncrossed.third;
  fourth = ap (λ (u : ℕ). (u + w1 * (w2 * y2 + w3 * y1)) % q) same.fourth ∙ uncrossed.fourth;
}

pub replaced-none : (q bound l h : ℕ) (numbers from to : List ℕ) → AreReplaced q bound l h numbers from to 0
replaced-none q bound l h numbers from to = record {
  uncrossed = λ j r j_lt r_lt lt. absurd (omega arith);
  below = λ j r j_lt r_lt lt. absurd (omega arith);
}

-- places in row a of h places and in row b are apart, where the places of the rows of 4h places are
apart : (h j r k j' r' k' : ℕ) → r < h → r' < h → j' * h + r' ≢ j * h + r → k < 4 → k' < 4 → (4 * j' + k') * h + r' ≢ (4 * j + k) * h + r
apart h j r k j' r' k' r_lt r'_lt ne k_lt k'_lt same =
    let rows = same_from_place (4 * j' + k') r' (4 * j + k) r h r'_lt r_lt same in
    let row : j' ≡ j = omega (arith, rows.0) in
    ne (ap (λ (i : ℕ). i * h + r') row ∙ ap (λ (s : ℕ). j * h + s) rows.1)

-- a place that was not written
kept-place : (h j r j' r' : ℕ) (to new : List ℕ) → r < h → r' < h → j' * h + r' ≢ j * h + r → StepsKept h (4 * (j * h) + r) to new
    → AreSame
    (get_or new (4 * (j' * h) + r') 0) (get_or new (4 * (j' * h) + r' + h) 0) (get_or new (4 * (j' * h) + r' + 2 * h) 0) (get_or new (4 * (j' * h) + r' + 3 * h) 0)
    (get_or to (4 * (j' * h) + r') 0) (get_or to (4 * (j' * h) + r' + h) 0) (get_or to (4 * (j' * h) + r' + 2 * h) 0) (get_or to (4 * (j' * h) + r' + 3 * h) 0)
kept-place h j r j' r' to new r_lt r'_lt ne kept = record {
  first = one (4 * (j' * h) + r') 0 (omega arith) (omega arith);
  second = one (4 * (j' * h) + r' + h) 1 (omega arith) (omega arith);
  third = one (4 * (j' * h) + r' + 2 * h) 2 (omega arith) (omega arith);
  fourth = one (4 * (j' * h) + r' + 3 * h) 3 (omega arith) (omega arith);
}
  where
    one : (i k' : ℕ) → k' < 4 → i ≡ (4 * j' + k') * h + r' → get_or new i 0 ≡ get_or to i 0
    one i k' k'_lt e =
        let n0 : i ≡ 4 * (j * h) + r → ⊥ = λ s. apart h j r 0 j' r' k' r_lt r'_lt ne (omega arith) k'_lt (omega (arith, s, e)) in
        let n1 : i ≡ 4 * (j * h) + r + h → ⊥ = λ s. apart h j r 1 j' r' k' r_lt r'_lt ne (omega arith) k'_lt (omega (arith, s, e)) in
        let n2 : i ≡ 4 * (j * h) + r + 2 * h → ⊥ = λ s. apart h j r 2 j' r' k' r_lt r'_lt ne (omega arith) k'_lt (omega (arith, s, e)) in
        let n3 : i ≡ 4 * (j * h) + r + 3 * h → ⊥ = λ s. apart h j r 3 j' r' k' r_lt r'_lt ne (omega arith) k'_lt (omega (arith, s, e)) in
        kept.each i n0 n1 n2 n3

pub replaced-more : (q bound l h j r w1 w2 w3 : ℕ) (numbers from to new : List ℕ) → j < l → r < h
    → w1 ≡ get_or numbers (2 * l - 1 - j) 0 → w2 ≡ get_or numbers (4 * l - 1 - j) 0 → w3 ≡ get_or numbers (3 * l - 1 - j) 0
    → AreUncrossed q w1 w2 w3 h (4 * (j * h) + r) (j * h + r) from new → StepsBelow bound h (4 * (j * h) + r) new → StepsKept h (4 * (j * h) + r) to new
    → AreReplaced q bound l h numbers from to (j * h + r) → AreReplaced q bound l h numbers from new (j * h + r + 1)
replaced-more q bound l h j r w1 w2 w3 numbers from to new j_lt r_lt e1 e2 e3 uncrossed below kept before = record {
  uncrossed = λ j' r' j'_lt r'_lt lt.
      elim (cases_eq (j' * h + r') (j * h + r)) [
        | inl here ↦
            let same = same_from_place j' r' j r h r'_lt r_lt here in
            subst (λ (i : ℕ). AreUncrossed q (get_or numbers (2 * l - 1 - i) 0) (get_or numbers (4 * l - 1 - i) 0) (get_or numbers (3 * l - 1 - i) 0) h (4 * (i * h) + r') (i * h + r') from new) (sym same.0)
            (subst (λ (s : ℕ). AreUncrossed q (get_or numbers (2 * l - 1 - j) 0) (get_or numbers (4 * l - 1 - j) 0) (get_or numbers (3 * l - 1 - j) 0) h (4 * (j * h) + s) (j * h + s) from new) (sym same.1)
            (subst (λ (w : ℕ). AreUncrossed q (get_or numbers (2 * l - 1 - j) 0) (get_or numbers (4 * l - 1 - j) 0) w h (4 * (j * h) + r) (j * h + r) from new) e3
            (subst (λ (w : ℕ). AreUncrossed q (get_or numbers (2 * l - 1 - j) 0) w w3 h (4 * (j * h) + r) (j * h + r) from new) e2
            (subst (λ (w : ℕ). AreUncrossed q w w2 w3 h (4 * (j * h) + r) (j * h + r) from new) e1 uncrossed))))
        | inr other ↦
            same_uncrossed q _ _ _ _ _ _ _ _ _ _ _ _ _ _ _ (kept-place h j r j' r' to new r_lt r'_lt other kept) (before.uncrossed j' r' j'_lt r'_lt (omega (arith, other)))
      ];
  below = λ j' r' j'_lt r'_lt lt.
      elim (cases_eq (j' * h + r') (j * h + r)) [
        | inl here ↦
            let same = same_from_place j' r' j r h r'_lt r_lt here in
            subst (λ (i : ℕ). StepsBelow bound h (4 * (i * h) + r') new) (sym same.0) (subst (λ (s : ℕ). StepsBelow bound h (4 * (j * h) + s) new) (sym same.1) below)
        | inr other ↦
            same_below bound _ _ _ _ _ _ _ _ (kept-place h j r j' r' to new r_lt r'_lt other kept) (before.below j' r' j'_lt r'_lt (omega (arith, other)))
      ];
}

pub replaced-along : (q bound l h : ℕ) (numbers from to : List ℕ) (n k : ℕ) → n ≡ k → AreReplaced q bound l h numbers from to n → AreReplaced q bound l h numbers from to k
replaced-along q bound l h numbers from to n k e replaced = subst (λ (i : ℕ). AreReplaced q bound l h numbers from to i) e replaced

pub replaced-below : (q bound l h : ℕ) (numbers from to : List ℕ) → 0 < h → l * h ≡ 1024 → length to ≡ 4096 → AreReplaced q bound l h numbers from to 1024 → IsPolynomial bound to
replaced-below q bound l h numbers from to positive size len replaced = record {
  size = len;
  below =
      each_place (λ i. get_or to i 0 < bound) l (h + h + (h + h)) 4096 (omega arith) (omega (arith, size))
      (λ j r j_lt r_lt. each_of_four (λ i. get_or to (j * (h + h + (h + h)) + i) 0 < bound) h (λ i i_lt. quarter j i j_lt i_lt) r r_lt);
}
  where
    quarter : (j i : ℕ) → j < l → i < h
        → (get_or to (j * (h + h + (h + h)) + i) 0 < bound) × (get_or to (j * (h + h + (h + h)) + (i + h)) 0 < bound) × (get_or to (j * (h + h + (h + h)) + (i + (h + h))) 0 < bound) × (get_or to (j * (h + h + (h + h)) + (i + h + (h + h))) 0 < bound)
    quarter j i j_lt i_lt =
        let inside : j * h + i < 1024 = omega (arith, mul-add-lt j h i l j_lt i_lt) in
        let four = replaced.below j i j_lt i_lt inside in
        let P : ℕ → Type 0 = λ k. get_or to k 0 < bound in
        let e0 : 4 * (j * h) + i ≡ j * (h + h + (h + h)) + i = omega arith in
        let e1 : 4 * (j * h) + i + h ≡ j * (h + h + (h + h)) + (i + h) = omega arith in
        let e2 : 4 * (j * h) + i + 2 * h ≡ j * (h + h + (h + h)) + (i + (h + h)) = omega arith in
        let e3 : 4 * (j * h) + i + 3 * h ≡ j * (h + h + (h + h)) + (i + h + (h + h)) = omega arith in
        (subst P e0 four.first, subst P e1 four.second, subst P e2 four.third, subst P e3 four.fourth)
