-- Two stages of a transform at four places: the equations that the numbers meet, and that parts and shares meet them too.
use Rattle.std.proofs.Common.{◌≡◌, ℕ, ◌+◌, ◌*◌, ◌%◌, ◌^◌, ◌<◌, refl, ap, ◌∙◌, sym, arith}
use Rattle.negacyclic.specs.Butterflies.{IsCrossed, IsUncrossed}
use Rattle.psi_residue.proofs.Congruences.{sum_congruent, product_congruent}
use Rattle.negacyclic.proofs.MinusOnes.{same_rest}
use Rattle.negacyclic.proofs.Parts.{part, part-halves, part-halves_around}
use Rattle.negacyclic.proofs.Shares.{share, share-halves, share-halves_further}

-- four numbers
pub record AreFour (q x0 x1 x2 x3 z0 z1 z2 z3 : ℕ) : Type 0 where
  pub first : x0 % q ≡ z0 % q
  pub second : x1 % q ≡ z1 % q
  pub third : x2 % q ≡ z2 % q
  pub fourth : x3 % q ≡ z3 % q

-- congruent numbers give congruent numbers
pub crossed_along : (q w1 w2 w3 x0 x1 x2 x3 y0 y1 y2 y3 v1 v2 v3 z0 z1 z2 z3 p0 p1 p2 p3 : ℕ) → 0 < q
    → IsCrossed q w1 w2 w3 x0 x1 x2 x3 y0 y1 y2 y3 → IsCrossed q v1 v2 v3 z0 z1 z2 z3 p0 p1 p2 p3
    → w1 % q ≡ v1 % q → w2 % q ≡ v2 % q → w3 % q ≡ v3 % q → AreFour q x0 x1 x2 x3 z0 z1 z2 z3 → AreFour q y0 y1 y2 y3 p0 p1 p2 p3
crossed_along q w1 w2 w3 x0 x1 x2 x3 y0 y1 y2 y3 v1 v2 v3 z0 z1 z2 z3 p0 p1 p2 p3 positive here there e1 e2 e3 four =
    let second = product_congruent q w1 v1 x2 z2 e1 four.third in
    let third = product_congruent q w1 v1 x3 z3 e1 four.fourth in
    let even = sum_congruent q x0 z0 (w1 * x2) (v1 * z2) four.first second in
    let odd = product_congruent q w2 v2 (x1 + w1 * x3) (z1 + v1 * z3) e2 (sum_congruent q x1 z1 (w1 * x3) (v1 * z3) four.second third) in
    let up = product_congruent q w3 v3 x1 z1 e3 four.second in
    let down = product_congruent q w3 v3 (w1 * x3) (v1 * z3) e3 third in
    record {
      first = here.first ∙ sum_congruent q (x0 + w1 * x2) (z0 + v1 * z2) (w2 * (x1 + w1 * x3)) (v2 * (z1 + v1 * z3)) even odd ∙ sym there.first;
      second =
          same_rest q y1 p1 (w1 * x2 + w3 * (w1 * x3)) (v1 * z2 + v3 * (v1 * z3)) (x0 + w3 * x1) (z0 + v3 * z1) positive
          (sum_congruent q (w1 * x2) (v1 * z2) (w3 * (w1 * x3)) (v3 * (v1 * z3)) second down)
          (sum_congruent q x0 z0 (w3 * x1) (v3 * z1) four.first up)
          here.second there.second;
      third = same_rest q y2 p2 (w2 * (x1 + w1 * x3)) (v2 * (z1 + v1 * z3)) (x0 + w1 * x2) (z0 + v1 * z2) positive odd even here.third there.third;
      fourth =
          same_rest q y3 p3 (w1 * x2 + w3 * x1) (v1 * z2 + v3 * z1) (x0 + w3 * (w1 * x3)) (z0 + v3 * (v1 * z3)) positive
          (sum_congruent q (w1 * x2) (v1 * z2) (w3 * x1) (v3 * z1) second up)
          (sum_congruent q x0 z0 (w3 * (w1 * x3)) (v3 * (v1 * z3)) four.first down)
          here.fourth there.fourth;
    }

pub uncrossed_along : (q w1 w2 w3 y0 y1 y2 y3 x0 x1 x2 x3 v1 v2 v3 z0 z1 z2 z3 p0 p1 p2 p3 : ℕ) → 0 < q
    → IsUncrossed q w1 w2 w3 y0 y1 y2 y3 x0 x1 x2 x3 → IsUncrossed q v1 v2 v3 z0 z1 z2 z3 p0 p1 p2 p3
    → w1 % q ≡ v1 % q → w2 % q ≡ v2 % q → w3 % q ≡ v3 % q → AreFour q y0 y1 y2 y3 z0 z1 z2 z3 → AreFour q x0 x1 x2 x3 p0 p1 p2 p3
uncrossed_along q w1 w2 w3 y0 y1 y2 y3 x0 x1 x2 x3 v1 v2 v3 z0 z1 z2 z3 p0 p1 p2 p3 positive here there e1 e2 e3 four =
    let even = sum_congruent q y0 z0 y2 z2 four.first four.third in
    let odd = sum_congruent q y1 z1 y3 z3 four.second four.fourth in
    let a = product_congruent q w2 v2 y0 z0 e2 four.first in
    let b = product_congruent q w3 v3 y1 z1 e3 four.second in
    let c = product_congruent q w2 v2 y2 z2 e2 four.third in
    let d = product_congruent q w3 v3 y3 z3 e3 four.fourth in
    record {
      first = here.first ∙ sum_congruent q (y0 + y2) (z0 + z2) (y1 + y3) (z1 + z3) even odd ∙ sym there.first;
      second =
          same_rest q x1 p1 (w2 * y0 + w3 * y1) (v2 * z0 + v3 * z1) (w2 * y2 + w3 * y3) (v2 * z2 + v3 * z3) positive
          (sum_congruent q (w2 * y0) (v2 * z0) (w3 * y1) (v3 * z1) a b) (sum_congruent q (w2 * y2) (v2 * z2) (w3 * y3) (v3 * z3) c d)
          here.second there.second;
      third =
          same_rest q x2 p2 (w1 * (y0 + y2)) (v1 * (z0 + z2)) (w1 * (y1 + y3)) (v1 * (z1 + z3)) positive
          (product_congruent q w1 v1 (y0 + y2) (z0 + z2) e1 even) (product_congruent q w1 v1 (y1 + y3) (z1 + z3) e1 odd)
          here.third there.third;
      fourth =
          same_rest q x3 p3 (w1 * (w2 * y2 + w3 * y1)) (v1 * (v2 * z2 + v3 * z1)) (w1 * (w2 * y0 + w3 * y3)) (v1 * (v2 * z0 + v3 * z3)) positive
          (product_congruent q w1 v1 (w2 * y2 + w3 * y1) (v2 * z2 + v3 * z1) e1 (sum_congruent q (w2 * y2) (v2 * z2) (w3 * y1) (v3 * z1) c b))
          (product_congruent q w1 v1 (w2 * y0 + w3 * y3) (v2 * z0 + v3 * z3) e1 (sum_congruent q (w2 * y0) (v2 * z0) (w3 * y3) (v3 * z3) a d))
          here.fourth there.fourth;
    }

-- ---- parts

-- the parts of a polynomial, l each with 4h between their coefficients, and 4l each with h between theirs
pub parts_crossed : (q : ℕ) (p : ℕ → ℕ) (x l h r j : ℕ) → (x ^ ((h + h + (h + h)) * l) + 1) % q ≡ 0
    → IsCrossed q (x ^ ((h + h) * (2 * j + 1))) (x ^ (h * (2 * j + 1))) (x ^ (h * (2 * (j + l) + 1)))
    (part p x (h + h + (h + h)) l r j) (part p x (h + h + (h + h)) l (r + h) j) (part p x (h + h + (h + h)) l (r + (h + h)) j) (part p x (h + h + (h + h)) l (r + h + (h + h)) j)
    (part p x h (l + l + (l + l)) r j) (part p x h (l + l + (l + l)) r (j + l)) (part p x h (l + l + (l + l)) r (j + (l + l))) (part p x h (l + l + (l + l)) r (j + l + (l + l)))
parts_crossed q p x l h r j minus_one =
    let even = part-halves p x (h + h) l r j in
    let odd = part-halves p x (h + h) l (r + h) j in
    let c = part-halves_around q p x (h + h) l r j minus_one in
    let d = part-halves_around q p x (h + h) l (r + h) j minus_one in
    let a_turned = part-halves_around q p x h (l + l) r j again in
    let c_turned = part-halves_around q p x h (l + l) r (j + l) again in
    record {
      first = ap (λ (u : ℕ). u % q) (part-halves p x h (l + l) r j ∙ (λ i. even i + w2 * odd i));
      second =
          ap (λ (u : ℕ). (u + (w1 * x2 + w3 * (w1 * x3))) % q) (part-halves p x h (l + l) r (j + l))
          ∙ ap (λ (u : ℕ). u % q) (collected lower w3 other (w1 * x2) (w1 * x3))
          ∙ sum_congruent q (lower + w1 * x2) x0 (w3 * (other + w1 * x3)) (w3 * x1) c (product_congruent q w3 w3 (other + w1 * x3) x1 refl d);
      third = ap (λ (u : ℕ). (part p x h (l + l + (l + l)) r (j + (l + l)) + w2 * u) % q) (sym odd) ∙ a_turned ∙ ap (λ (u : ℕ). u % q) even;
      fourth =
          sum_congruent q y3 y3 (w1 * x2 + w3 * x1) (w1 * x2 + w3 * (other + w1 * x3)) refl
          (sum_congruent q (w1 * x2) (w1 * x2) (w3 * x1) (w3 * (other + w1 * x3)) refl (product_congruent q w3 w3 x1 (other + w1 * x3) refl (sym d)))
          ∙ ap (λ (u : ℕ). u % q) (parted y3 w3 other (w1 * x2) (w1 * x3))
          ∙ sum_congruent q (y3 + w3 * other) lower (w1 * x2 + w3 * (w1 * x3)) (w1 * x2 + w3 * (w1 * x3)) c_turned refl
          ∙ ap (λ (u : ℕ). u % q) (grouped lower (w1 * x2) (w3 * (w1 * x3)))
          ∙ sum_congruent q (lower + w1 * x2) x0 (w3 * (w1 * x3)) (w3 * (w1 * x3)) c refl;
    }
  where
    w1 : ℕ
    w1 = x ^ ((h + h) * (2 * j + 1))

    w2 : ℕ
    w2 = x ^ (h * (2 * j + 1))

    w3 : ℕ
    w3 = x ^ (h * (2 * (j + l) + 1))

    x0 : ℕ
    x0 = part p x (h + h + (h + h)) l r j

    x1 : ℕ
    x1 = part p x (h + h + (h + h)) l (r + h) j

    x2 : ℕ
    x2 = part p x (h + h + (h + h)) l (r + (h + h)) j

    x3 : ℕ
    x3 = part p x (h + h + (h + h)) l (r + h + (h + h)) j

    y3 : ℕ
    y3 = part p x h (l + l + (l + l)) r (j + l + (l + l))

    lower : ℕ
    lower = part p x (h + h) (l + l) r (j + l)

    other : ℕ
    other = part p x (h + h) (l + l) (r + h) (j + l)

    again : (x ^ ((h + h) * (l + l)) + 1) % q ≡ 0
    again =
        let power : (h + h) * (l + l) ≡ (h + h + (h + h)) * l = omega arith in
        ap (λ (u : ℕ). (x ^ u + 1) % q) power ∙ minus_one

    collected : (a w b c d : ℕ) → a + w * b + (c + w * d) ≡ a + c + w * (b + d)
    collected a w b c d = omega arith

    parted : (a w b c d : ℕ) → a + (c + w * (b + d)) ≡ a + w * b + (c + w * d)
    parted a w b c d = omega arith

    grouped : (a b c : ℕ) → a + (b + c) ≡ a + b + c
    grouped a b c = omega arith

-- ---- shares

-- the shares of coefficients, of h values each, 4l apart, and of 4h values each, l apart
pub shares_uncrossed : (q : ℕ) (v : ℕ → ℕ) (y l h r j w1 w2 w3 : ℕ) → 0 < q → (y ^ ((h + h + (h + h)) * l) + 1) % q ≡ 0
    → (w1 + y ^ ((2 * j + 1) * (h + h))) % q ≡ 0 → (w2 + y ^ ((2 * j + 1) * h)) % q ≡ 0 → (w3 + y ^ ((2 * (j + l) + 1) * h)) % q ≡ 0
    → IsUncrossed q w1 w2 w3
    (share v y (l + l + (l + l)) h r j) (share v y (l + l + (l + l)) h r (j + l)) (share v y (l + l + (l + l)) h r (j + (l + l))) (share v y (l + l + (l + l)) h r (j + l + (l + l)))
    (share v y l (h + h + (h + h)) r j) (share v y l (h + h + (h + h)) (r + h) j) (share v y l (h + h + (h + h)) (r + (h + h)) j) (share v y l (h + h + (h + h)) (r + h + (h + h)) j)
shares_uncrossed q v y l h r j w1 w2 w3 positive minus_one e1 e2 e3 =
    let even = share-halves v y (l + l) h r j in
    let odd = share-halves v y (l + l) h r (j + l) in
    let c = share-halves_further q v y (l + l) h r j w2 positive inner e2 in
    let d = share-halves_further q v y (l + l) h r (j + l) w3 positive inner e3 in
    let outside = share-halves_further q v y l (h + h) r j w1 positive outer e1 in
    let beyond = share-halves_further q v y l (h + h) (r + h) j w1 positive outer e1 in
    record {
      first = ap (λ (u : ℕ). u % q) (share-halves v y l (h + h) r j ∙ (λ i. even i + odd i));
      second =
          ap (λ (u : ℕ). (u + (w2 * y0 + w3 * y1)) % q) (share-halves v y l (h + h) (r + h) j)
          ∙ ap (λ (u : ℕ). u % q) (collected near far (w2 * y0) (w3 * y1))
          ∙ sum_congruent q (near + w2 * y0) (w2 * y2) (far + w3 * y1) (w3 * y3) c d;
      third = ap (λ (u : ℕ). (share v y l (h + h + (h + h)) (r + (h + h)) j + w1 * u) % q) (sym even) ∙ outside ∙ ap (λ (u : ℕ). (w1 * u) % q) odd;
      fourth =
          sum_congruent q x3 x3 (w1 * (w2 * y2 + w3 * y1)) (w1 * (near + w2 * y0 + w3 * y1)) refl
          (product_congruent q w1 w1 (w2 * y2 + w3 * y1) (near + w2 * y0 + w3 * y1) refl (sum_congruent q (w2 * y2) (near + w2 * y0) (w3 * y1) (w3 * y1) (sym c) refl))
          ∙ ap (λ (u : ℕ). u % q) (parted x3 w1 near (w2 * y0) (w3 * y1))
          ∙ sum_congruent q (x3 + w1 * near) (w1 * far) (w1 * (w2 * y0 + w3 * y1)) (w1 * (w2 * y0 + w3 * y1)) beyond refl
          ∙ ap (λ (u : ℕ). u % q) (grouped w1 far (w2 * y0) (w3 * y1))
          ∙ product_congruent q w1 w1 (w2 * y0 + (far + w3 * y1)) (w2 * y0 + w3 * y3) refl (sum_congruent q (w2 * y0) (w2 * y0) (far + w3 * y1) (w3 * y3) refl d);
    }
  where
    y0 : ℕ
    y0 = share v y (l + l + (l + l)) h r j

    y1 : ℕ
    y1 = share v y (l + l + (l + l)) h r (j + l)

    y2 : ℕ
    y2 = share v y (l + l + (l + l)) h r (j + (l + l))

    y3 : ℕ
    y3 = share v y (l + l + (l + l)) h r (j + l + (l + l))

    x3 : ℕ
    x3 = share v y l (h + h + (h + h)) (r + h + (h + h)) j

    near : ℕ
    near = share v y (l + l) (h + h) (r + h) j

    far : ℕ
    far = share v y (l + l) (h + h) (r + h) (j + l)

    inner : (y ^ ((l + l + (l + l)) * h) + 1) % q ≡ 0
    inner =
        let power : (l + l + (l + l)) * h ≡ (h + h + (h + h)) * l = omega arith in
        ap (λ (u : ℕ). (y ^ u + 1) % q) power ∙ minus_one

    outer : (y ^ ((l + l) * (h + h)) + 1) % q ≡ 0
    outer =
        let power : (l + l) * (h + h) ≡ (h + h + (h + h)) * l = omega arith in
        ap (λ (u : ℕ). (y ^ u + 1) % q) power ∙ minus_one

    collected : (a b c d : ℕ) → a + b + (c + d) ≡ a + c + (b + d)
    collected a b c d = omega arith

    parted : (a w b c d : ℕ) → a + w * (b + c + d) ≡ a + w * b + w * (c + d)
    parted a w b c d = omega arith

    grouped : (w b c d : ℕ) → w * b + w * (c + d) ≡ w * (c + (b + d))
    grouped w b c d = omega arith
