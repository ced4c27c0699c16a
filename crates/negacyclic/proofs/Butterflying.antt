-- What the steps compute, from the products in them: four numbers of a pass, forward and backward.
use Rattle.std.proofs.Common.{◌≡◌, ℕ, ◌+◌, ◌-◌, ◌*◌, ◌%◌, ◌≤◌, refl, ap, ◌∙◌, sym, arith}
use Rattle.std.proofs.Math.Nat.{add-mul-mod_self_left, mod-mod}
use Rattle.negacyclic.specs.Butterflies.{IsCrossed, IsUncrossed}
use Rattle.psi_residue.proofs.Congruences.{sum_congruent, product_congruent, add_multiple, times_multiple}

-- a number that is taken from twice the modulus, and added again
without : (q a v : ℕ) → v ≤ 2 * q → (a + (2 * q - v) + v) % q ≡ a % q
without q a v le =
    let e : a + (2 * q - v) + v ≡ a + q * 2 = omega arith in
    ap (λ (u : ℕ). u % q) e ∙ add-mul-mod_self_left a q 2

swapped : (q w x v : ℕ) → v % q ≡ (x * w) % q → v % q ≡ (w * x) % q
swapped q w x v e = e ∙ ap (λ (u : ℕ). u % q) (let z : x * w ≡ w * x = omega arith in z)

pub crossed_from : (q w1 w2 w3 x0 x1 x2 x3 v2 v3 u t : ℕ)
    → v2 % q ≡ (x2 * w1) % q → v3 % q ≡ (x3 * w1) % q → u % q ≡ ((x1 + v3) * w2) % q → t % q ≡ ((x1 + (2 * q - v3)) * w3) % q
    → v2 ≤ 2 * q → v3 ≤ 2 * q → u ≤ 2 * q → t ≤ 2 * q
    → IsCrossed q w1 w2 w3 x0 x1 x2 x3 (x0 + v2 + u) (x0 + (2 * q - v2) + t) (x0 + v2 + (2 * q - u)) (x0 + (2 * q - v2) + (2 * q - t))
crossed_from q w1 w2 w3 x0 x1 x2 x3 v2 v3 u t e2 e3 eu et le2 le3 le_u le_t =
    let s2 = swapped q w1 x2 v2 e2 in
    let s3 = swapped q w1 x3 v3 e3 in
    let even = sum_congruent q (x0 + v2) (x0 + w1 * x2) u (w2 * (x1 + w1 * x3)) (sum_congruent q x0 x0 v2 (w1 * x2) refl s2) odd in
    record {
      first = even;
      second =
          sum_congruent q (x0 + (2 * q - v2) + t) (x0 + (2 * q - v2) + t) (w1 * x2 + w3 * (w1 * x3)) (v2 + w3 * v3) refl
          (sum_congruent q (w1 * x2) v2 (w3 * (w1 * x3)) (w3 * v3) (sym s2) (product_congruent q w3 w3 (w1 * x3) v3 refl (sym s3)))
          ∙ ap (λ (y : ℕ). y % q) (collected (x0 + (2 * q - v2)) t v2 (w3 * v3))
          ∙ sum_congruent q (x0 + (2 * q - v2) + v2) x0 (t + w3 * v3) (w3 * x1) (without q x0 v2 le2) turned;
      third =
          sum_congruent q (x0 + v2 + (2 * q - u)) (x0 + v2 + (2 * q - u)) (w2 * (x1 + w1 * x3)) u refl (sym odd)
          ∙ without q (x0 + v2) u le_u
          ∙ sum_congruent q x0 x0 v2 (w1 * x2) refl s2;
      fourth =
          sum_congruent q (x0 + (2 * q - v2) + (2 * q - t)) (x0 + (2 * q - v2) + (2 * q - t)) (w1 * x2 + w3 * x1) (v2 + (t + w3 * v3)) refl
          (sum_congruent q (w1 * x2) v2 (w3 * x1) (t + w3 * v3) (sym s2) (sym turned))
          ∙ ap (λ (y : ℕ). y % q) (grouped (x0 + (2 * q - v2)) (2 * q - t) v2 t (w3 * v3))
          ∙ sum_congruent q (x0 + (2 * q - v2) + v2 + (2 * q - t) + t) x0 (w3 * v3) (w3 * (w1 * x3)) (without q (x0 + (2 * q - v2) + v2) t le_t ∙ without q x0 v2 le2) (product_congruent q w3 w3 v3 (w1 * x3) refl s3);
    }
  where
    odd : u % q ≡ (w2 * (x1 + w1 * x3)) % q
    odd = swapped q w2 (x1 + v3) u eu ∙ product_congruent q w2 w2 (x1 + v3) (x1 + w1 * x3) refl (sum_congruent q x1 x1 v3 (w1 * x3) refl (swapped q w1 x3 v3 e3))

    parted : (w a b : ℕ) → w * a + w * b ≡ w * (a + b)
    parted w a b = omega arith

    turned : (t + w3 * v3) % q ≡ (w3 * x1) % q
    turned =
        sum_congruent q t (w3 * (x1 + (2 * q - v3))) (w3 * v3) (w3 * v3) (swapped q w3 (x1 + (2 * q - v3)) t et) refl
        ∙ ap (λ (y : ℕ). y % q) (parted w3 (x1 + (2 * q - v3)) v3)
        ∙ product_congruent q w3 w3 (x1 + (2 * q - v3) + v3) x1 refl (without q x1 v3 le3)

    collected : (a b c d : ℕ) → a + b + (c + d) ≡ a + c + (b + d)
    collected a b c d = omega arith

    grouped : (a b c d e : ℕ) → a + b + (c + (d + e)) ≡ a + c + b + d + e
    grouped a b c d e = omega arith

-- a product with one, reduced
reduced_by_one : (q one y z : ℕ) → one ≡ 1 → z ≡ (y * one) % q → z % q ≡ y % q
reduced_by_one q one y z one-is e =
    ap (λ (u : ℕ). u % q) (e ∙ ap (λ (u : ℕ). (y * u) % q) one-is ∙ ap (λ (u : ℕ). u % q) (times_one y)) ∙ mod-mod y q
  where
    times_one : (u : ℕ) → u * 1 ≡ u
    times_one u = omega arith

-- the same four numbers, reduced
pub crossed_reduced : (q one w1 w2 w3 x0 x1 x2 x3 y0 y1 y2 y3 z0 z1 z2 z3 : ℕ) → one ≡ 1
    → z0 ≡ (y0 * one) % q → z1 ≡ (y1 * one) % q → z2 ≡ (y2 * one) % q → z3 ≡ (y3 * one) % q
    → IsCrossed q w1 w2 w3 x0 x1 x2 x3 y0 y1 y2 y3 → IsCrossed q w1 w2 w3 x0 x1 x2 x3 z0 z1 z2 z3
crossed_reduced q one w1 w2 w3 x0 x1 x2 x3 y0 y1 y2 y3 z0 z1 z2 z3 one-is e0 e1 e2 e3 crossed = record {
  first = reduced_by_one q one y0 z0 one-is e0 ∙ crossed.first;
  second = sum_congruent q z1 y1 (w1 * x2 + w3 * (w1 * x3)) (w1 * x2 + w3 * (w1 * x3)) (reduced_by_one q one y1 z1 one-is e1) refl ∙ crossed.second;
  third = sum_congruent q z2 y2 (w2 * (x1 + w1 * x3)) (w2 * (x1 + w1 * x3)) (reduced_by_one q one y2 z2 one-is e2) refl ∙ crossed.third;
  fourth = sum_congruent q z3 y3 (w1 * x2 + w3 * x1) (w1 * x2 + w3 * x1) (reduced_by_one q one y3 z3 one-is e3) refl ∙ crossed.fourth;
}

-- a number that is taken from a multiple of the modulus, and added again
without_top : (q top a b : ℕ) → top % q ≡ 0 → a ≤ top → (b + (top - a) + a) % q ≡ b % q
without_top q top a b multiple le =
    let e : b + (top - a) + a ≡ b + top = omega arith in
    ap (λ (u : ℕ). u % q) e ∙ add_multiple q b top multiple

-- a product with such a difference
difference : (q top w a b x : ℕ) → top % q ≡ 0 → a ≤ top → x % q ≡ ((b + (top - a)) * w) % q → (x + w * a) % q ≡ (w * b) % q
difference q top w a b x multiple le e =
    sum_congruent q x (w * (b + (top - a))) (w * a) (w * a) (swapped q w (b + (top - a)) x e) refl
    ∙ ap (λ (y : ℕ). y % q) (parted w (b + (top - a)) a)
    ∙ product_congruent q w w (b + (top - a) + a) b refl (without_top q top a b multiple le)
  where
    parted : (w a b : ℕ) → w * a + w * b ≡ w * (a + b)
    parted w a b = omega arith

pub uncrossed_from : (q top w1 w2 w3 y0 y1 y2 y3 a1 b1 x2 x3 : ℕ) → top % q ≡ 0
    → a1 % q ≡ ((y2 + (top - y0)) * w2) % q → b1 % q ≡ ((y3 + (top - y1)) * w3) % q
    → x2 % q ≡ ((y1 + y3 + (2 * top - (y0 + y2))) * w1) % q → x3 % q ≡ ((b1 + (2 * q - a1)) * w1) % q
    → y0 ≤ top → y1 ≤ top → y2 ≤ top → a1 ≤ 2 * q
    → IsUncrossed q w1 w2 w3 y0 y1 y2 y3 (y0 + y2 + (y1 + y3)) (a1 + b1) x2 x3
uncrossed_from q top w1 w2 w3 y0 y1 y2 y3 a1 b1 x2 x3 multiple ea eb e2 e3 le0 le1 le2 le_a =
    let c = difference q top w2 y0 y2 a1 multiple le0 ea in
    let d = difference q top w3 y1 y3 b1 multiple le1 eb in
    let last = difference q (2 * q) w1 a1 b1 x3 (twice q) le_a e3 in
    record {
      first = refl;
      second =
          ap (λ (y : ℕ). y % q) (collected a1 b1 (w2 * y0) (w3 * y1))
          ∙ sum_congruent q (a1 + w2 * y0) (w2 * y2) (b1 + w3 * y1) (w3 * y3) c d;
      third = difference q (2 * top) w1 (y0 + y2) (y1 + y3) x2 (times_multiple q 2 top multiple) (omega arith) e2;
      fourth =
          sum_congruent q x3 x3 (w1 * (w2 * y2 + w3 * y1)) (w1 * (a1 + w2 * y0 + w3 * y1)) refl
          (product_congruent q w1 w1 (w2 * y2 + w3 * y1) (a1 + w2 * y0 + w3 * y1) refl (sum_congruent q (w2 * y2) (a1 + w2 * y0) (w3 * y1) (w3 * y1) (sym c) refl))
          ∙ ap (λ (y : ℕ). y % q) (parted x3 w1 a1 (w2 * y0) (w3 * y1))
          ∙ sum_congruent q (x3 + w1 * a1) (w1 * b1) (w1 * (w2 * y0 + w3 * y1)) (w1 * (w2 * y0 + w3 * y1)) last refl
          ∙ ap (λ (y : ℕ). y % q) (grouped w1 b1 (w2 * y0) (w3 * y1))
          ∙ product_congruent q w1 w1 (w2 * y0 + (b1 + w3 * y1)) (w2 * y0 + w3 * y3) refl (sum_congruent q (w2 * y0) (w2 * y0) (b1 + w3 * y1) (w3 * y3) refl d);
    }
  where
    twice : (q : ℕ) → (2 * q) % q ≡ 0
    twice q = times_multiple q 2 q (itself q)
      where
        itself : (q : ℕ) → q % q ≡ 0
        itself q = let e : q ≡ 0 + q * 1 = omega arith in ap (λ (u : ℕ). u % q) e ∙ add-mul-mod_self_left 0 q 1 ∙ none q
          where
            none : (q : ℕ) → 0 % q ≡ 0
            none q = omega arith

    collected : (a b c d : ℕ) → a + b + (c + d) ≡ a + c + (b + d)
    collected a b c d = omega arith

    parted : (x w a b c : ℕ) → x + w * (a + b + c) ≡ x + w * a + w * (b + c)
    parted x w a b c = omega arith

    grouped : (w b c d : ℕ) → w * b + w * (c + d) ≡ w * (c + (b + d))
    grouped w b c d = omega arith
