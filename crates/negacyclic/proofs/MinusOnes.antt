-- Differences modulo q, and powers of minus one.
use Rattle.std.proofs.Common.{◌≡◌, ℕ, zero, suc, ◌+◌, ◌*◌, ◌%◌, ◌^◌, ◌<◌, refl, ap, ◌∙◌, sym, arith}
use Rattle.std.proofs.lemmas.Nat.{pow-mod, pow-add}
use Rattle.std.proofs.Math.Nat.{pow-zero, pow-succ'}
use Rattle.psi_residue.proofs.Congruences.{sum_congruent, product_congruent, cancel_term, add_multiple, times_multiple}
use Rattle.psi_residue.proofs.Powers.{pow-pow}

-- two numbers that are the same difference
pub same_rest : (q y z c d a b : ℕ) → 0 < q → c % q ≡ d % q → a % q ≡ b % q → (y + c) % q ≡ a % q → (z + d) % q ≡ b % q → y % q ≡ z % q
same_rest q y z c d a b positive same_taken same_whole first second =
    cancel_term q y z c positive
    (first ∙ same_whole ∙ sym second ∙ sum_congruent q z z d c refl (sym same_taken))

-- what is minus the same number is the same
pub same_negative : (q y z c : ℕ) → 0 < q → (y + c) % q ≡ 0 → (z + c) % q ≡ 0 → y % q ≡ z % q
same_negative q y z c positive first second = cancel_term q y z c positive (first ∙ sym second)

-- a power times minus one
pub turned_power : (q x e d : ℕ) → (x ^ d + 1) % q ≡ 0 → (x ^ (e + d) + x ^ e) % q ≡ 0
turned_power q x e d minus_one =
    ap (λ (u : ℕ). u % q) (ap (λ (u : ℕ). u + x ^ e) (pow-add x e d) ∙ collected (x ^ e) (x ^ d))
    ∙ times_multiple q (x ^ e) (x ^ d + 1) minus_one
  where
    collected : (u v : ℕ) → u * v + u ≡ u * (v + 1)
    collected u v = omega arith

pub one_power : (i : ℕ) → 1 ^ i ≡ 1
one_power zero = pow-zero 1
one_power (suc i) = let e = pow-succ' 1 i in let before = one_power i in omega (arith, e, before)

square_of_minus_one : (q y : ℕ) → (y + 1) % q ≡ 0 → y ^ 2 % q ≡ 1 % q
square_of_minus_one q y minus_one =
    ap (λ (u : ℕ). u % q) (twice y)
    ∙ sym (add_multiple q (y * y) (y + 1) minus_one)
    ∙ ap (λ (u : ℕ). u % q) (regrouped y)
    ∙ add_multiple q 1 (y * (y + 1)) (times_multiple q y (y + 1) minus_one)
    ∙ sym (add_multiple q 1 0 (none q))
    ∙ ap (λ (u : ℕ). u % q) (same 1)
  where
    none : (q : ℕ) → 0 % q ≡ 0
    none q = omega arith

    same : (u : ℕ) → u + 0 ≡ u
    same u = omega arith

    twice : (y : ℕ) → y ^ 2 ≡ y * y
    twice y =
        let first = pow-succ' y 1 in
        let second = pow-succ' y 0 in
        let third = pow-zero y in
        first ∙ ap (λ (u : ℕ). y * u) (second ∙ ap (λ (u : ℕ). y * u) third ∙ (let z : y * 1 ≡ y = omega arith in z))

    regrouped : (y : ℕ) → y * y + (y + 1) ≡ 1 + y * (y + 1)
    regrouped y = omega arith

-- an even power of minus one
pub even_power : (q y i : ℕ) → (y + 1) % q ≡ 0 → y ^ (2 * i) % q ≡ 1 % q
even_power q y i minus_one =
    ap (λ (u : ℕ). u % q) (sym (pow-pow y 2 i))
    ∙ sym (pow-mod (y ^ 2) i q)
    ∙ ap (λ (u : ℕ). u ^ i % q) (square_of_minus_one q y minus_one)
    ∙ pow-mod 1 i q
    ∙ ap (λ (u : ℕ). u % q) (one_power i)

-- a power whose exponent has an even multiple of d more
pub further_power : (q x e d i : ℕ) → (x ^ d + 1) % q ≡ 0 → x ^ (e + 2 * i * d) % q ≡ x ^ e % q
further_power q x e d i minus_one =
    ap (λ (u : ℕ). u % q) (pow-add x e (2 * i * d))
    ∙ product_congruent q (x ^ e) (x ^ e) (x ^ (2 * i * d)) 1 refl
    (ap (λ (u : ℕ). x ^ u % q) (turned d i) ∙ ap (λ (u : ℕ). u % q) (sym (pow-pow x d (2 * i))) ∙ even_power q (x ^ d) i minus_one)
    ∙ ap (λ (u : ℕ). u % q) (times_one (x ^ e))
  where
    times_one : (u : ℕ) → u * 1 ≡ u
    times_one u = omega arith

    turned : (d i : ℕ) → 2 * i * d ≡ d * (2 * i)
    turned d i = omega arith
