-- The sums that make up a coefficient of a product, as far as a loop has come.
use Rattle.std.proofs.Common.{◌≡◌, ℕ, zero, suc, ◌+◌, ◌-◌, ◌*◌, ◌%◌, ◌<◌, ◌≤◌, List, length, get_or, set, refl, ap, ◌∙◌, sym, arith}
use Rattle.std.proofs.lemmas.List.{get_or_past}
use Rattle.std.proofs.lemmas.Nat.{mul-le}
use Rattle.std.proofs.Math.Nat.{mod-lt}
use Rattle.psi_residue.specs.declared.numbers.Modulus.{Modulus}
use Rattle.psi_residue.specs.Numbers.{modulus_of}
use Rattle.psi_residue.specs.Polynomials.{IsPolynomial}
use Rattle.psi_residue.specs.Ring.{conv, product_at, product}
use Rattle.psi_residue.specs.Sums.{sum_below}
use Rattle.psi_residue.proofs.Moduli.{modulus-bound}
use Rattle.psi_residue.proofs.Filling.{up_done}
use Rattle.psi_residue.proofs.Sums.{sum_below-more, same_as_table}

-- the first n terms of the sum of a_i * b_j over i + j = s
unfoldable pub first_terms : List ℕ → List ℕ → ℕ → ℕ → ℕ
first_terms a b s n = sum_below n (λ i. get_or a i 0 * get_or b (s - i) 0)

pub first_terms-none : (a b : List ℕ) (s : ℕ) → first_terms a b s 0 ≡ 0
unfolding first_terms sum_below
first_terms-none a b s = refl

pub first_terms-more : (a b : List ℕ) (s n : ℕ) → first_terms a b s (n + 1) ≡ first_terms a b s n + get_or a n 0 * get_or b (s - n) 0
unfolding first_terms
first_terms-more a b s n = sum_below-more n (λ i. get_or a i 0 * get_or b (s - i) 0)

pub conv-first_terms : (a b : List ℕ) (s : ℕ) → first_terms a b s (s + 1) ≡ conv a b s
unfolding first_terms conv
conv-first_terms a b s = refl

-- terms whose second factor is past the end are 0
pub first_terms-past : (a b : List ℕ) (s n : ℕ) → length b + n ≤ s + 1 → first_terms a b s n ≡ 0
first_terms-past a b s zero h = first_terms-none a b s
first_terms-past a b s (suc n) h =
    let before = first_terms-past a b s n (omega arith) in
    let past : get_or b (s - n) 0 ≡ 0 = get_or_past b (s - n) 0 (omega arith) in
    let e : suc n ≡ n + 1 = omega arith in
    ap (λ (k : ℕ). first_terms a b s k) e ∙ first_terms-more a b s n ∙ ap (λ (u : ℕ). u + get_or a n 0 * get_or b (s - n) 0) before ∙ ap (λ (u : ℕ). 0 + get_or a n 0 * u) past ∙ omega arith

-- terms whose first factor is past the end add nothing
pub first_terms-rest : (a b : List ℕ) (s n d : ℕ) → length a ≤ n → first_terms a b s (n + d) ≡ first_terms a b s n
first_terms-rest a b s n zero h = let e : n + 0 ≡ n = omega arith in ap (λ (k : ℕ). first_terms a b s k) e
first_terms-rest a b s n (suc d) h =
    let before = first_terms-rest a b s n d h in
    let past : get_or a (n + d) 0 ≡ 0 = get_or_past a (n + d) 0 (omega arith) in
    let e : n + suc d ≡ n + d + 1 = omega arith in
    ap (λ (k : ℕ). first_terms a b s k) e ∙ first_terms-more a b s (n + d) ∙ ap (λ (u : ℕ). first_terms a b s (n + d) + u * get_or b (s - (n + d)) 0) past ∙ (let z : first_terms a b s (n + d) + 0 * get_or b (s - (n + d)) 0 ≡ first_terms a b s (n + d) = omega arith in z) ∙ before

-- the sum over i + j = k + 4096 has terms from i = k + 1 to 4095 alone
pub high_conv : (a b : List ℕ) (k : ℕ) → length a ≡ 4096 → k < 4096 → first_terms a b (k + 4096) 4096 ≡ conv a b (k + 4096)
high_conv a b k size lt =
    let e : 4096 + (k + 1) ≡ k + 4096 + 1 = omega arith in
    sym (first_terms-rest a b (k + 4096) 4096 (k + 1) (omega arith)) ∙ ap (λ (n : ℕ). first_terms a b (k + 4096) n) e ∙ conv-first_terms a b (k + 4096)

-- one term's bound, 2^72
pub term-bound : (m : Modulus) (a b : List ℕ) (i j : ℕ) → IsPolynomial (modulus_of m) a → IsPolynomial (modulus_of m) b → i < 4096 → j < 4096 → get_or a i 0 * get_or b j 0 ≤ 4722366482869645213696
term-bound m a b i j first second i_lt j_lt =
    let x = first.below i i_lt in
    let y = second.below j j_lt in
    let top = modulus-bound m in
    mul-le (get_or a i 0) (get_or b j 0) 68719476736 68719476736 (omega arith) (omega arith)

-- the first k elements are coefficients of the product
unfoldable pub StartsProduct : (m : ℕ) → List ℕ → List ℕ → List ℕ → ℕ → Type 0
StartsProduct m a b out k = (j : ℕ) → j < k → get_or out j 0 ≡ product_at m 4096 a b j

pub StartsProduct-none : (m : ℕ) (a b out : List ℕ) → StartsProduct m a b out 0
unfolding StartsProduct
StartsProduct-none m a b out = λ j lt. absurd (omega arith)

pub StartsProduct-more : (m : ℕ) (a b out : List ℕ) (k low high y : ℕ) → StartsProduct m a b out k → k < length out → low ≡ conv a b k → high ≡ conv a b (k + 4096) → y ≡ (low + (m - high % m)) % m → StartsProduct m a b (set out k y) (k + 1)
unfolding StartsProduct product_at
StartsProduct-more m a b out k low high y before lt low-is high-is y-is =
    up_done (product_at m 4096 a b) out k y lt (y-is ∙ rw (low-is, high-is) refl) before

pub StartsProduct-all : (m : ℕ) (a b out : List ℕ) (k : ℕ) → k ≡ 4096 → length out ≡ 4096 → StartsProduct m a b out k → out ≡ product m 4096 a b
unfolding StartsProduct product
StartsProduct-all m a b out k all size written = same_as_table 4096 (product_at m 4096 a b) out size (λ j lt. written j (omega arith))

pub StartsProduct-reduced : (m : ℕ) (a b out : List ℕ) (k : ℕ) → 0 < m → k ≡ 4096 → length out ≡ 4096 → StartsProduct m a b out k → IsPolynomial m out
unfolding StartsProduct product_at
StartsProduct-reduced m a b out k positive all size written = record {
  size = size;
  below = λ j lt. rw (written j (omega arith)) (mod-lt (conv a b j + (m - conv a b (j + 4096) % m)) positive);
}
