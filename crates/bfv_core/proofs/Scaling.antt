-- Plaintexts times the scale, added place by place, and the opening by residues.
use Rattle.std.proofs.Common.{◌≡◌, ℕ, ◌+◌, ◌-◌, ◌*◌, ◌/◌, ◌%◌, ◌<◌, ◌≤◌, List, length, get_or, replicate, refl, ap, ◌∙◌, sym, arith, ℤ, pos, negsuc, suc}
use Rattle.std.proofs.lemmas.List.{get_or-replicate, get_or-map, length-map}
use Rattle.psi_residue.specs.declared.numbers.Modulus.{Modulus}
use Rattle.psi_residue.specs.declared.numbers.Modulus.TheVariants as moduli
use Rattle.psi_residue.specs.Numbers.{modulus_of, first_modulus, second_modulus, scale}
use Rattle.psi_residue.specs.Polynomials.{IsPolynomial}
use Rattle.psi_residue.specs.Ring.{product_at, product}
use Rattle.psi_residue.specs.Residues.{composed, first_inverse, residue_of, residues_of}
use Rattle.psi_residue.proofs.Filling.{IsFilled, IsFilled-none}
use Rattle.negacyclic.proofs.Filled.{mod-below}
use Rattle.negacyclic.proofs.Products.{slice_index-product}
use Rattle.psi_residue.proofs.Congruences.{sum_congruent, product_congruent}
use Rattle.psi_residue.proofs.Sums.{table-same, slice_index-table}
use Rattle.std.proofs.Math.Nat.{mod-mod}
use Rattle.negacyclic.specs.Transforms.{with_products}
use Rattle.bfv_core.specs.Encryptions.{opened_coefficient}
use Rattle.bfv_core.specs.EncryptedLists.{added, scaled, hidden}

-- place by place with a list of scales
pub with_scales : (m d : ℕ) (old wide plain : List ℕ) → d ≡ scale % m → wide ≡ plain → with_products m old (replicate 4096 d) wide ≡ added m old (scaled m plain)
unfolding with_products added scaled
with_scales m d old wide plain d-is same =
    table-same 4096 (λ k. (get_or old k 0 + get_or (replicate 4096 d) k 0 * get_or wide k 0) % m) (λ k. (get_or old k 0 + get_or (scaled m plain) k 0) % m)
    (λ k lt.
    sum_congruent m (get_or old k 0) (get_or old k 0) (get_or (replicate 4096 d) k 0 * get_or wide k 0) (get_or (scaled m plain) k 0) refl
    (ap (λ (u : ℕ). (u * get_or wide k 0) % m) (get_or-replicate 4096 k d zero lt ∙ d-is)
    ∙ ap (λ (xs : List ℕ). (scale % m * get_or xs k 0) % m) same
    ∙ product_congruent m (scale % m) scale (get_or plain k 0) (get_or plain k 0) (mod-mod scale m) refl
    ∙ sym (mod-mod (scale * get_or plain k 0) m)
    ∙ ap (λ (u : ℕ). u % m) (sym (slice_index-table 4096 (λ j. scale * get_or plain j 0 % m) k lt))))
  where
    zero : ℕ
    zero = 0

-- the multiple of the first modulus, by a fold of 2^36 modulo the second one
pub multiple_of : (a b : ℕ) → a < first_modulus
    → a + first_modulus * (((b + (2 * second_modulus - a)) * 42540076863 / 68719476736 * 245759 + (b + (2 * second_modulus - a)) * 42540076863 % 68719476736) % second_modulus) ≡ composed a b
unfolding composed first_inverse
multiple_of a b below = omega (arith, below)

-- the rounding by residues
pub opened_by_residues : (a b rest : ℕ) → a + first_modulus * rest ≡ composed a b → (2 * 65537 * a / 68719403009 + 2 * 65537 * rest + 68719230977) / (2 * 68719230977) % 65537 ≡ opened_coefficient (composed a b)
unfolding opened_coefficient
opened_by_residues a b rest whole = ap (λ (u : ℕ). u % 65537) (divided a rest (composed a b) whole)
  where
    divided : (a rest x : ℕ) → a + first_modulus * rest ≡ x → (2 * 65537 * a / 68719403009 + 2 * 65537 * rest + 68719230977) / (2 * 68719230977) ≡ (2 * 65537 * x + 4722344527977019809793) / (2 * 4722344527977019809793)
    divided a rest x e = omega arith

-- the residues of a key are a polynomial
residue_of-below : (m : ℕ) (x : ℤ) → 0 < m → residue_of m x < m
residue_of-below m (pos n) positive = mod-below n m positive
residue_of-below m (negsuc n) positive = mod-below (m - suc n % m) m positive

pub residues_of-polynomial : (m : ℕ) (xs : List ℤ) → 0 < m → length xs ≡ 4096 → IsPolynomial m (residues_of m xs)
residues_of-polynomial m xs positive len = record {
  size = length-map xs (residue_of m) ∙ len;
  below = λ i lt. rw (get_or-map (residue_of m) xs i (pos 0) 0 (omega (arith, len))) (residue_of-below m (get_or xs i (pos 0)) positive);
}

-- a list that is to be filled begins as the product with the key
pub key_product-none : (m : ℕ) (key : List ℤ) (a out : List ℕ) (new : ℕ → ℕ) → out ≡ product m 4096 a (residues_of m key) → length out ≡ 4096 → IsFilled 0 new (product_at m 4096 a (residues_of m key)) out 0
key_product-none m key a out new e len =
    IsFilled-none 0 new (product_at m 4096 a (residues_of m key)) out (λ k lt. ap (λ (xs : List ℕ). get_or xs k 0) e ∙ slice_index-product m 4096 a (residues_of m key) k (omega (arith, len)))

-- masked errors and the scaled plaintext are what hides it
pub hidden_from : (m : ℕ) (mask : List ℕ) (key : List ℤ) (error : ℕ → ℤ) (plain masked : List ℕ)
    → ((k : ℕ) → k < 4096 → get_or masked k 0 ≡ (residue_of m (error k) + (m - product_at m 4096 mask (residues_of m key) k)) % m)
    → added m masked (scaled m plain) ≡ hidden m mask key error plain
unfolding added scaled hidden
hidden_from m mask key error plain masked each =
    table-same 4096 (λ k. (get_or masked k 0 + get_or (scaled m plain) k 0) % m) (λ k. (residue_of m (error k) + (m - product_at m 4096 mask (residues_of m key) k) + scale * get_or plain k 0) % m)
    (λ k lt.
    sum_congruent m (get_or masked k 0) (residue_of m (error k) + (m - product_at m 4096 mask (residues_of m key) k)) (get_or (scaled m plain) k 0) (scale * get_or plain k 0)
    (ap (λ (u : ℕ). u % m) (each k lt) ∙ mod-mod (residue_of m (error k) + (m - product_at m 4096 mask (residues_of m key) k)) m)
    (ap (λ (u : ℕ). u % m) (slice_index-table 4096 (λ j. scale * get_or plain j 0 % m) k lt) ∙ mod-mod (scale * get_or plain k 0) m))

pub plain-below : (m : Modulus) → 65537 ≤ modulus_of m
plain-below moduli.Q1 = omega arith
plain-below moduli.Q2 = omega arith
plain-below moduli.T = omega arith
