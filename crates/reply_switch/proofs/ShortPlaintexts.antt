-- The opening of a short ciphertext computes the definition.
use Rattle.std.proofs.Common.{◌≡◌, ℕ, suc, ◌+◌, ◌-◌, ◌%◌, ◌<◌, ◌≤◌, List, [], ◌∷◌, length, get_or, replicate, refl, ap, ◌∙◌, sym, arith, ℤ}
use Rattle.std.proofs.Math.Nat.{mod-mod, mod-add-mod}
use Rattle.psi_residue.specs.declared.numbers.Modulus.TheVariants as moduli
use Rattle.psi_residue.specs.Sums.{table}
use Rattle.psi_residue.specs.Numbers.{first_modulus, plain_modulus}
use Rattle.psi_residue.specs.Polynomials.{IsPolynomial}
use Rattle.psi_residue.specs.Ring.{product_at, product}
use Rattle.psi_residue.specs.Residues.{residues_of}
use Rattle.psi_residue.specs.ShortCiphertexts.{restored, restored_list}
use Rattle.psi_residue.proofs.Polynomials.{IsPolynomial-table}
use Rattle.psi_residue.proofs.Sums.{length-table, slice_index-table, same_as_table}
use Rattle.negacyclic.specs.Transforms.{values_of, polynomial_of, with_products}
use Rattle.negacyclic.proofs.Ring.{ring-mod}
use Rattle.negacyclic.proofs.Products.{product-ring, product-equal, product_at-reduced, slice_index-product}
use Rattle.negacyclic.proofs.TransformLaws.{product_by_values, zeros-any}
use Rattle.bfv_core.specs.Encryptions.{phase_residue}
use Rattle.bfv_core.specs.ShortOpenings.{opened_short, short_phase, short_opening}
use Rattle.bfv_core.proofs.Scaling.{residues_of-polynomial}
use Rattle.reply_switch.proofs.Restoring.{length-restored_list, restored_list-at}

-- what a short list stands for, modulo the first modulus
abbrev pub reduced_list : (drop : ℕ) → List ℕ → List ℕ
reduced_list drop xs = table 4096 (λ k. restored drop (get_or xs k 0) % first_modulus)

-- a product is that of the reduced factor
product-reduced : (m c : ℕ) (a b f : List ℕ) → 0 < m → (c + 1) % m ≡ 0 → length a ≡ suc 4095 → length b ≡ suc 4095 → length f ≡ suc 4095
    → ((i : ℕ) → i ≤ 4095 → get_or a i 0 % m ≡ get_or b i 0 % m) → product m 4096 a f ≡ product m 4096 b f
product-reduced m c a b f positive e la lb lf same = product-equal m 4096 a f b f (λ k lt. at k (omega arith))
  where
    at : (k : ℕ) → k ≤ 4095 → product_at m 4096 a f k ≡ product_at m 4096 b f k
    at k le =
        sym (product_at-reduced m 4096 a f k)
        ∙ product-ring m c 4095 a f positive e la lf k le
        ∙ ring-mod m 4095 c c (λ i. get_or a i 0) (λ i. get_or b i 0) (λ i. get_or f i 0) (λ i. get_or f i 0) refl same (λ i lei. refl) k le
        ∙ sym (product-ring m c 4095 b f positive e lb lf k le)
        ∙ product_at-reduced m 4096 b f k

reduced-at : (drop : ℕ) (xs : List ℕ) (i : ℕ) → i ≤ 4095 → get_or (reduced_list drop xs) i 0 % first_modulus ≡ get_or (restored_list drop xs) i 0 % first_modulus
reduced-at drop xs i le =
    ap (λ (u : ℕ). u % first_modulus) (slice_index-table 4096 (λ k. restored drop (get_or xs k 0) % first_modulus) i (omega arith))
    ∙ mod-mod (restored drop (get_or xs i 0)) first_modulus
    ∙ ap (λ (u : ℕ). u % first_modulus) (sym (restored_list-at drop xs i (omega arith)))

pub reduced_list-below : (drop : ℕ) (xs : List ℕ) (k : ℕ) → k < 4096 → restored drop (get_or xs k 0) % first_modulus < first_modulus
reduced_list-below drop xs k lt = omega arith

-- the product with the key by values
pub product_from : (drop : ℕ) (key : List ℤ) (xs zeros first second sum out : List ℕ) → length key ≡ 4096 → zeros ≡ replicate 4096 0
    → first ≡ values_of moduli.Q1 (reduced_list drop xs) → second ≡ values_of moduli.Q1 (residues_of first_modulus key)
    → sum ≡ with_products first_modulus zeros first second → out ≡ polynomial_of moduli.Q1 sum
    → out ≡ product first_modulus 4096 (restored_list drop xs) (residues_of first_modulus key)
product_from drop key xs zeros first second sum out lk z f s products coefficients =
    coefficients
    ∙ ap (polynomial_of moduli.Q1) (products ∙ (λ i. with_products first_modulus (z i) (f i) (s i)))
    ∙ product_by_values moduli.Q1 (reduced_list drop xs) (residues_of first_modulus key) (replicate 4096 0)
    (IsPolynomial-table first_modulus (λ k. restored drop (get_or xs k 0) % first_modulus) (reduced_list-below drop xs)) polynomial (zeros-any 4096)
    ∙ product-reduced first_modulus (first_modulus - 1) (reduced_list drop xs) (restored_list drop xs) (residues_of first_modulus key) (omega arith) refl
    (length-table 4096 (λ k. restored drop (get_or xs k 0) % first_modulus)) (length-restored_list drop xs) polynomial.size (reduced-at drop xs)
  where
    polynomial : IsPolynomial first_modulus (residues_of first_modulus key)
    polynomial = residues_of-polynomial first_modulus key (omega arith) lk

pub short_opening-from : (drop : ℕ) (key : List ℤ) (z0 z1 products out : List ℕ)
    → products ≡ product first_modulus 4096 (restored_list drop z1) (residues_of first_modulus key) → length out ≡ 4096
    → ((k : ℕ) → k < 4096 → get_or out k 0 ≡ opened_short ((restored drop (get_or z0 k 0) % first_modulus + get_or products k 0) % first_modulus))
    → out ≡ short_opening drop key (z0 ∷ z1 ∷ [])
unfolding short_opening short_phase phase_residue
short_opening-from drop key z0 z1 products out e len each =
    same_as_table 4096 (λ k. opened_short (short_phase drop key (z0 ∷ z1 ∷ []) k)) out len
    (λ k lt.
    each k lt
    ∙ ap opened_short
    (mod-add-mod (restored drop (get_or z0 k 0)) first_modulus (get_or products k 0)
    ∙ (λ i. (sym (restored_list-at drop z0 k lt) i
    + (ap (λ (xs : List ℕ). get_or xs k 0) e ∙ slice_index-product first_modulus 4096 (restored_list drop z1) (residues_of first_modulus key) k lt) i) % first_modulus)))

opened_short-below : (w : ℕ) → opened_short w < plain_modulus
unfolding opened_short
opened_short-below w = omega arith

pub short_opening-polynomial : (drop : ℕ) (key : List ℤ) (ct : List (List ℕ)) → IsPolynomial plain_modulus (short_opening drop key ct)
unfolding short_opening
short_opening-polynomial drop key ct =
    IsPolynomial-table plain_modulus (λ k. opened_short (short_phase drop key ct k)) (λ k lt. opened_short-below (short_phase drop key ct k))
