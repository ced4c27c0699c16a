-- A decryption computes the opening.
use Rattle.std.proofs.Common.{◌≡◌, ℕ, ◌+◌, ◌%◌, ◌<◌, List, length, get_or, ap, ◌∙◌, arith, ℤ}
use Rattle.psi_residue.specs.Sums.{table}
use Rattle.psi_residue.specs.Numbers.{first_modulus, second_modulus, plain_modulus}
use Rattle.psi_residue.specs.Polynomials.{IsPolynomial}
use Rattle.psi_residue.specs.Ring.{product_at, product}
use Rattle.psi_residue.specs.Residues.{residues_of, composed}
use Rattle.psi_residue.proofs.Sums.{slice_index-table, same_as_table, table-same}
use Rattle.psi_residue.proofs.Filling.{IsFilled, IsFilled-none}
use Rattle.negacyclic.proofs.Products.{slice_index-product}
use Rattle.psi_residue.proofs.Polynomials.{IsPolynomial-table}
use Rattle.psi_residue.specs.Ciphertexts.{list_at}
use Rattle.bfv_core.specs.Encryptions.{phase_residue, phase, opened_coefficient, opening}
use Rattle.bfv_core.specs.EncryptedLists.{added}

-- the coefficients of a product with the key
pub product_from : (m : ℕ) (key coefficients : List ℤ) (a s out : List ℕ) → out ≡ product m 4096 a s → s ≡ residues_of m coefficients → coefficients ≡ key
    → (k : ℕ) → k < 4096 → get_or out k 0 ≡ product_at m 4096 a (residues_of m key) k
product_from m key coefficients a s out e same_s same_key k lt =
    ap (λ (xs : List ℕ). get_or xs k 0) e
    ∙ slice_index-product m 4096 a s k lt
    ∙ ap (λ (xs : List ℕ). product_at m 4096 a xs k) (same_s ∙ ap (residues_of m) same_key)

-- a list that is to be filled begins as that product
pub product-none : (m : ℕ) (key coefficients : List ℤ) (a s out : List ℕ) (new : ℕ → ℕ) → out ≡ product m 4096 a s → s ≡ residues_of m coefficients → coefficients ≡ key
    → length out ≡ 4096 → IsFilled 0 new (product_at m 4096 a (residues_of m key)) out 0
product-none m key coefficients a s out new e same_s same_key len =
    IsFilled-none 0 new (product_at m 4096 a (residues_of m key)) out (λ k lt. product_from m key coefficients a s out e same_s same_key k (omega (arith, len)))

pub phase_from : (m : ℕ) (key coefficients : List ℤ) (c0 c1 s prod out : List ℕ) → out ≡ added m c0 prod → prod ≡ product m 4096 c1 s → s ≡ residues_of m coefficients → coefficients ≡ key
    → out ≡ table 4096 (phase_residue m key c0 c1)
unfolding added phase_residue
phase_from m key coefficients c0 c1 s prod out e same_prod same_s same_key =
    e ∙ table-same 4096 _ _ (λ k lt. ap (λ (u : ℕ). (get_or c0 k 0 + u) % m) (product_from m key coefficients c1 s prod same_prod same_s same_key k lt))

pub opened-below : (x : ℕ) → opened_coefficient x < plain_modulus
unfolding opened_coefficient
opened-below x = omega arith

pub opening-polynomial : (key : List ℤ) (ct : List (List ℕ)) → IsPolynomial plain_modulus (opening key ct)
unfolding opening
opening-polynomial key ct = IsPolynomial-table plain_modulus (λ k. opened_coefficient (phase key ct k)) (λ k lt. opened-below (phase key ct k))

pub opening_from : (key : List ℤ) (ct : List (List ℕ)) (a0 a1 a2 a3 first second out : List ℕ)
    → a0 ≡ list_at ct 0 → a1 ≡ list_at ct 1 → a2 ≡ list_at ct 2 → a3 ≡ list_at ct 3
    → first ≡ table 4096 (phase_residue first_modulus key a0 a2) → second ≡ table 4096 (phase_residue second_modulus key a1 a3)
    → length out ≡ 4096 → ((k : ℕ) → k < 4096 → get_or out k 0 ≡ opened_coefficient (composed (get_or first k 0) (get_or second k 0)))
    → out ≡ opening key ct
unfolding opening phase
opening_from key ct a0 a1 a2 a3 first second out e0 e1 e2 e3 e_first e_second len each =
    same_as_table 4096 _ out len
    (λ k lt.
    let one : get_or first k 0 ≡ phase_residue first_modulus key (list_at ct 0) (list_at ct 2) k =
    ap (λ (xs : List ℕ). get_or xs k 0) e_first ∙ slice_index-table 4096 (phase_residue first_modulus key a0 a2) k lt ∙ (λ i. phase_residue first_modulus key (e0 i) (e2 i) k) in
    let other : get_or second k 0 ≡ phase_residue second_modulus key (list_at ct 1) (list_at ct 3) k =
    ap (λ (xs : List ℕ). get_or xs k 0) e_second ∙ slice_index-table 4096 (phase_residue second_modulus key a1 a3) k lt ∙ (λ i. phase_residue second_modulus key (e1 i) (e3 i) k) in
    each k lt ∙ (λ i. opened_coefficient (composed (one i) (other i))))
