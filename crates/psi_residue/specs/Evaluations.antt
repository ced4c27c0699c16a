-- The evaluation of a polynomial with plaintext coefficients P_0, P_1, .. at encrypted powers C_1, C_2, .. (Chen, Laine, Rindal,
-- CCS 2017). P_k is factor number k, and C_k is ciphertext number k - 1.
use Rattle.std.specs.Prelude.{ℕ, Bool, true, false, ◌+◌, ◌*◌, ◌%◌, List, [], ◌∷◌, slice_index, if◌then◌else◌}
use Rattle.psi_residue.specs.Sums.{sum_below, table}
use Rattle.psi_residue.specs.Numbers.{ring_degree, first_modulus, second_modulus, scale}
use Rattle.psi_residue.specs.Ring.{product_at}
use Rattle.psi_residue.specs.Ciphertexts.{list_at}

-- Coefficient i of the evaluation in one residue list with the modulus m: the sum of P_k·C_k for k from 1 to the count, and Δ·P_0 where
-- the list is of c0. The lists are those of the ciphertexts.
unfoldable pub evaluated_at : (m : ℕ) → Bool → (count : ℕ) → (factors lists : ℕ → List ℕ) → ℕ → ℕ
evaluated_at m of_c0 count factors lists i =
    (sum_below count (λ k. product_at m ring_degree (factors (k + 1)) (lists k) i)
    + (if of_c0 then scale * slice_index (factors 0) i else 0)) % m

-- the four residue lists of the evaluation
unfoldable pub evaluated : (count : ℕ) → (factors : ℕ → List ℕ) → (ciphertexts : ℕ → List (List ℕ)) → List (List ℕ)
evaluated count factors ciphertexts =
    table ring_degree (evaluated_at first_modulus true count factors (λ k. list_at (ciphertexts k) 0))
    ∷ table ring_degree (evaluated_at second_modulus true count factors (λ k. list_at (ciphertexts k) 1))
    ∷ table ring_degree (evaluated_at first_modulus false count factors (λ k. list_at (ciphertexts k) 2))
    ∷ table ring_degree (evaluated_at second_modulus false count factors (λ k. list_at (ciphertexts k) 3))
    ∷ []
