-- The residue lists of encryptions from a seed, and of sums of ciphertexts (Fan and Vercauteren 2012, with a secret key).
use Rattle.std.specs.Prelude.{ℕ, ◌+◌, ◌-◌, ◌*◌, ◌%◌, List, [], ◌∷◌, map, replicate, slice_index, ℤ}
use Rattle.std.specs.List.{range_with_len}
use Rattle.psi_residue.specs.Sums.{table}
use Rattle.psi_residue.specs.Numbers.{ring_degree, first_modulus, second_modulus, scale}
use Rattle.psi_residue.specs.Ring.{product_at, product}
use Rattle.psi_residue.specs.Residues.{residue_of, residues_of}
use Rattle.psi_sampler.specs.Sampling.{key_coefficient, first_mask_residue, second_mask_residue, error_coefficient}
use Rattle.psi_residue.specs.Ciphertexts.{list_at, list_modulus}

-- the key of a seed
unfoldable pub key_of_seed : List ℕ → List ℤ
key_of_seed seed = map (key_coefficient seed) (range_with_len 0 ring_degree)

-- the sum of two polynomials modulo m
unfoldable pub added : (m : ℕ) → (a b : List ℕ) → List ℕ
added m a b = table ring_degree (λ k. (slice_index a k + slice_index b k) % m)

-- a plaintext times the scale, modulo m
unfoldable pub scaled : (m : ℕ) → (plain : List ℕ) → List ℕ
scaled m plain = table ring_degree (λ k. scale * slice_index plain k % m)

-- of a mask a, a key s and an error e: e - a·s + Δ·plain, modulo m
unfoldable pub hidden : (m : ℕ) → (mask : List ℕ) → (key : List ℤ) → (error : ℕ → ℤ) → (plain : List ℕ) → List ℕ
hidden m mask key error plain =
    table ring_degree (λ k. (residue_of m (error k) + (m - product_at m ring_degree mask (residues_of m key) k) + scale * slice_index plain k) % m)

-- the mask of ciphertext number c, modulo the first and the second modulus
unfoldable pub first_mask : (seed : List ℕ) → (c : ℕ) → List ℕ
first_mask seed c = table ring_degree (first_mask_residue seed c)

unfoldable pub second_mask : (seed : List ℕ) → (c : ℕ) → List ℕ
second_mask seed c = table ring_degree (second_mask_residue seed c)

-- ciphertext number c of a seed, which carries the plaintext: c1 is the mask, and c0 hides the plaintext under it
unfoldable pub encrypted : (seed : List ℕ) → (c : ℕ) → (plain : List ℕ) → List (List ℕ)
encrypted seed c plain =
    hidden first_modulus (first_mask seed c) (key_of_seed seed) (error_coefficient seed c) plain
    ∷ hidden second_modulus (second_mask seed c) (key_of_seed seed) (error_coefficient seed c) plain
    ∷ first_mask seed c
    ∷ second_mask seed c
    ∷ []

-- the ciphertext whose residues are all 0: the sum of nothing
unfoldable pub zero_lists : List (List ℕ)
zero_lists = replicate 4 (replicate ring_degree 0)

-- residue list number l of the ciphertext, and with it that of the plaintext p times the ciphertext ct
unfoldable pub list_with_product : (sum : List (List ℕ)) → (p : List ℕ) → (ct : List (List ℕ)) → (l : ℕ) → List ℕ
list_with_product sum p ct l = added (list_modulus l) (list_at sum l) (product (list_modulus l) ring_degree p (list_at ct l))

-- a ciphertext plus the plaintext p times the ciphertext ct
unfoldable pub with_product : (sum : List (List ℕ)) → (p : List ℕ) → (ct : List (List ℕ)) → List (List ℕ)
with_product sum p ct = map (list_with_product sum p ct) (range_with_len 0 4)

-- a ciphertext plus Δ·p: c1 stays
unfoldable pub with_plain : (sum : List (List ℕ)) → (p : List ℕ) → List (List ℕ)
with_plain sum p =
    added first_modulus (list_at sum 0) (scaled first_modulus p)
    ∷ added second_modulus (list_at sum 1) (scaled second_modulus p)
    ∷ list_at sum 2
    ∷ list_at sum 3
    ∷ []
