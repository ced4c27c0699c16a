-- The lists that an encryption writes.
use Rattle.std.proofs.Common.{◌≡◌, ℕ, ◌+◌, ◌-◌, ◌*◌, ◌%◌, ◌<◌, ◌≤◌, List, [], ◌∷◌, ◌++◌, length, get_or, take, drop, ap, sym, subst, ◌∙◌, arith, ℤ, pos, unsigned_abs}
use Rattle.std.specs.List.{All}
use Rattle.std.proofs.Math.Seq.{take-append_seam}
use Rattle.std.proofs.lemmas.List.FromFn.{fill_by_all}
use Rattle.psi_residue.specs.Numbers.{first_modulus, second_modulus, scale}
use Rattle.psi_residue.specs.Polynomials.{IsPolynomial}
use Rattle.psi_residue.specs.Ring.{product_at}
use Rattle.psi_residue.specs.Residues.{residue_of, residues_of}
use Rattle.psi_residue.proofs.Sums.{same_as_table, table-same}
use Rattle.psi_sampler.specs.Sampling.{key_coefficient, first_mask_residue, second_mask_residue, error_coefficient}
use Rattle.bfv_core.specs.Encryptions.{Carries}
use Rattle.bfv_core.specs.EncryptedLists.{key_of_seed, hidden, encrypted, first_mask, second_mask}
use Rattle.bfv_core.proofs.Carrying.{carries-encrypted}

-- a slice of a vector that was written as a whole
pub whole-written : {X : Type 0} (new old : List X) (len : ℕ) → length new ≡ len → take len (new ++ drop (length new) old) ≡ new
whole-written new old len e = ap (λ (n : ℕ). take n (new ++ drop (length new) old)) (sym e) ∙ take-append_seam new (drop (length new) old)

-- and then it is a polynomial, where its values are residues
pub written-polynomial : (m : ℕ) (new old : List ℕ) (len : ℕ) → length new ≡ len → len ≡ 4096 → All (λ x. x < m) new → IsPolynomial m (take len (new ++ drop (length new) old))
written-polynomial m new old len e size below =
    subst (IsPolynomial m) (sym (whole-written new old len e)) (record { size = omega (arith, e, size); below = λ i lt. below i 0 (omega (arith, e, size)) })

pub key_from : (seed : List ℕ) (xs : List ℤ) → length xs ≡ 4096 → ((k : ℕ) → k < 4096 → get_or xs k (pos 0) ≡ key_coefficient seed k) → xs ≡ key_of_seed seed
unfolding key_of_seed
key_from seed xs len each = fill_by_all (key_coefficient seed) xs 4096 (pos 0) len each

pub first_mask_from : (seed : List ℕ) (c : ℕ) (xs : List ℕ) → length xs ≡ 4096 → ((k : ℕ) → k < 4096 → get_or xs k 0 ≡ first_mask_residue seed c k) → xs ≡ first_mask seed c
unfolding first_mask
first_mask_from seed c xs len each = same_as_table 4096 (first_mask_residue seed c) xs len each

pub second_mask_from : (seed : List ℕ) (c : ℕ) (xs : List ℕ) → length xs ≡ 4096 → ((k : ℕ) → k < 4096 → get_or xs k 0 ≡ second_mask_residue seed c k) → xs ≡ second_mask seed c
unfolding second_mask
second_mask_from seed c xs len each = same_as_table 4096 (second_mask_residue seed c) xs len each

-- the same mask and key, and errors that are the same at each place
pub hidden-same : (m : ℕ) (mask mask' : List ℕ) (key key' : List ℤ) (error error' : ℕ → ℤ) (plain : List ℕ)
    → mask ≡ mask' → key ≡ key' → ((k : ℕ) → k < 4096 → error k ≡ error' k) → hidden m mask key error plain ≡ hidden m mask' key' error' plain
unfolding hidden
hidden-same m mask mask' key key' error error' plain same_mask same_key same =
    table-same 4096 _ _
    (λ k lt. λ i. (residue_of m (same k lt i) + (m - product_at m 4096 (same_mask i) (residues_of m (same_key i)) k) + scale * get_or plain k 0) % m)

-- the four lists
pub encrypted_from : (seed : List ℕ) (c : ℕ) (plain : List ℕ) (h1 h2 m1 m2 : List ℕ)
    → h1 ≡ hidden first_modulus (first_mask seed c) (key_of_seed seed) (error_coefficient seed c) plain
    → h2 ≡ hidden second_modulus (second_mask seed c) (key_of_seed seed) (error_coefficient seed c) plain
    → m1 ≡ first_mask seed c → m2 ≡ second_mask seed c → h1 ∷ h2 ∷ m1 ∷ m2 ∷ [] ≡ encrypted seed c plain
unfolding encrypted
encrypted_from seed c plain h1 h2 m1 m2 eh1 eh2 em1 em2 = λ i. eh1 i ∷ eh2 i ∷ em1 i ∷ em2 i ∷ []

-- small errors
pub error-small : (seed : List ℕ) (c : ℕ) (errors : List ℤ) → length errors ≡ 4096 → ((k : ℕ) → k < 4096 → get_or errors k (pos 0) ≡ error_coefficient seed c k)
    → All (λ x. unsigned_abs x ≤ 21) errors → (k : ℕ) → k < 4096 → unsigned_abs (error_coefficient seed c k) ≤ 21
error-small seed c errors len each small k lt = subst (λ (x : ℤ). unsigned_abs x ≤ 21) (each k lt) (small k (pos 0) (omega (arith, len)))

pub carries_from : (seed : List ℕ) (c : ℕ) (plain : List ℕ) (key : List ℤ) (ct : List (List ℕ)) → key ≡ key_of_seed seed → ct ≡ encrypted seed c plain
    → ((k : ℕ) → k < 4096 → unsigned_abs (error_coefficient seed c k) ≤ 21) → Carries 21 key ct plain
carries_from seed c plain key ct same_key same_ct small =
    subst (λ (s : List ℤ). Carries 21 s ct plain) (sym same_key) (subst (λ (x : List (List ℕ)). Carries 21 (key_of_seed seed) x plain) (sym same_ct) (carries-encrypted seed c plain small))
