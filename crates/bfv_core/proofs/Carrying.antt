-- An encryption carries its plaintext.
use Rattle.std.proofs.Common.{◌≡◌, ℕ, suc, ◌+◌, ◌-◌, ◌*◌, ◌/◌, ◌%◌, ◌<◌, ◌≤◌, List, ap, sym, ◌∙◌, arith, ℤ, pos, negsuc, unsigned_abs, slice_index}
use Rattle.std.proofs.Math.Nat.{mod-add-mod, add-mod_right, add-mul-mod_self_left, div-add-mod, mod-eq_of_lt}
use Rattle.psi_residue.specs.Numbers.{first_modulus, second_modulus, cipher_modulus, scale}
use Rattle.psi_residue.specs.Ring.{product_at}
use Rattle.psi_residue.specs.Residues.{residue_of, residues_of, composed}
use Rattle.psi_residue.proofs.Sums.{slice_index-table}
use Rattle.psi_residue.proofs.Composition.{same_residues, composed-first, composed-second}
use Rattle.negacyclic.proofs.Products.{product_at-below}
use Rattle.psi_sampler.specs.Sampling.{error_coefficient}
use Rattle.bfv_core.specs.Encryptions.{phase_residue, phase, IsNear, Carries}
use Rattle.bfv_core.specs.EncryptedLists.{hidden, encrypted, key_of_seed, first_mask, second_mask}

-- what is taken away and added again
unmasked : (m e p s : ℕ) → p < m → ((e + (m - p) + s) % m + p) % m ≡ (e + s) % m
unmasked m e p s below =
    let whole : e + (m - p) + s + p ≡ e + s + m = omega arith in
    mod-add-mod (e + (m - p) + s) m p ∙ ap (λ (u : ℕ). u % m) whole ∙ add-mod_right (e + s) m

-- c0 + c1·s, where c0 is hidden under the mask c1, is the error and the scaled plaintext
pub phase_residue-hidden : (m : ℕ) (mask : List ℕ) (key : List ℤ) (error : ℕ → ℤ) (plain : List ℕ) (k : ℕ) → 0 < m → k < 4096
    → phase_residue m key (hidden m mask key error plain) mask k ≡ (residue_of m (error k) + scale * slice_index plain k) % m
unfolding phase_residue hidden
phase_residue-hidden m mask key error plain k positive lt =
    ap (λ (u : ℕ). (u + product_at m 4096 mask (residues_of m key) k) % m)
    (slice_index-table 4096 (λ j. (residue_of m (error j) + (m - product_at m 4096 mask (residues_of m key) j) + scale * slice_index plain j) % m) k lt)
    ∙ unmasked m (residue_of m (error k)) (product_at m 4096 mask (residues_of m key) k) (scale * slice_index plain k) (product_at-below m 4096 mask (residues_of m key) k positive)

-- a number with a residue that is s and an error n more
pub near_more : (m x n s : ℕ) → x % m ≡ (n % m + s) % m → (x + 0) % m ≡ (s + n) % m
near_more m x n s e =
    let left : x + 0 ≡ x = omega arith in
    let right : n + s ≡ s + n = omega arith in
    ap (λ (u : ℕ). u % m) left ∙ e ∙ mod-add-mod n m s ∙ ap (λ (u : ℕ). u % m) right

-- a number with a residue that is s and an error n less
pub near_less : (m x n s : ℕ) → 0 < m → x % m ≡ ((m - n % m) % m + s) % m → (x + n) % m ≡ (s + 0) % m
near_less m x n s positive e =
    let within : n % m < m = omega arith in
    let parts : m * (n / m) + n % m ≡ n = div-add-mod n m in
    let regroup : (m - n % m) % m + s + n ≡ (m - n % m) % m + (s + n) = omega arith in
    let whole : m - n % m + (s + n) ≡ s + 0 + m * (n / m + 1) = omega (arith, parts, within) in
    sym (mod-add-mod x m n)
    ∙ ap (λ (u : ℕ). (u + n) % m) e
    ∙ mod-add-mod ((m - n % m) % m + s) m n
    ∙ ap (λ (u : ℕ). u % m) regroup
    ∙ mod-add-mod (m - n % m) m (s + n)
    ∙ ap (λ (u : ℕ). u % m) whole
    ∙ add-mul-mod_self_left (s + 0) m (n / m + 1)

-- a number whose residues are those of s and a small error is near s
pub near_from : (x bound s : ℕ) (error : ℤ)
    → x % first_modulus ≡ (residue_of first_modulus error + s) % first_modulus → x % second_modulus ≡ (residue_of second_modulus error + s) % second_modulus
    → unsigned_abs error ≤ bound → IsNear cipher_modulus bound x s
near_from x bound s (pos n) first second small = record {
  more = n;
  less = 0;
  small = omega (arith, small);
  near = same_residues (x + 0) (s + n) (near_more first_modulus x n s first) (near_more second_modulus x n s second);
}
near_from x bound s (negsuc n) first second small = record {
  more = 0;
  less = suc n;
  small = omega (arith, small);
  near = same_residues (x + suc n) (s + 0) (near_less first_modulus x (suc n) s (omega arith) first) (near_less second_modulus x (suc n) s (omega arith) second);
}

-- two phases, each the error and the scaled plaintext, compose to a number near the scaled plaintext
pub near_composed : (a b bound s : ℕ) (error : ℤ)
    → a ≡ (residue_of first_modulus error + s) % first_modulus → b ≡ (residue_of second_modulus error + s) % second_modulus
    → unsigned_abs error ≤ bound → IsNear cipher_modulus bound (composed a b) s
near_composed a b bound s error first second small =
    let below_first : a < first_modulus = omega (arith, first) in
    let below_second : b < second_modulus = omega (arith, second) in
    near_from (composed a b) bound s error (composed-first a b ∙ mod-eq_of_lt below_first ∙ first) (composed-second a b ∙ mod-eq_of_lt below_second ∙ second) small

pub carries-encrypted : (seed : List ℕ) (c : ℕ) (plain : List ℕ) → ((k : ℕ) → k < 4096 → unsigned_abs (error_coefficient seed c k) ≤ 21)
    → Carries 21 (key_of_seed seed) (encrypted seed c plain) plain
unfolding phase encrypted
carries-encrypted seed c plain small k lt =
    near_composed _ _ 21 (scale * slice_index plain k) (error_coefficient seed c k)
    (phase_residue-hidden first_modulus (first_mask seed c) (key_of_seed seed) (error_coefficient seed c) plain k (omega arith) lt)
    (phase_residue-hidden second_modulus (second_mask seed c) (key_of_seed seed) (error_coefficient seed c) plain k (omega arith) lt)
    (small k lt)
