-- What c0 + c1·s of an evaluation is, modulo each residue modulus and modulo the ciphertext modulus.
use Rattle.std.proofs.Common.{◌≡◌, ℕ, suc, Bool, true, false, ◌+◌, ◌*◌, ◌%◌, ◌<◌, ◌≤◌, List, length, get_or, refl, ap, ◌∙◌, arith}
use Rattle.std.specs.Prelude.{ℤ}
use Rattle.std.proofs.lemmas.List.{length-map}
use Rattle.std.proofs.Math.Nat.{mod-mod}
use Rattle.psi_residue.specs.Sums.{sum_below, table}
use Rattle.psi_residue.specs.Numbers.{first_modulus, second_modulus, cipher_modulus, scale}
use Rattle.psi_residue.specs.Ring.{product_at}
use Rattle.psi_residue.specs.Residues.{residue_of, residues_of}
use Rattle.psi_residue.proofs.Polynomials.{IsPolynomial-table}
use Rattle.psi_residue.proofs.Sums.{length-table, slice_index-table}
use Rattle.psi_residue.proofs.Congruences.{sum_congruent, sum_below-mod}
use Rattle.negacyclic.proofs.Ring.{ring}
use Rattle.negacyclic.proofs.Products.{product-ring}
use Rattle.psi_residue.proofs.Composition.{composed-first, composed-second, composed-is}
use Rattle.psi_residue.specs.Ciphertexts.{list_at, IsCiphertext}
use Rattle.bfv_core.specs.Encryptions.{phase_residue, phase}
use Rattle.psi_residue.specs.Evaluations.{evaluated_at, evaluated}
use Rattle.bfv_core.proofs.LedgerPhases.{phase-sum}

-- -1 modulo the ciphertext modulus, and so modulo both residue moduli
pub minus_one : ℕ
minus_one = 4722344527977019809792

pub minus_one-first : (minus_one + 1) % first_modulus ≡ 0
unfolding minus_one
minus_one-first = refl

pub minus_one-second : (minus_one + 1) % second_modulus ≡ 0
unfolding minus_one
minus_one-second = refl

pub minus_one-both : (minus_one + 1) % cipher_modulus ≡ 0
unfolding minus_one
minus_one-both = refl

-- the coefficients of a list
abbrev pub coefficient : List ℕ → ℕ → ℕ
coefficient xs i = get_or xs i 0

-- c0 of an evaluation
evaluated-c0 : (m c count : ℕ) (factors lists : ℕ → List ℕ) → 0 < m → (c + 1) % m ≡ 0
    → ((k : ℕ) → k < count → length (factors (k + 1)) ≡ suc 4095) → ((k : ℕ) → k < count → length (lists k) ≡ suc 4095) → (i : ℕ) → i ≤ 4095
    → evaluated_at m true count factors lists i % m
    ≡ (sum_below count (λ k. ring 4095 c (coefficient (factors (k + 1))) (coefficient (lists k)) i) + scale * coefficient (factors 0) i) % m
unfolding evaluated_at
evaluated-c0 m c count factors lists positive e lf ll i le =
    mod-mod (sum_below count (λ k. product_at m 4096 (factors (k + 1)) (lists k) i) + scale * coefficient (factors 0) i) m
    ∙ sum_congruent m (sum_below count (λ k. product_at m 4096 (factors (k + 1)) (lists k) i))
    (sum_below count (λ k. ring 4095 c (coefficient (factors (k + 1))) (coefficient (lists k)) i))
    (scale * coefficient (factors 0) i) (scale * coefficient (factors 0) i)
    (sum_below-mod m count (λ k. product_at m 4096 (factors (k + 1)) (lists k) i) (λ k. ring 4095 c (coefficient (factors (k + 1))) (coefficient (lists k)) i)
    (λ k lt. product-ring m c 4095 (factors (k + 1)) (lists k) positive e (lf k lt) (ll k lt) i le))
    refl

-- c1 of an evaluation
evaluated-c1 : (m c count : ℕ) (factors lists : ℕ → List ℕ) → 0 < m → (c + 1) % m ≡ 0
    → ((k : ℕ) → k < count → length (factors (k + 1)) ≡ suc 4095) → ((k : ℕ) → k < count → length (lists k) ≡ suc 4095) → (i : ℕ) → i ≤ 4095
    → evaluated_at m false count factors lists i % m ≡ sum_below count (λ k. ring 4095 c (coefficient (factors (k + 1))) (coefficient (lists k)) i) % m
unfolding evaluated_at
evaluated-c1 m c count factors lists positive e lf ll i le =
    mod-mod (sum_below count (λ k. product_at m 4096 (factors (k + 1)) (lists k) i) + 0) m
    ∙ ap (λ (u : ℕ). u % m) (plus_none (sum_below count (λ k. product_at m 4096 (factors (k + 1)) (lists k) i)))
    ∙ sum_below-mod m count (λ k. product_at m 4096 (factors (k + 1)) (lists k) i) (λ k. ring 4095 c (coefficient (factors (k + 1))) (coefficient (lists k)) i)
    (λ k lt. product-ring m c 4095 (factors (k + 1)) (lists k) positive e (lf k lt) (ll k lt) i le)
  where
    plus_none : (x : ℕ) → x + 0 ≡ x
    plus_none x = omega arith

-- c0 + c1·s modulo m
pub phase_residue-ring : (m c : ℕ) (key : List ℤ) (c0 c1 : List ℕ) → 0 < m → (c + 1) % m ≡ 0 → length key ≡ suc 4095 → length c1 ≡ suc 4095
    → (i : ℕ) → i ≤ 4095 → phase_residue m key c0 c1 i % m ≡ (coefficient c0 i + ring 4095 c (coefficient c1) (coefficient (residues_of m key)) i) % m
unfolding phase_residue
phase_residue-ring m c key c0 c1 positive e lk lc i le =
    mod-mod (coefficient c0 i + product_at m 4096 c1 (residues_of m key) i) m
    ∙ sum_congruent m (coefficient c0 i) (coefficient c0 i) (product_at m 4096 c1 (residues_of m key) i) (ring 4095 c (coefficient c1) (coefficient (residues_of m key)) i)
    refl (product-ring m c 4095 c1 (residues_of m key) positive e lc (length-map key (residue_of m) ∙ lk) i le)

-- The residues of an evaluation's phase, from those of its ciphertexts' phases x.
evaluated-residue : (m c count : ℕ) (key : List ℤ) (factors first second : ℕ → List ℕ) (x : ℕ → ℕ → ℕ)
    → 0 < m → (c + 1) % m ≡ 0 → length key ≡ suc 4095
    → ((k : ℕ) → k < count → length (factors (k + 1)) ≡ suc 4095)
    → ((k : ℕ) → k < count → length (first k) ≡ suc 4095) → ((k : ℕ) → k < count → length (second k) ≡ suc 4095)
    → ((k : ℕ) → k < count → (i : ℕ) → i ≤ 4095 → x k i % m ≡ (coefficient (first k) i + ring 4095 c (coefficient (second k)) (coefficient (residues_of m key)) i) % m)
    → (i : ℕ) → i ≤ 4095
    → phase_residue m key (table 4096 (evaluated_at m true count factors first)) (table 4096 (evaluated_at m false count factors second)) i % m
    ≡ (sum_below count (λ k. ring 4095 c (coefficient (factors (k + 1))) (x k) i) + scale * coefficient (factors 0) i) % m
evaluated-residue m c count key factors first second x positive e lk lf l0 l1 hx i le =
    phase_residue-ring m c key (table 4096 (evaluated_at m true count factors first)) (table 4096 (evaluated_at m false count factors second)) positive e lk
    (length-table 4096 (evaluated_at m false count factors second)) i le
    ∙ phase-sum 4095 m c count (λ k. coefficient (factors (k + 1))) (λ k. coefficient (first k)) (λ k. coefficient (second k)) x
    (coefficient (residues_of m key)) (λ l. scale * coefficient (factors 0) l)
    (coefficient (table 4096 (evaluated_at m true count factors first))) (coefficient (table 4096 (evaluated_at m false count factors second)))
    (λ l lel. ap (λ (u : ℕ). u % m) (slice_index-table 4096 (evaluated_at m true count factors first) l (omega arith))
    ∙ evaluated-c0 m c count factors first positive e lf l0 l lel)
    (λ l lel. ap (λ (u : ℕ). u % m) (slice_index-table 4096 (evaluated_at m false count factors second) l (omega arith))
    ∙ evaluated-c1 m c count factors second positive e lf l1 l lel)
    hx i le

phase-first : (key : List ℤ) (ct : List (List ℕ)) → length key ≡ suc 4095 → IsCiphertext ct → (i : ℕ) → i ≤ 4095
    → phase key ct i % first_modulus
    ≡ (coefficient (list_at ct 0) i + ring 4095 minus_one (coefficient (list_at ct 2)) (coefficient (residues_of first_modulus key)) i) % first_modulus
unfolding phase
phase-first key ct lk h i le =
    composed-first (phase_residue first_modulus key (list_at ct 0) (list_at ct 2) i) (phase_residue second_modulus key (list_at ct 1) (list_at ct 3) i)
    ∙ phase_residue-ring first_modulus minus_one key (list_at ct 0) (list_at ct 2) (omega arith) minus_one-first lk h.c1_first.size i le

phase-second : (key : List ℤ) (ct : List (List ℕ)) → length key ≡ suc 4095 → IsCiphertext ct → (i : ℕ) → i ≤ 4095
    → phase key ct i % second_modulus
    ≡ (coefficient (list_at ct 1) i + ring 4095 minus_one (coefficient (list_at ct 3)) (coefficient (residues_of second_modulus key)) i) % second_modulus
unfolding phase
phase-second key ct lk h i le =
    composed-second (phase_residue first_modulus key (list_at ct 0) (list_at ct 2) i) (phase_residue second_modulus key (list_at ct 1) (list_at ct 3) i)
    ∙ phase_residue-ring second_modulus minus_one key (list_at ct 1) (list_at ct 3) (omega arith) minus_one-second lk h.c1_second.size i le

-- The phase of an evaluation is the sum of the products of the factors and the ciphertexts' phases, and Δ·P_0.
pub evaluated-phase : (count : ℕ) (key : List ℤ) (factors : ℕ → List ℕ) (ciphertexts : ℕ → List (List ℕ)) → length key ≡ suc 4095
    → ((k : ℕ) → k < count → length (factors (k + 1)) ≡ suc 4095) → ((k : ℕ) → k < count → IsCiphertext (ciphertexts k)) → (i : ℕ) → i ≤ 4095
    → phase key (evaluated count factors ciphertexts) i % cipher_modulus
    ≡ (sum_below count (λ k. ring 4095 minus_one (coefficient (factors (k + 1))) (phase key (ciphertexts k)) i) + scale * coefficient (factors 0) i) % cipher_modulus
unfolding phase evaluated
evaluated-phase count key factors ciphertexts lk lf h i le =
    composed-is
    (phase_residue first_modulus key (table 4096 (evaluated_at first_modulus true count factors (λ k. list_at (ciphertexts k) 0)))
    (table 4096 (evaluated_at first_modulus false count factors (λ k. list_at (ciphertexts k) 2))) i)
    (phase_residue second_modulus key (table 4096 (evaluated_at second_modulus true count factors (λ k. list_at (ciphertexts k) 1)))
    (table 4096 (evaluated_at second_modulus false count factors (λ k. list_at (ciphertexts k) 3))) i)
    (sum_below count (λ k. ring 4095 minus_one (coefficient (factors (k + 1))) (phase key (ciphertexts k)) i) + scale * coefficient (factors 0) i)
    (evaluated-residue first_modulus minus_one count key factors (λ k. list_at (ciphertexts k) 0) (λ k. list_at (ciphertexts k) 2) (λ k. phase key (ciphertexts k))
    (omega arith) minus_one-first lk lf (λ k lt. (h k lt).c0_first.size) (λ k lt. (h k lt).c1_first.size)
    (λ k lt l lel. phase-first key (ciphertexts k) lk (h k lt) l lel) i le)
    (evaluated-residue second_modulus minus_one count key factors (λ k. list_at (ciphertexts k) 1) (λ k. list_at (ciphertexts k) 3) (λ k. phase key (ciphertexts k))
    (omega arith) minus_one-second lk lf (λ k lt. (h k lt).c0_second.size) (λ k lt. (h k lt).c1_second.size)
    (λ k lt l lel. phase-second key (ciphertexts k) lk (h k lt) l lel) i le)

at-below : (m : ℕ) (of_c0 : Bool) (count : ℕ) (factors lists : ℕ → List ℕ) (i : ℕ) → 0 < m → evaluated_at m of_c0 count factors lists i < m
unfolding evaluated_at
at-below m of_c0 count factors lists i positive = omega arith

-- an evaluation is a ciphertext
pub evaluated-ciphertext : (count : ℕ) (factors : ℕ → List ℕ) (cts : ℕ → List (List ℕ)) → IsCiphertext (evaluated count factors cts)
unfolding evaluated
evaluated-ciphertext count factors cts = record {
  four = refl;
  c0_first = IsPolynomial-table first_modulus _ (λ i lt. at-below first_modulus true count factors (λ k. list_at (cts k) 0) i (omega arith));
  c0_second = IsPolynomial-table second_modulus _ (λ i lt. at-below second_modulus true count factors (λ k. list_at (cts k) 1) i (omega arith));
  c1_first = IsPolynomial-table first_modulus _ (λ i lt. at-below first_modulus false count factors (λ k. list_at (cts k) 2) i (omega arith));
  c1_second = IsPolynomial-table second_modulus _ (λ i lt. at-below second_modulus false count factors (λ k. list_at (cts k) 3) i (omega arith));
}
