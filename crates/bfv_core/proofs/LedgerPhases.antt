-- What c0 + c1·s of an evaluation is, modulo one number.
use Rattle.std.proofs.Common.{◌≡◌, ℕ, ◌+◌, ◌%◌, ◌<◌, ◌≤◌, refl, ap, ◌∙◌, sym, arith}
use Rattle.psi_residue.specs.Sums.{sum_below}
use Rattle.psi_residue.proofs.Sums.{sum_below-same, sum_below-add}
use Rattle.psi_residue.proofs.Congruences.{sum_congruent, sum_below-mod}
use Rattle.negacyclic.proofs.Ring.{ring, ring-sum, ring-assoc, ring-plus, ring-mod}

-- The sum of p_k·u_k and f, and the sum of p_k·v_k times s, are the sum of p_k·x_k and f, where x_k is u_k + v_k·s.
pub phase-sum : (top m c count : ℕ) (p u v x : ℕ → ℕ → ℕ) (s f a b : ℕ → ℕ)
    → ((i : ℕ) → i ≤ top → a i % m ≡ (sum_below count (λ k. ring top c (p k) (u k) i) + f i) % m)
    → ((i : ℕ) → i ≤ top → b i % m ≡ sum_below count (λ k. ring top c (p k) (v k) i) % m)
    → ((k : ℕ) → k < count → (i : ℕ) → i ≤ top → x k i % m ≡ (u k i + ring top c (v k) s i) % m)
    → (i : ℕ) → i ≤ top → (a i + ring top c b s i) % m ≡ (sum_below count (λ k. ring top c (p k) (x k) i) + f i) % m
phase-sum top m c count p u v x s f a b ha hb hx i le =
    sum_congruent m (a i) (sum_below count (λ k. ring top c (p k) (u k) i) + f i) (ring top c b s i) (sum_below count (λ k. ring top c (p k) (λ l. ring top c (v k) s l) i)) (ha i le) second
    ∙ ap (λ (w : ℕ). w % m) regroup
    ∙ sum_congruent m (sum_below count (λ k. ring top c (p k) (λ l. u k l + ring top c (v k) s l) i)) (sum_below count (λ k. ring top c (p k) (x k) i)) (f i) (f i) third refl
  where
    second : ring top c b s i % m ≡ sum_below count (λ k. ring top c (p k) (λ l. ring top c (v k) s l) i) % m
    second =
        ring-mod m top c c b (λ l. sum_below count (λ k. ring top c (p k) (v k) l)) s s refl hb (λ l lel. refl) i le
        ∙ ap (λ (w : ℕ). w % m)
        (ring-sum top c count (λ k l. ring top c (p k) (v k) l) s i
        ∙ sum_below-same count (λ k. ring top c (λ l. ring top c (p k) (v k) l) s i) (λ k. ring top c (p k) (λ l. ring top c (v k) s l) i)
        (λ k lt. ring-assoc top c (p k) (v k) s i le))

    regroup : sum_below count (λ k. ring top c (p k) (u k) i) + f i + sum_below count (λ k. ring top c (p k) (λ l. ring top c (v k) s l) i)
        ≡ sum_below count (λ k. ring top c (p k) (λ l. u k l + ring top c (v k) s l) i) + f i
    regroup =
        let sum = sum_below-add count (λ k. ring top c (p k) (u k) i) (λ k. ring top c (p k) (λ l. ring top c (v k) s l) i) in
        let same = sum_below-same count (λ k. ring top c (p k) (λ l. u k l + ring top c (v k) s l) i)
        (λ k. ring top c (p k) (u k) i + ring top c (p k) (λ l. ring top c (v k) s l) i)
        (λ k lt. ring-plus top c (p k) (u k) (λ l. ring top c (v k) s l) i) in
        omega (arith, sum, same)

    third : sum_below count (λ k. ring top c (p k) (λ l. u k l + ring top c (v k) s l) i) % m ≡ sum_below count (λ k. ring top c (p k) (x k) i) % m
    third =
        sum_below-mod m count (λ k. ring top c (p k) (λ l. u k l + ring top c (v k) s l) i) (λ k. ring top c (p k) (x k) i)
        (λ k lt. ring-mod m top c c (p k) (p k) (λ l. u k l + ring top c (v k) s l) (x k) refl (λ l lel. refl) (λ l lel. sym (hx k lt l lel)) i le)
