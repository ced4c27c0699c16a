-- Small facts of the calls.
use Rattle.std.proofs.Common.{◌≡◌, ℕ, ◌+◌, ◌*◌, ◌≤◌, Bool, cond, List, [], ◌∷◌, ◌++◌, length, count_by, Result, refl, sym, ap, ◌∙◌, subst, arith, append_assoc, length-append}
use Rattle.std.specs.List.{range_with_len}
use Rattle.std.specs.Result.{IfErr, IsErrAnd}
use Rattle.std.proofs.lemmas.List.{length-take}
use Rattle.std.proofs.lemmas.List.FromFn.{length-map-range_with_len, map-range_with_len_more}
use Rattle.std.proofs.lemmas.List.Sums.{sum_by-append, sum_by-cons}
use Rattle.std.proofs.lemmas.Result.{err_from_is_err_and}
use Rattle.sha2.specs.Sha256.{sha256}
use Rattle.noise_ledger.specs.Ledgers.{carry_of, noise_of, used_of}
use Rattle.noise_ledger.specs.Verdicts.{ArePassed}
use Rattle.psi_receiver.proofs.Steps.{range-more}
use Rattle.psi_demo.specs.declared.fault.SumFault.{SumFault}
use Rattle.psi_demo.specs.Items.{asked_tags, demo_parameters, demo_item, item_tag, demo_label, run}

-- the parameters pass
pub demo-passed : ArePassed demo_parameters
unfolding used_of noise_of carry_of
demo-passed = record {
  ranges = record { first_form = refl; some_rows = omega arith; few_rows = omega arith; some_members = omega arith; few_members = omega arith; few_units = omega arith; none_dropped = refl; none_spare = refl };
  few_ciphertexts = omega arith;
  few_cells = omega arith;
  little_noise = omega arith;
}

-- one more of a run
pub pushed : {A : Type 0} (old loop new : List A) (f : ℕ → A) (first step k : ℕ) → loop ≡ old ++ run f first step k → new ≡ loop ++ f (first + step * k) ∷ [] → new ≡ old ++ run f first step (k + 1)
pushed {A} old loop new f first step k was more =
    more
    ∙ ap (λ (xs : List A). xs ++ f (first + step * k) ∷ []) was
    ∙ append_assoc old (run f first step k) (f (first + step * k) ∷ [])
    ∙ ap (λ (xs : List A). old ++ xs) (sym (map-range_with_len_more (λ (j : ℕ). f (first + step * j)) 0 k k (omega arith)))

pub length-asked : (number : ℕ) → length (asked_tags number) ≡ 60
unfolding asked_tags
length-asked number =
    let stable = run (item_tag number) 0 8 38 in
    let others = run (item_tag number) 100000 1 22 in
    omega (
      arith,
      length-append stable others,
      length-map-range_with_len (λ (k : ℕ). item_tag number (0 + 8 * k)) 0 38,
      length-map-range_with_len (λ (k : ℕ). item_tag number (100000 + 1 * k)) 0 22,
    )

pub length-item : (number i : ℕ) → length (demo_item number i) ≡ 12
unfolding demo_item
length-item number i = refl

pub length-label : (number i : ℕ) → length (demo_label number i) ≤ 10
unfolding demo_label
length-label number i = omega (arith, length-take 10 (sha256 (demo_item number i ++ 76 ∷ [])))

-- one more that is counted, or is not
pub counted-more : (p : ℕ → Bool) (k count next : ℕ) (b : Bool) → b ≡ p k → count ≡ count_by p (range_with_len 0 k) → next ≡ count + cond b 1 0 → next ≡ count_by p (range_with_len 0 (k + 1))
counted-more p k count next b is was more =
    let one : ℕ → ℕ = λ j. cond (p j) 1 0 in
    let place : 0 + k ≡ k = omega arith in
    let whole : count_by p (range_with_len 0 (k + 1)) ≡ count_by p (range_with_len 0 k) + count_by p ((0 + k) ∷ []) = ap (count_by p) (range-more 0 k) ∙ sum_by-append one (range_with_len 0 k) ((0 + k) ∷ []) in
    let last : count_by p ((0 + k) ∷ []) ≡ cond b 1 0 + 0 = sum_by-cons one (0 + k) [] ∙ ap (λ (j : ℕ). cond (p j) 1 0 + 0) place ∙ ap (λ (c : Bool). cond c 1 0 + 0) (sym is) in
    omega (arith, whole, last, was, more)

-- an answer that hands an error on
pub handed : {A : Type 0} (r : Result A SumFault) (s : SumFault) (P : SumFault → Type 0) → IsErrAnd r (λ t. t ≡ s) → P s → IfErr r P
handed r s P is h = let e = err_from_is_err_and r is in rw e.1 (subst P (sym e.2) h)
