-- The first number of a range that passes a test.
use Rattle.std.proofs.Common.{◌≡◌, ℕ, zero, suc, ◌+◌, ◌<◌, ◌≤◌, Bool, true, false, None, Some, refl, ap, sym, ◌∙◌, arith}
use Rattle.std.specs.List.{find, range_with_len}

-- none passes
pub find-none : (test : ℕ → Bool) (a n : ℕ) → ((i : ℕ) → a ≤ i → i < a + n → test i ≡ false) → find test (range_with_len a n) ≡ None
find-none test a zero h = refl
find-none test a (suc n) h =
    let here : test a ≡ false = h a (omega arith) (omega arith) in
    rw here (find-none test (a + 1) n (λ i low high. h i (omega arith) (omega arith)))

-- the first that passes
pub find-first : (test : ℕ → Bool) (a n i : ℕ) → i < n → ((k : ℕ) → a ≤ k → k < a + i → test k ≡ false) → test (a + i) ≡ true → find test (range_with_len a n) ≡ Some (a + i)
find-first test a zero i lt before here = absurd (omega arith)
find-first test a (suc n) zero lt before here =
    let e : a + 0 ≡ a = omega arith in
    let at_a : test a ≡ true = ap test (sym e) ∙ here in
    rw at_a (ap (λ (k : ℕ). Some k) (sym e))
find-first test a (suc n) (suc i) lt before here =
    let not_here : test a ≡ false = before a (omega arith) (omega arith) in
    let e : a + suc i ≡ a + 1 + i = omega arith in
    let later : find test (range_with_len (a + 1) n) ≡ Some (a + 1 + i) =
    find-first test (a + 1) n i (omega arith) (λ k low high. before k (omega arith) (omega arith)) (ap test (sym e) ∙ here) in
    rw not_here (later ∙ ap (λ (k : ℕ). Some k) (sym e))
