-- Sums over a list that is read by `get_elem?`, and what 0 or 1 says of two numbers.
use Rattle.std.proofs.Common.{◌≡◌, ◌≢◌, ℕ, zero, suc, ◌+◌, ◌<◌, ◌≤◌, cond, ltb, List, [], ◌∷◌, ◌++◌, set, sym, refl, ap, arith, eq-eqb, ne_eqb, lt-ltb, ltb-true, lt_of_not-le, Bool, true, false}
use mathlib.Core.Logic.{dite}
use mathlib.Core.Option.{some, some-injective, some-ne-none}
use native.Mathlib.Decide.{dec_le, ℕ_discrete}
use lib.ListN.{get_elem?}
use Rattle.psi_turnstile.specs.Counting.{same, below, times, total}

pub same_yes : (x y : ℕ) → x ≡ y → same x y ≡ 1
unfolding same
same_yes x y e = ap (λ (b : Bool). cond b 1 0) (eq-eqb x y e)

pub same_no : (x y : ℕ) → x ≢ y → same x y ≡ 0
unfolding same
same_no x y e = ap (λ (b : Bool). cond b 1 0) (ne_eqb x y e)

pub below_yes : (x n : ℕ) → x < n → below x n ≡ 1
unfolding below
below_yes x n h = ap (λ (b : Bool). cond b 1 0) (lt-ltb x n h)

pub below_no : (x n : ℕ) → n ≤ x → below x n ≡ 0
unfolding below
below_no x n h = go (ltb x n) refl
  where
    go : (b : Bool) → ltb x n ≡ b → ◌≡◌ {A = ℕ} (cond b 1 0) 0
    go true e = let l = ltb-true x n e in absurd (omega arith)
    go false e = refl

pub below_one : (x n : ℕ) → below x n ≤ 1
below_one x n = dite (dec_le n x) (λ h. let e = below_no x n h in omega arith) (λ h. let e = below_yes x n (lt_of_not-le h) in omega arith)

pub below_some : (x n : ℕ) → 0 < below x n → x < n
below_some x n p = dite (dec_le n x) (λ h. let e = below_no x n h in absurd (omega arith)) (λ h. lt_of_not-le h)

pub below_next : (x n : ℕ) → below x (n + 1) ≡ below x n + same x n
below_next x n = dite (ℕ_discrete x n)
    (λ e. let a = below_yes x (n + 1) (omega arith) in let b = below_no x n (omega arith) in let c = same_yes x n e in omega arith)
    (λ ne. let c = same_no x n ne in dite (dec_le n x)
    (λ h. let a = below_no x (n + 1) (dite (dec_le (n + 1) x) (λ k. k) (λ k. absurd (ne (let l = lt_of_not-le k in omega arith)))) in let b = below_no x n h in omega arith)
    (λ h. let l = lt_of_not-le h in let a = below_yes x (n + 1) (omega arith) in let b = below_yes x n l in omega arith))

pub times_append : (x : ℕ) (ys zs : List ℕ) → times x (ys ++ zs) ≡ times x ys + times x zs
unfolding times
times_append x [] zs = omega arith
times_append x (y ∷ ys) zs = let h = times_append x ys zs in omega arith

pub times_none : (x : ℕ) → times x [] ≡ 0
unfolding times
times_none x = refl

pub times_one : (x y : ℕ) → times x (y ∷ []) ≡ same x y
unfolding times
times_one x y = omega arith

module _ {A : Type 0} where
  pub total_one : (f : A → ℕ) (a : A) → total f (a ∷ []) ≡ f a
  unfolding total
  total_one f a = omega arith

  pub total_set : (f : A → ℕ) (l : List A) (i : ℕ) (a w : A) → get_elem? l i ≡ some a → total f (set l i w) + f a ≡ total f l + f w
  unfolding total
  total_set f [] i a w e = absurd (some-ne-none a (sym e))
  total_set f (x ∷ xs) zero a w e = let h : f x ≡ f a = ap f (some-injective x a e) in omega arith
  total_set f (x ∷ xs) (suc i) a w e = let h = total_set f xs i a w e in omega arith

  pub total_push : (f : A → ℕ) (l : List A) (w : A) → total f (l ++ w ∷ []) ≡ total f l + f w
  unfolding total
  total_push f [] w = omega arith
  total_push f (x ∷ xs) w = let h = total_push f xs w in omega arith

  pub total_at : (f : A → ℕ) (l : List A) (i : ℕ) (a : A) → get_elem? l i ≡ some a → f a ≤ total f l
  unfolding total
  total_at f [] i a e = absurd (some-ne-none a (sym e))
  total_at f (x ∷ xs) zero a e = let h : f x ≡ f a = ap f (some-injective x a e) in omega arith
  total_at f (x ∷ xs) (suc i) a e = let h = total_at f xs i a e in omega arith

  pub total_two : (f : A → ℕ) (l : List A) (i j : ℕ) (a b : A) → j ≢ i → get_elem? l i ≡ some a → get_elem? l j ≡ some b → f a + f b ≤ total f l
  unfolding total
  total_two f [] i j a b n e d = absurd (some-ne-none a (sym e))
  total_two f (x ∷ xs) zero zero a b n e d = absurd (n refl)
  total_two f (x ∷ xs) zero (suc j) a b n e d = let h : f x ≡ f a = ap f (some-injective x a e) in let k = total_at f xs j b d in omega arith
  total_two f (x ∷ xs) (suc i) zero a b n e d = let h : f x ≡ f b = ap f (some-injective x b d) in let k = total_at f xs i a e in omega arith
  total_two f (x ∷ xs) (suc i) (suc j) a b n e d = let h = total_two f xs i j a b (λ q. n (ap suc q)) e d in omega arith

  pub total_none : (f : A → ℕ) (l : List A) → ((j : ℕ) (b : A) → get_elem? l j ≡ some b → f b ≡ 0) → total f l ≡ 0
  unfolding total
  total_none f [] h = refl
  total_none f (x ∷ xs) h = let a = h 0 x refl in let b = total_none f xs (λ j c e. h (suc j) c e) in omega arith

  pub total_only : (f : A → ℕ) (l : List A) (i : ℕ) (a : A) → get_elem? l i ≡ some a → ((j : ℕ) (b : A) → j ≢ i → get_elem? l j ≡ some b → f b ≡ 0) → total f l ≡ f a
  unfolding total
  total_only f [] i a e h = absurd (some-ne-none a (sym e))
  total_only f (x ∷ xs) zero a e h = let p : f x ≡ f a = ap f (some-injective x a e) in let q = total_none f xs (λ j b d. h (suc j) b (λ z. omega arith) d) in omega arith
  total_only f (x ∷ xs) (suc i) a e h = let p = h 0 x (λ z. omega arith) refl in let q = total_only f xs i a e (λ j b n d. h (suc j) b (λ z. n (omega arith)) d) in omega arith

  pub total_le : (f g : A → ℕ) (l : List A) → ((j : ℕ) (b : A) → get_elem? l j ≡ some b → f b ≤ g b) → total f l ≤ total g l
  unfolding total
  total_le f g [] h = omega arith
  total_le f g (x ∷ xs) h = let a = h 0 x refl in let b = total_le f g xs (λ j c e. h (suc j) c e) in omega arith

-- two lists that make one without repeats have nothing in common
pub apart_in : (ys zs : List ℕ) → ((x : ℕ) → times x (ys ++ zs) ≤ 1) → (x : ℕ) → times x ys + times x zs ≤ 1
apart_in ys zs once x = let a = times_append x ys zs in let b = once x in omega arith
