-- A list that has each number of a range once, and no other, is that range in another order.
use Rattle.std.specs.Prelude.{◌≡◌, ℕ, zero, suc, ◌+◌, ◌<◌, List, [], ◌∷◌, ◌++◌}
use Rattle.std.specs.List.{range_with_len}
use Rattle.std.specs.List.Sorted.{IsPermutation}
use Rattle.std.proofs.Common.{refl, sym, ap, ◌∙◌, subst, arith}
use mathlib.Core.Logic.{dite}
use native.Mathlib.Decide.{ℕ_discrete}
use Rattle.std.proofs.lemmas.List.Sorted.{IsPermutation-cons, IsPermutation-middle, IsPermutation-refl, IsPermutation-trans}
use Rattle.psi_turnstile.specs.Counting.{below, same, times}
use Rattle.psi_turnstile.proofs.Sums.{below_next, below_no, below_yes, same_no, same_yes, times_append}

pub times-cons : (x y : ℕ) (ys : List ℕ) → times x (y ∷ ys) ≡ same x y + times x ys
unfolding times
times-cons x y ys = refl

-- what stands before and behind a number of the list
record Splits (x : ℕ) (xs : List ℕ) : Type 0 where
  front : List ℕ
  back : List ℕ
  is : xs ≡ front ++ x ∷ back

split-at : (x : ℕ) (xs : List ℕ) → 0 < times x xs → Splits x xs
unfolding times
split-at x [] some = absurd (omega (arith, some))
split-at x (y ∷ ys) some = dite (ℕ_discrete x y)
    (λ e. record { front = []; back = ys; is = ap (λ (k : ℕ). k ∷ ys) (sym e) })
    (λ ne. let none = same_no x y ne in
    let rest = split-at x ys (omega (arith, some, none)) in
    record { front = y ∷ rest.front; back = rest.back; is = ap (λ (zs : List ℕ). y ∷ zs) rest.is })

none-there : (xs : List ℕ) → ((x : ℕ) → times x xs ≡ 0) → xs ≡ []
unfolding times
none-there [] h = refl
none-there (y ∷ ys) h = let one = same_yes y y refl in let none = h y in absurd (omega (arith, one, none))

-- without the first number of the range
count-less : (x low n : ℕ) (xs front back : List ℕ) → xs ≡ front ++ low ∷ back → times x xs + below x low ≡ below x (low + suc n) → times x (front ++ back) + below x (low + 1) ≡ below x (low + 1 + n)
count-less x low n xs front back is counts =
    let all : times x xs ≡ times x front + times x (low ∷ back) = ap (times x) is ∙ times_append x front (low ∷ back) in
    let here = times-cons x low back in
    let rest = times_append x front back in
    let next = below_next x low in
    let end : below x (low + suc n) ≡ below x (low + 1 + n) = ap (below x) (omega arith) in
    omega (arith, all, here, rest, next, end, counts)

pub counted_once : (n low : ℕ) (xs : List ℕ) → ((x : ℕ) → times x xs + below x low ≡ below x (low + n)) → IsPermutation xs (range_with_len low n)
counted_once zero low xs counts =
    let none : xs ≡ [] = none-there xs (λ x. let same_end : below x (low + 0) ≡ below x low = ap (below x) (omega arith) in let c = counts x in omega (arith, c, same_end)) in
    subst (λ (ys : List ℕ). IsPermutation ys []) (sym none) (IsPermutation-refl [])
counted_once (suc n) low xs counts =
    let c = counts low in
    let no = below_no low low (omega arith) in
    let yes = below_yes low (low + suc n) (omega arith) in
    let split = split-at low xs (omega (arith, c, no, yes)) in
    let others = split.front ++ split.back in
    let rest = counted_once n (low + 1) others (λ x. count-less x low n xs split.front split.back split.is (counts x)) in
    subst (λ (ys : List ℕ). IsPermutation ys (low ∷ range_with_len (low + 1) n)) (sym split.is)
    (IsPermutation-trans (split.front ++ low ∷ split.back) (low ∷ others) (low ∷ range_with_len (low + 1) n) (IsPermutation-middle split.front low split.back)
    (IsPermutation-cons low others (range_with_len (low + 1) n) rest))
