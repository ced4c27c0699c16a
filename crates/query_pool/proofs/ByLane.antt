-- Facts on a list, from facts on the parts into which its elements' lanes divide it.
use Rattle.std.specs.Prelude.{◌≡◌, ℕ, ◌<◌, Bool, true, false, nat_eq, List, [], ◌∷◌, filter}
use Rattle.std.specs.List.{AllByRecursion, AllPairs}
use Rattle.std.proofs.Common.{refl, subst, arith}
use Rattle.std.proofs.lemmas.Bool.Decides.{nat_tests}
use Rattle.std.proofs.lemmas.List.Elements.{All-from_recursion, recursion_from_All}
use Rattle.std.proofs.lemmas.List.Kept.{AllPairs-cons}
use Rattle.query_pool.proofs.Pairs.{pairs-head, pairs-tail}

module _ {X : Type 0} (lane : X → ℕ) where
  -- the elements of a lane
  abbrev pub part : List X → ℕ → List X
  part xs l = filter (λ x. nat_eq (lane x) l) xs

  pub part-here : (x : X) (xs : List X) → part (x ∷ xs) (lane x) ≡ x ∷ part xs (lane x)
  part-here x xs = let same : nat_eq (lane x) (lane x) ≡ true = grind (arith, nat_tests) in rw same refl

  pub part-else : (x : X) (xs : List X) (l : ℕ) → (lane x ≡ l → ⊥) → part (x ∷ xs) l ≡ part xs l
  part-else x xs l other = by_test (nat_eq (lane x) l) refl where
    by_test : (b : Bool) → nat_eq (lane x) l ≡ b → part (x ∷ xs) l ≡ part xs l
    by_test true test = absurd (other (grind (arith, nat_tests, test)))
    by_test false test = rw test refl

  -- what holds of a part holds of it without its first
  part-rest : (Q : List X → Type 0) → ((x : X) (xs : List X) → Q (x ∷ xs) → Q xs) → (x : X) (xs : List X) (l : ℕ) → Q (part (x ∷ xs) l) → Q (part xs l)
  part-rest Q less x xs l = by_test (nat_eq (lane x) l) refl where
    by_test : (b : Bool) → nat_eq (lane x) l ≡ b → Q (part (x ∷ xs) l) → Q (part xs l)
    by_test true test = rw test (less x (part xs l))
    by_test false test = rw test (λ q. q)

  pub all_by_lane : (P : X → Type 0) (n : ℕ) (xs : List X) → AllByRecursion (λ x. lane x < n) xs → ((l : ℕ) → l < n → AllByRecursion P (part xs l)) → AllByRecursion P xs
  all_by_lane P n [] few each = tt
  all_by_lane P n (x ∷ xs) few each = (
    (subst (AllByRecursion P) (part-here x xs) (each (lane x) few.0)).0,
    all_by_lane P n xs few.1 (λ l lt. part-rest (AllByRecursion P) (λ y ys h. h.1) x xs l (each l lt)),
  )

  -- what holds of a lane's elements holds of each that has the lane
  same-lane : (P : X → Type 0) (l : ℕ) (xs : List X) → AllByRecursion P (part xs l) → AllByRecursion (λ x. l ≡ lane x → P x) xs
  same-lane P l [] = λ h. tt
  same-lane P l (x ∷ xs) = by_test (nat_eq (lane x) l) refl (same-lane P l xs) where
    by_test : (b : Bool) → nat_eq (lane x) l ≡ b → (AllByRecursion P (part xs l) → AllByRecursion (λ y. l ≡ lane y → P y) xs)
        → AllByRecursion P (part (x ∷ xs) l) → (l ≡ lane x → P x) × AllByRecursion (λ y. l ≡ lane y → P y) xs
    by_test true test rest = rw test (λ h. ((λ same. h.0), rest h.1))
    by_test false test rest = rw test (λ h. ((λ same. absurd (grind (arith, nat_tests, test, same))), rest h))

  -- what holds of the pairs of each lane holds of each pair with one lane
  pub pairs_by_lane : (R : X → X → Type 0) (n : ℕ) (xs : List X) → AllByRecursion (λ x. lane x < n) xs → ((l : ℕ) → l < n → AllPairs R (part xs l)) → AllPairs (λ a b. lane a ≡ lane b → R a b) xs
  pairs_by_lane R n [] few each = λ i j d lt le. absurd (omega (arith, le))
  pairs_by_lane R n (x ∷ xs) few each =
      let here : AllPairs R (x ∷ part xs (lane x)) = subst (AllPairs R) (part-here x xs) (each (lane x) few.0) in
      AllPairs-cons (λ a b. lane a ≡ lane b → R a b) x xs
      (All-from_recursion (λ y. lane x ≡ lane y → R x y) xs
      (same-lane (R x) (lane x) xs (recursion_from_All (R x) (part xs (lane x)) (pairs-head R x (part xs (lane x)) here))))
      (pairs_by_lane R n xs few.1 (λ l lt. part-rest (AllPairs R) (pairs-tail R) x xs l (each l lt)))
