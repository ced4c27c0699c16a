-- Facts on each element of a list, by recursion on the list.
use Rattle.std.specs.Prelude.{List, [], ◌∷◌, ◌++◌}
use Rattle.std.specs.List.{AllByRecursion}

module _ {X : Type 0} where
  pub each-weaker : (P Q : X → Type 0) → ((x : X) → P x → Q x) → (xs : List X) → AllByRecursion P xs → AllByRecursion Q xs
  each-weaker P Q f [] h = tt
  each-weaker P Q f (x ∷ xs) h = (f x h.0, each-weaker P Q f xs h.1)

  pub each-both : (P Q : X → Type 0) (xs : List X) → AllByRecursion P xs → AllByRecursion Q xs → AllByRecursion (λ x. P x × Q x) xs
  each-both P Q [] h g = tt
  each-both P Q (x ∷ xs) h g = ((h.0, g.0), each-both P Q xs h.1 g.1)

  pub each-append : (P : X → Type 0) (xs ys : List X) → AllByRecursion P xs → AllByRecursion P ys → AllByRecursion P (xs ++ ys)
  each-append P [] ys h g = g
  each-append P (x ∷ xs) ys h g = (h.0, each-append P xs ys h.1 g)

  -- nothing is to be shown under a premise that does not hold
  pub each-vacuous : {A : Type 0} (P : X → Type 0) (xs : List X) → (A → ⊥) → AllByRecursion (λ x. A → P x) xs
  each-vacuous P [] never = tt
  each-vacuous P (x ∷ xs) never = ((λ a. absurd (never a)), each-vacuous P xs never)
