-- Beginnings of lists.
use Rattle.std.proofs.Common.{◌≤◌, List, [], ◌++◌, length, sym, ap, ◌∙◌, arith, append_assoc, length-append}
use Rattle.std.proofs.lemmas.List.{append-nil}
use Rattle.psi_turnstile.specs.Counting.{IsPrefix}

module _ {A : Type 0} where
  pub prefix-self : (xs : List A) → IsPrefix xs xs
  prefix-self xs = ([], sym (append-nil xs))

  pub prefix-then : (xs ys zs : List A) → IsPrefix xs ys → IsPrefix ys zs → IsPrefix xs zs
  prefix-then xs ys zs p q = (p.0 ++ q.0, q.1 ∙ ap (λ (l : List A). l ++ q.0) p.1 ∙ append_assoc xs p.0 q.0)

  pub prefix-length : (xs ys : List A) → IsPrefix xs ys → length xs ≤ length ys
  prefix-length xs ys p = let all = ap length p.1 in omega (arith, all, length-append xs p.0)
