-- Facts on each pair of a list's elements, the earlier one first.
use Rattle.std.specs.Prelude.{suc, List, ◌∷◌}
use Rattle.std.specs.List.{All, AllPairs}
use Rattle.std.proofs.Common.{arith}

module _ {X : Type 0} (R : X → X → Type 0) where
  pub pairs-head : (x : X) (xs : List X) → AllPairs R (x ∷ xs) → All (R x) xs
  pairs-head x xs pairs k d lt = pairs 0 (suc k) d (omega arith) (omega (arith, lt))

  pub pairs-tail : (x : X) (xs : List X) → AllPairs R (x ∷ xs) → AllPairs R xs
  pairs-tail x xs pairs i j d lt le = pairs (suc i) (suc j) d (omega (arith, lt)) (omega (arith, le))
