-- Facts on each pair of a list's elements, the earlier one first.
use Rattle.std.specs.Prelude.{suc, List, [], ◌∷◌, ◌++◌, map}
use Rattle.std.specs.List.{All, AllPairs}
use Rattle.std.proofs.Common.{arith}
use Rattle.std.proofs.lemmas.List.Elements.{All-append, All-head, All-map, All-tail, All-weaker}
use Rattle.std.proofs.lemmas.List.Kept.{AllPairs-cons}

module _ {X : Type 0} (R : X → X → Type 0) where
  pub pairs-head : (x : X) (xs : List X) → AllPairs R (x ∷ xs) → All (R x) xs
  pairs-head x xs pairs k d lt = pairs 0 (suc k) d (omega arith) (omega (arith, lt))

  pub pairs-tail : (x : X) (xs : List X) → AllPairs R (x ∷ xs) → AllPairs R xs
  pairs-tail x xs pairs i j d lt le = pairs (suc i) (suc j) d (omega (arith, lt)) (omega (arith, le))

  pub pairs-map : {Y : Type 0} (f : Y → X) (ys : List Y) → AllPairs (λ a b. R (f a) (f b)) ys → AllPairs R (map f ys)
  pairs-map f [] pairs = λ i j d lt le. absurd (omega (arith, le))
  pairs-map f (y ∷ ys) pairs = AllPairs-cons R (f y) (map f ys) (All-map (R (f y)) f ys (λ k d lt. pairs 0 (suc k) d (omega arith) (omega (arith, lt))))
      (pairs-map f ys (λ i j d lt le. pairs (suc i) (suc j) d (omega (arith, lt)) (omega (arith, le))))

  -- two lists, whose elements meet so
  pub pairs-append : (P Q : X → Type 0) → ((x y : X) → P x → Q y → R x y) → (xs ys : List X) → AllPairs R xs → AllPairs R ys → All P xs → All Q ys → AllPairs R (xs ++ ys)
  pairs-append P Q meet [] ys pairs more first later = more
  pairs-append P Q meet (x ∷ xs) ys pairs more first later =
      AllPairs-cons R x (xs ++ ys)
      (All-append (R x) xs ys (pairs-head x xs pairs) (All-weaker Q (R x) (λ y q. meet x y (All-head P x xs first) q) ys later))
      (pairs-append P Q meet xs ys (pairs-tail x xs pairs) more (All-tail P x xs first) later)
