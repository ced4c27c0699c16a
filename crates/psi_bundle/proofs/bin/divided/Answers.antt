use Rattle.std.proofs.Common.{slice_index, List, ℕ, [], ◌∷◌, arith}
use Rattle.psi_bundle.specs.KeptPolynomials.{LosesRoot, polynomial_at}
use Rattle.psi_bundle.proofs.RootChanges.{each_part, at_part}
use Rattle.psi_bundle.proofs.bin.divided.Goals as goal

pub returns : goal.returns
returns c =
    let new : List (List ℕ) = c.in_ok-divided.field-0 ∷ c.in_ok-divided-2.field-0 ∷ c.in_ok-divided-3.field-0 ∷ c.in_ok-divided-4.field-0 ∷ c.in_ok-divided-5.field-0 ∷ [] in
    each_part (λ j. LosesRoot (slice_index c.args.roots j) (polynomial_at c.args.old.now j) (polynomial_at new j))
    (at_part (λ old. LosesRoot (slice_index c.args.roots 0) old c.in_ok-divided.field-0) c.args.old.now 0 c.index-old-0.result (omega arith) c.in_ok-divided.ensures)
    (at_part (λ old. LosesRoot (slice_index c.args.roots 1) old c.in_ok-divided-2.field-0) c.args.old.now 1 c.index-old-1.result (omega arith) c.in_ok-divided-2.ensures)
    (at_part (λ old. LosesRoot (slice_index c.args.roots 2) old c.in_ok-divided-3.field-0) c.args.old.now 2 c.index-old-2.result (omega arith) c.in_ok-divided-3.ensures)
    (at_part (λ old. LosesRoot (slice_index c.args.roots 3) old c.in_ok-divided-4.field-0) c.args.old.now 3 c.index-old-3.result (omega arith) c.in_ok-divided-4.ensures)
    (at_part (λ old. LosesRoot (slice_index c.args.roots 4) old c.in_ok-divided-5.field-0) c.args.old.now 4 c.index-old-4.result (omega arith) c.in_ok-divided-5.ensures)
