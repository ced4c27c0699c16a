use Rattle.std.proofs.Common.{◌≡◌, ◌+◌, ◌*◌, nat_lt}
use Rattle.psi_residue.specs.Ciphertexts.{ciphertext_at, list_at}
use Rattle.psi_residue.specs.Evaluations.{evaluated_at}
use Rattle.psi_residue.specs.Numbers.{modulus_of}
use Rattle.psi_residue.specs.Sums.{table}
use Rattle.negacyclic.specs.Transforms.{values_of}
use Rattle.psi_bundle.specs.Planes.{packed_plane}
use Rattle.bundle_cache.specs.Queries.{modulus_of_list}
use Rattle.bundle_cache.proofs.evaluation.evaluate_list.Given as goal

-- the sum has the values of the evaluation at so many powers
abbrev pub invariant-loop-k : goal.invariant-loop-k
invariant-loop-k l =
    l.sum
    ≡ values_of (modulus_of_list l.list)
    (table 4096
    (evaluated_at (modulus_of (modulus_of_list l.list)) (nat_lt l.list 2) l.k (packed_plane l.cache.parameters l.cache.bins l.plane) (λ k. list_at (ciphertext_at l.powers.query (l.row * l.cache.parameters.capacity + k)) l.list)))
