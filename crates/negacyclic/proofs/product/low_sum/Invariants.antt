use Rattle.std.proofs.Common.{◌≡◌, ◌*◌, ◌≤◌}
use Rattle.negacyclic.proofs.Convolutions.{first_terms}
use Rattle.negacyclic.proofs.product.low_sum.Given as goal

abbrev pub invariant-loop-i : goal.invariant-loop-i
invariant-loop-i l = record {
  terms : l.sum ≡ first_terms l.a l.b l.k l.i;
  bound : l.sum ≤ l.i * 4722366482869645213696;
}
