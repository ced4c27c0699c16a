use Rattle.std.proofs.Common.{◌≡◌, ◌≤◌, count_by}
use Rattle.std.specs.List.{list_any, range_with_len}
use Rattle.psi_demo.specs.Summaries.{is_own}
use Rattle.psi_demo.proofs.stable.count_stable.Given as goal

abbrev pub invariant-loop-k : goal.invariant-loop-k
invariant-loop-k l = record {
  counted : l.count ≡ count_by (λ k. list_any (is_own l.number k) l.found) (range_with_len 0 l.k);
  few : l.count ≤ l.k;
}
