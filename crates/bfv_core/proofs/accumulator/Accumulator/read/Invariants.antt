use Rattle.std.proofs.Common.{◌≡◌, ◌<◌, ℕ}
use Rattle.psi_residue.specs.Ciphertexts.{IsCiphertext, list_at}
use Rattle.bfv_core.proofs.accumulator.Accumulator.read.Given as goal

abbrev pub invariant-loop-list : goal.invariant-loop-list
invariant-loop-list l = record {
  whole : 0 < l.list → IsCiphertext l.out;
  done : (k : ℕ) → k < l.list → list_at l.out k ≡ list_at l.self k;
}
