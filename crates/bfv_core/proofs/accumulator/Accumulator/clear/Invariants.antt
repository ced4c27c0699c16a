use Rattle.std.proofs.Common.{replicate, []}
use Rattle.psi_residue.specs.Ciphertexts.{IsCiphertext, list_at}
use Rattle.psi_residue.proofs.Filling.{IsFilled}
use Rattle.bfv_core.proofs.accumulator.Accumulator.clear.Given as goal

abbrev pub invariant-loop-list : goal.invariant-loop-list
invariant-loop-list l = record {
  whole : IsCiphertext l.self-inside.sum;
  filled : IsFilled [] (λ k. replicate 4096 0) (list_at l.fn.self) l.self-inside.sum l.list;
}
