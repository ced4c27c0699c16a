use Rattle.std.proofs.Common.{[]}
use Rattle.psi_residue.specs.Ciphertexts.{IsCiphertext, list_at, list_modulus}
use Rattle.bfv_core.specs.EncryptedLists.{added, scaled}
use Rattle.psi_residue.proofs.Filling.{IsFilled}
use Rattle.bfv_core.proofs.accumulator.Accumulator.add_plain.Given as goal

abbrev pub invariant-loop-list : goal.invariant-loop-list
invariant-loop-list l = record {
  whole : IsCiphertext l.self-inside.sum;
  filled : IsFilled [] (λ k. added (list_modulus k) (list_at l.fn.self k) (scaled (list_modulus k) l.p)) (list_at l.fn.self) l.self-inside.sum l.list;
}
