use Rattle.std.proofs.Common.{[]}
use Rattle.psi_residue.specs.Ciphertexts.{IsCiphertext, list_at}
use Rattle.bfv_core.specs.EncryptedLists.{list_with_product}
use Rattle.psi_residue.proofs.Filling.{IsFilled}
use Rattle.bfv_core.proofs.accumulator.Accumulator.add_product.Given as goal

abbrev pub invariant-loop-list : goal.invariant-loop-list
invariant-loop-list l = record {
  whole : IsCiphertext l.self-inside.sum;
  filled : IsFilled [] (list_with_product l.fn.self l.p l.ct) (list_at l.fn.self) l.self-inside.sum l.list;
}
