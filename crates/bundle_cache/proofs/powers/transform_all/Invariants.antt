use Rattle.bundle_cache.proofs.Cells.{AreTransforms}
use Rattle.bundle_cache.proofs.powers.transform_all.Given as goal

abbrev pub invariant-loop-c : goal.invariant-loop-c
invariant-loop-c l = AreTransforms l.fn.ciphertexts l.ciphertexts l.c
