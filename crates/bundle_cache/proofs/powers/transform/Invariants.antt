use Rattle.std.proofs.Common.{◌<◌}
use Rattle.psi_residue.specs.Ciphertexts.{IsCiphertext}
use Rattle.bundle_cache.proofs.Cells.{AreTransformed}
use Rattle.bundle_cache.proofs.powers.transform.Given as goal

abbrev pub invariant-loop-list : goal.invariant-loop-list
invariant-loop-list l = record {
  whole : 0 < l.list → IsCiphertext l.ct;
  lists : AreTransformed l.fn.ct l.ct l.list;
}
