use Rattle.std.proofs.Common.{◌≡◌, ◌<◌, ℕ, length}
use Rattle.psi_residue.specs.Ciphertexts.{IsCiphertext, list_at}
use Rattle.psi_bundle.specs.Bodies.{evaluated_plane}
use Rattle.bundle_cache.proofs.evaluation.evaluate_plane.Given as goal

abbrev pub invariant-loop-list : goal.invariant-loop-list
invariant-loop-list l = record {
  size : length l.sum ≡ 4096;
  whole : 0 < l.list → IsCiphertext l.out;
  done : (k : ℕ) → k < l.list → list_at l.out k ≡ list_at (evaluated_plane l.cache.parameters l.powers.query l.row l.cache.bins l.plane) k;
}
