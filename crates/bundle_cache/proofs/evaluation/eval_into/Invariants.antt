use Rattle.std.proofs.Common.{◌≡◌, ◌<◌, ℕ, [], length, get_or}
use Rattle.psi_bundle.specs.Bodies.{evaluated_plane}
use Rattle.bundle_cache.proofs.evaluation.eval_into.Given as goal

abbrev pub invariant-loop-plane : goal.invariant-loop-plane
invariant-loop-plane l = record {
  scratch : l.scratch ≡ l.fn.scratch;
  size : length l.out ≡ length l.fn.out;
  done : (k : ℕ) → k < l.plane → get_or l.out k [] ≡ evaluated_plane l.cache.parameters l.powers.query l.row l.cache.bins k;
}
