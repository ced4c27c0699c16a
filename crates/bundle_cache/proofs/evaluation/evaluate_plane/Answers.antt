use Rattle.std.proofs.Common.{◌+◌, ◌*◌, arith}
use Rattle.psi_residue.specs.Ciphertexts.{ciphertext_at}
use Rattle.psi_bundle.specs.Planes.{packed_plane}
use Rattle.bundle_cache.proofs.Values.{all-lists}
use Rattle.bundle_cache.proofs.evaluation.evaluate_plane.Goals as goal

pub returns-clause-evaluated : goal.returns-clause-evaluated
returns-clause-evaluated c =
    let p = c.args.cache.now.parameters in
    all-lists p.capacity (packed_plane p c.args.cache.now.bins c.args.plane) (λ k. ciphertext_at c.args.powers.now.query (c.args.row * p.capacity + k)) c.loop-list.out
    (c.loop-list.invariant.whole (omega arith)).four (λ k lt. c.loop-list.invariant.done k (omega arith))
