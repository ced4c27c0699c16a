use Rattle.std.proofs.Common.{◌+◌, ◌*◌, ◌≤◌, arith}
use Rattle.std.proofs.lemmas.Nat.{mul-le}
use Rattle.query_codec.proofs.ReplyBodies.{few_bundles}
use Rattle.psi_receiver.proofs.opening.planes.Goals as goal

pub bundles_before-requires-clause-few : goal.bundles_before-requires-clause-few
bundles_before-requires-clause-few c = omega (arith, few_bundles c.args.counts.now (λ i. (c.type_inv.counts i).fits), c.requires.rows)

pub overflow_mul-result : goal.overflow_mul-result
overflow_mul-result c =
    let few = few_bundles c.args.counts.now (λ i. (c.type_inv.counts i).fits) in
    let most : c.bundles_before.result ≤ 262140 = omega (arith, few, c.requires.rows, c.bundles_before.ensures.fewer) in
    let product : (1 + c.from.result) * c.bundles_before.result ≤ 5 * 262140 = mul-le (1 + c.from.result) c.bundles_before.result 5 262140 (omega (arith, c.from.ensures, c.requires.units)) most in
    record { fits = omega (arith, product) }
