use Rattle.std.proofs.Common.{arith, ◌^◌, ◌%◌}
use Rattle.std.specs.Int.RustNames.{count_ones}
use Rattle.std.proofs.lemmas.Int.{ints}
use Rattle.std.proofs.lemmas.Nat.{ones-le}
use Rattle.psi_sampler.specs.Sampling.{low_ones}
use Rattle.psi_sampler.proofs.Drawn.{low_ones-few}
use Rattle.psi_sampler.proofs.draws.low_ones.Goals as goal

pub returns-clause-value : goal.returns-clause-value
unfolding low_ones count_ones
returns-clause-value c =
    let few = ones-le 21 (c.args.word % 2 ^ 21) (omega arith) in
    omega (arith, ints)

pub returns-clause-small : goal.returns-clause-small
returns-clause-small c = low_ones-few c.args.word
