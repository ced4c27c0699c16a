use Rattle.std.proofs.Common.{◌≤◌, ◌<◌, ◌+◌, ◌*◌, ◌/◌, ◌%◌, ◌^◌, ℕ, arith}
use Rattle.std.proofs.Math.Pow.{pow_mono}
use Rattle.noise_ledger.proofs.ledger.rounding.Goals as goal

small : (dropped : ℕ) → dropped ≤ 1048576 → 4097 * (1 + 2 * (1 * dropped % 340282366920938463463374607431768211456 / 2)) < 17179869184
small dropped le = omega (arith, le)

pub returns-clause-below : goal.returns-clause-below
returns-clause-below c = small (2 ^ c.args.drop) (pow_mono c.requires)
