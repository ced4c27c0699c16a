use Rattle.std.proofs.Common.{arith}
use Rattle.noise_ledger.specs.Verdicts.{parameters_of}
use Rattle.bundle_cache.proofs.Writing.{filled-all}
use Rattle.bundle_cache.proofs.columns.columns_of_plane.Goals as goal

pub returns : goal.returns
returns c = filled-all (parameters_of c.args.params.now) c.args.bundle.now c.args.plane c.loop-slot.slot c.loop-slot.columns.items (omega arith) c.loop-slot.invariant (omega (arith, c.loop-slot.auto.slot-end))
