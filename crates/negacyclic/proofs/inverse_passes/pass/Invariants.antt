use Rattle.std.proofs.Common.{◌*◌}
use Rattle.negacyclic.specs.Butterflies.{AreReplaced, numbers_of}
use Rattle.negacyclic.proofs.inverse_passes.pass.Given as goal

abbrev pub invariant-loop-j : goal.invariant-loop-j
invariant-loop-j l = AreReplaced l.q (16 * l.g * l.q) l.l (4 * l.g) (numbers_of l.factors) l.from l.to (l.j * (4 * l.g))
