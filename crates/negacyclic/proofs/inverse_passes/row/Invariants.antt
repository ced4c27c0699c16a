use Rattle.std.proofs.Common.{◌+◌, ◌*◌}
use Rattle.negacyclic.specs.Butterflies.{AreReplaced, numbers_of}
use Rattle.negacyclic.proofs.inverse_passes.row.Given as goal

abbrev pub invariant-loop-c : goal.invariant-loop-c
invariant-loop-c l = AreReplaced l.q (16 * l.g * l.q) l.l (4 * l.g) (numbers_of l.factors) l.from l.to (l.j * (4 * l.g) + 4 * l.c)

abbrev pub invariant-loop-k : goal.invariant-loop-k
invariant-loop-k l = AreReplaced l.q (16 * l.g * l.q) l.l (4 * l.g) (numbers_of l.factors) l.from l.to (l.j * (4 * l.g) + (4 * l.c + l.k))
