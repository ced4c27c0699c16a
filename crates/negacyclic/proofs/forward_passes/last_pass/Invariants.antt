use Rattle.std.proofs.Common.{◌+◌, ◌*◌}
use Rattle.negacyclic.specs.Butterflies.{ArePlaced, numbers_of}
use Rattle.negacyclic.proofs.forward_passes.last_pass.Given as goal

abbrev pub invariant-loop-c : goal.invariant-loop-c
invariant-loop-c l = ArePlaced l.q l.q 1024 1 (numbers_of l.factors) l.from l.to (4 * l.c)

abbrev pub invariant-loop-k : goal.invariant-loop-k
invariant-loop-k l = ArePlaced l.q l.q 1024 1 (numbers_of l.factors) l.from l.to (4 * l.c + l.k)
