use Rattle.std.proofs.Common.{◌+◌, ◌*◌, ◌%◌, get_or}
use Rattle.negacyclic.proofs.Filled.{IsFilled}
use Rattle.negacyclic.proofs.inverse_passes.scale.Given as goal

abbrev pub invariant-loop-c : goal.invariant-loop-c
invariant-loop-c l = IsFilled (λ i. (get_or l.fn.a i 0 * l.factor.number) % l.q) l.fn.a l.a (4 * l.c)

abbrev pub invariant-loop-k : goal.invariant-loop-k
invariant-loop-k l = IsFilled (λ i. (get_or l.fn.a i 0 * l.factor.number) % l.q) l.fn.a l.a (4 * l.c + l.k)
