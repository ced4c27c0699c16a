use Rattle.std.proofs.Common.{◌+◌, ◌*◌, ◌%◌, get_or}
use Rattle.psi_residue.specs.Numbers.{modulus_of}
use Rattle.negacyclic.proofs.Filled.{IsFilled}
use Rattle.negacyclic.proofs.transforms.mul_acc.Given as goal

abbrev pub invariant-loop-c : goal.invariant-loop-c
invariant-loop-c l = IsFilled (λ i. (get_or l.fn.acc i 0 + get_or l.a i 0 * get_or l.b i 0) % modulus_of l.m) l.fn.acc l.acc (4 * l.c)

abbrev pub invariant-loop-k : goal.invariant-loop-k
invariant-loop-k l = IsFilled (λ i. (get_or l.fn.acc i 0 + get_or l.a i 0 * get_or l.b i 0) % modulus_of l.m) l.fn.acc l.acc (4 * l.c + l.k)
