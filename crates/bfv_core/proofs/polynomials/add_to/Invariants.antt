use Rattle.std.proofs.Common.{◌+◌, ◌%◌, get_or}
use Rattle.psi_residue.specs.Numbers.{modulus_of}
use Rattle.psi_residue.proofs.Filling.{IsFilled}
use Rattle.bfv_core.proofs.polynomials.add_to.Given as goal

abbrev pub invariant-loop-i : goal.invariant-loop-i
invariant-loop-i l = IsFilled 0 (λ k. (get_or l.a k 0 + get_or l.fn.out k 0) % modulus_of l.fn.m) (λ k. get_or l.fn.out k 0) l.out l.i
