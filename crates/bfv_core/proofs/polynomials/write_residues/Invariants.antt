use Rattle.std.proofs.Common.{◌≡◌, ◌<◌, ℕ, pos, get_or}
use Rattle.psi_residue.specs.Numbers.{modulus_of}
use Rattle.psi_residue.specs.Residues.{residue_of}
use Rattle.bfv_core.proofs.polynomials.write_residues.Given as goal

abbrev pub invariant-loop-i : goal.invariant-loop-i
invariant-loop-i l = (k : ℕ) → k < l.i → get_or l.out k 0 ≡ residue_of (modulus_of l.m) (get_or l.xs k (pos 0))
