use Rattle.std.proofs.Common.{◌≡◌, ◌<◌, ℕ, get_or}
use Rattle.psi_residue.specs.Residues.{composed}
use Rattle.bfv_core.specs.Encryptions.{opened_coefficient}
use Rattle.bfv_core.proofs.decryption.decrypt.Given as goal

abbrev pub invariant-loop-i : goal.invariant-loop-i
invariant-loop-i l = (k : ℕ) → k < l.i → get_or l.out k 0 ≡ opened_coefficient (composed (get_or l.first k 0) (get_or l.second k 0))
