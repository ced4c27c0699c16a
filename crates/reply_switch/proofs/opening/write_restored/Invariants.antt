use Rattle.std.proofs.Common.{◌≡◌, ◌%◌, ◌<◌, ℕ, get_or}
use Rattle.psi_residue.specs.Numbers.{first_modulus}
use Rattle.psi_residue.specs.ShortCiphertexts.{restored}
use Rattle.reply_switch.proofs.opening.write_restored.Given as goal

abbrev pub invariant-loop-i : goal.invariant-loop-i
invariant-loop-i l = (k : ℕ) → k < l.i → get_or l.out k 0 ≡ restored l.drop (get_or l.z k 0) % first_modulus
