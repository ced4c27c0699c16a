use Rattle.std.proofs.Common.{◌≡◌, ◌+◌, ◌%◌, ◌<◌, ℕ, get_or}
use Rattle.psi_residue.specs.Numbers.{first_modulus}
use Rattle.psi_residue.specs.ShortCiphertexts.{restored}
use Rattle.bfv_core.specs.ShortOpenings.{opened_short}
use Rattle.reply_switch.proofs.opening.open_short.Given as goal

abbrev pub invariant-loop-i : goal.invariant-loop-i
invariant-loop-i l = (k : ℕ) → k < l.i → get_or l.out k 0 ≡ opened_short ((restored l.drop (get_or l.z0 k 0) % first_modulus + get_or l.product k 0) % first_modulus)
