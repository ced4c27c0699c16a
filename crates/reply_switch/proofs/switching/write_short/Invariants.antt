use Rattle.std.proofs.Common.{◌≡◌, ◌+◌, ◌*◌, ◌<◌, ℕ, get_or}
use Rattle.psi_residue.specs.Residues.{composed}
use Rattle.psi_residue.specs.ShortCiphertexts.{shortened}
use Rattle.reply_switch.proofs.switching.write_short.Given as goal

abbrev pub invariant-loop-c : goal.invariant-loop-c
invariant-loop-c l = (i : ℕ) → i < 4 * l.c → get_or l.out i 0 ≡ shortened l.drop (composed (get_or l.first i 0) (get_or l.second i 0))

abbrev pub invariant-loop-k : goal.invariant-loop-k
invariant-loop-k l = (i : ℕ) → i < 4 * l.c + l.k → get_or l.out i 0 ≡ shortened l.drop (composed (get_or l.first i 0) (get_or l.second i 0))
