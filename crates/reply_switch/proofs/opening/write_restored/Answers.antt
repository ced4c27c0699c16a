use Rattle.std.proofs.Common.{◌%◌, get_or, arith}
use Rattle.psi_residue.specs.Numbers.{first_modulus}
use Rattle.psi_residue.specs.ShortCiphertexts.{restored}
use Rattle.psi_residue.proofs.Sums.{same_as_table}
use Rattle.reply_switch.proofs.opening.write_restored.Goals as goal

pub returns-clause-residues : goal.returns-clause-residues
returns-clause-residues c =
    same_as_table 4096 (λ k. restored c.args.drop (get_or c.args.z.now k 0) % first_modulus) c.loop-i.out (omega arith)
    (λ k lt. c.loop-i.invariant k (omega (arith, c.requires.short.size)))
