use Rattle.std.proofs.Common.{List, ℕ, subst, sym}
use Rattle.psi_residue.specs.ShortCiphertexts.{IsShortList}
use Rattle.reply_switch.proofs.Restoring.{shortened_list-short}
use Rattle.reply_switch.proofs.switching.switch.Goals as goal

pub returns-clause-c0_short : goal.returns-clause-c0_short
returns-clause-c0_short c =
    subst (λ (xs : List ℕ). IsShortList c.args.drop xs) (sym c.write_short.ensures) (shortened_list-short c.args.drop c.residues.result.now c.residues-2.result.now)

pub returns-clause-c1_short : goal.returns-clause-c1_short
returns-clause-c1_short c =
    subst (λ (xs : List ℕ). IsShortList c.args.drop xs) (sym c.write_short-2.ensures) (shortened_list-short c.args.drop c.residues-3.result.now c.residues-4.result.now)
