use Rattle.std.proofs.Common.{arith, subst, sym}
use Rattle.psi_residue.specs.Numbers.{plain_modulus}
use Rattle.psi_residue.specs.Polynomials.{IsPolynomial}
use Rattle.bfv_core.proofs.Opening.{opening_from, opening-polynomial}
use Rattle.bfv_core.proofs.decryption.decrypt.Goals as goal

pub returns-clause-opening : goal.returns-clause-opening
returns-clause-opening c =
    opening_from c.args.key.now c.args.ct.now c.residues.result.now c.residues-3.result.now c.residues-2.result.now c.residues-4.result.now c.write_phase.new.out c.write_phase-2.new.out c.loop-i.out
    c.residues.ensures.residues c.residues-3.ensures.residues c.residues-2.ensures.residues c.residues-4.ensures.residues
    c.write_phase.ensures.phase c.write_phase-2.ensures.phase (omega arith) (λ k lt. c.loop-i.invariant k (omega arith))

pub returns-clause-plaintext : goal.returns-clause-plaintext
returns-clause-plaintext c = subst (IsPolynomial plain_modulus) (sym (returns-clause-opening c)) (opening-polynomial c.args.key.now c.args.ct.now)
