use Rattle.psi_residue.specs.Numbers.{modulus_of}
use Rattle.psi_residue.proofs.Polynomials.{IsPolynomial-constant, IsPolynomial-set}
use Rattle.psi_residue.proofs.Moduli.{modulus-positive}
use Rattle.negacyclic.proofs.tests.monomial.Goals as goal

pub returns : goal.returns
returns c = IsPolynomial-set (modulus_of c.args.m) _ c.args.place c.args.coefficient (IsPolynomial-constant (modulus_of c.args.m) 0 (modulus-positive c.args.m)) c.requires.below
