use Rattle.std.proofs.Common.{◌<◌, ◌+◌, ◌*◌, ◌%◌, ℕ, sym, subst}
use Rattle.std.proofs.Math.Nat.{mod-lt}
use Rattle.psi_residue.specs.Numbers.{modulus_of}
use Rattle.psi_residue.proofs.Polynomials.{IsPolynomial-constant, IsPolynomial-set}
use Rattle.psi_residue.proofs.Moduli.{modulus-positive}
use Rattle.negacyclic.proofs.tests.line.Goals as goal

pub loop-i-init : goal.loop-i-init
loop-i-init c = IsPolynomial-constant (modulus_of c.args.m) 0 (modulus-positive c.args.m)

pub loop-i-preserved : goal.loop-i-preserved
loop-i-preserved c =
    let below = mod-lt (c.args.start + c.args.step * c.loop-i.i) (modulus-positive c.args.m) in
    IsPolynomial-set (modulus_of c.args.m) c.loop-i.polynomial c.loop-i.i _ c.loop-i.invariant (subst (λ (u : ℕ). (c.args.start + c.args.step * c.loop-i.i) % u < modulus_of c.args.m) (sym c.value-modulus.ensures) below)
