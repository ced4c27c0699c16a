use Rattle.std.proofs.Common.{List, ℕ, ◌%◌, ◌∙◌, ap, subst, sym, arith}
use Rattle.psi_residue.specs.Numbers.{modulus_of, scale}
use Rattle.psi_residue.specs.Polynomials.{IsPolynomial}
use Rattle.psi_residue.proofs.Polynomials.{IsPolynomial-constant}
use Rattle.psi_residue.proofs.Moduli.{modulus-positive}
use Rattle.negacyclic.proofs.Bounds.{IsPolynomial_wider}
use Rattle.bfv_core.proofs.Scaling.{with_scales, plain-below}
use Rattle.bfv_core.proofs.polynomials.add_scaled_to.Goals as goal

pub returns-clause-sum : goal.returns-clause-sum
returns-clause-sum c =
    c.mul_acc.ensures.sums ∙ with_scales (modulus_of c.args.m) _ c.args.out.now c.write_wide.new.out c.args.plain.now (ap (λ (u : ℕ). scale % u) c.value.ensures) c.write_wide.ensures

pub mul_acc-requires-clause-first : goal.mul_acc-requires-clause-first
mul_acc-requires-clause-first c =
    let positive = modulus-positive c.args.m in
    IsPolynomial-constant (modulus_of c.args.m) _ (omega (arith, c.value.ensures, positive))

pub mul_acc-requires-clause-second : goal.mul_acc-requires-clause-second
mul_acc-requires-clause-second c =
    subst (λ (xs : List ℕ). IsPolynomial (modulus_of c.args.m) xs) (sym c.write_wide.ensures) (IsPolynomial_wider 65537 (modulus_of c.args.m) c.args.plain.now (plain-below c.args.m) c.requires.plaintext)
