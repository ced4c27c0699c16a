use Rattle.std.proofs.Common.{◌∙◌, ap, replicate}
use Rattle.psi_residue.specs.Numbers.{modulus_of}
use Rattle.psi_residue.proofs.Polynomials.{IsPolynomial-constant}
use Rattle.negacyclic.specs.Transforms.{polynomial_of, with_products}
use Rattle.psi_residue.proofs.Moduli.{modulus-positive}
use Rattle.negacyclic.proofs.TransformLaws.{product_by_values, zeros-any}
use Rattle.negacyclic.proofs.tests.product_by_values.Goals as goal

pub mul_acc-requires-clause-sum : goal.mul_acc-requires-clause-sum
mul_acc-requires-clause-sum c = IsPolynomial-constant (modulus_of c.args.m) 0 (modulus-positive c.args.m)

pub returns : goal.returns
returns c =
    c.inverse.ensures.polynomial
    ∙ ap (polynomial_of c.args.m) (c.mul_acc.ensures.sums ∙ (λ i. with_products (modulus_of c.args.m) (replicate 4096 0) (c.forward.ensures.values i) (c.forward-2.ensures.values i)))
    ∙ product_by_values c.args.m c.args.a.now c.args.b.now (replicate 4096 0) c.requires.first c.requires.second (zeros-any 4096)
