use Rattle.std.proofs.Common.{◌≡◌, ◌∙◌, ap, replicate}
use Rattle.psi_residue.specs.Numbers.{modulus_of}
use Rattle.psi_residue.proofs.Moduli.{modulus-positive}
use Rattle.psi_residue.proofs.Polynomials.{IsPolynomial-constant}
use Rattle.negacyclic.specs.Transforms.{values_of, polynomial_of, with_products}
use Rattle.negacyclic.proofs.TransformLaws.{product_by_values, zeros-any}
use Rattle.bfv_core.proofs.products.times_values.Goals as goal

pub mul_acc-requires-clause-sum : goal.mul_acc-requires-clause-sum
mul_acc-requires-clause-sum c = IsPolynomial-constant (modulus_of c.args.m) 0 (modulus-positive c.args.m)

pub returns-clause-product : goal.returns-clause-product
returns-clause-product c = λ b polynomial same.
    let copied : c.copy_from_slice.new.self ≡ c.args.a.now = cc in
    let written : c.copy_from_slice-2.new.self ≡ c.inverse.new.a = cc in
    written
    ∙ c.inverse.ensures.polynomial
    ∙ ap (polynomial_of c.args.m) (c.mul_acc.ensures.sums ∙ (λ i. with_products (modulus_of c.args.m) (replicate 4096 0) ((c.forward.ensures.values ∙ ap (values_of c.args.m) copied) i) (same i)))
    ∙ product_by_values c.args.m c.args.a.now b (replicate 4096 0) c.requires.first polynomial (zeros-any 4096)
