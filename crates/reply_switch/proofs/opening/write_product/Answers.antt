use Rattle.std.proofs.Common.{List, ℕ, subst, sym, ap, ◌∙◌, arith}
use Rattle.psi_residue.specs.declared.numbers.Modulus.TheVariants as moduli
use Rattle.psi_residue.specs.Numbers.{first_modulus}
use Rattle.psi_residue.specs.Polynomials.{IsPolynomial}
use Rattle.psi_residue.specs.Residues.{residues_of}
use Rattle.psi_residue.proofs.Polynomials.{IsPolynomial-constant}
use Rattle.negacyclic.specs.Transforms.{values_of}
use Rattle.negacyclic.proofs.TransformLaws.{IsPolynomial-values_of}
use Rattle.reply_switch.proofs.ShortPlaintexts.{product_from}
use Rattle.reply_switch.proofs.opening.write_product.Goals as goal

pub mul_acc-requires-clause-second : goal.mul_acc-requires-clause-second
mul_acc-requires-clause-second c =
    subst (λ (xs : List ℕ). IsPolynomial first_modulus xs) (sym c.values.ensures.values) (IsPolynomial-values_of moduli.Q1 (residues_of first_modulus c.args.key.now))

pub mul_acc-requires-clause-sum : goal.mul_acc-requires-clause-sum
mul_acc-requires-clause-sum c = subst (λ (xs : List ℕ). IsPolynomial first_modulus xs) (sym c.requires.zeros) (IsPolynomial-constant first_modulus 0 (omega arith))

pub returns-clause-product : goal.returns-clause-product
returns-clause-product c =
    product_from c.args.drop c.args.key.now c.args.z.now c.args.out.now c.forward.new.a c.values.result.now c.mul_acc.new.acc c.inverse.new.a c.values.ensures.a_key.size c.requires.zeros
    (c.forward.ensures.values ∙ ap (values_of moduli.Q1) c.write_restored.ensures.residues) c.values.ensures.values c.mul_acc.ensures.sums c.inverse.ensures.polynomial
