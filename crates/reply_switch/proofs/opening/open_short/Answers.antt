use Rattle.std.proofs.Common.{[], ◌∷◌, List, ℕ, subst, sym, arith}
use Rattle.psi_residue.specs.Numbers.{plain_modulus}
use Rattle.psi_residue.specs.Polynomials.{IsPolynomial}
use Rattle.reply_switch.proofs.ShortPlaintexts.{short_opening-from, short_opening-polynomial}
use Rattle.reply_switch.proofs.opening.open_short.Goals as goal

pub returns-clause-opening : goal.returns-clause-opening
returns-clause-opening c =
    short_opening-from c.args.drop c.args.key.now c.args.z0.now c.args.z1.now c.write_product.new.out c.loop-i.out c.write_product.ensures.product (omega arith)
    (λ k lt. c.loop-i.invariant k (omega (arith, c.requires.c0.size)))

pub returns-clause-plaintext : goal.returns-clause-plaintext
returns-clause-plaintext c =
    subst (λ (xs : List ℕ). IsPolynomial plain_modulus xs) (sym (returns-clause-opening c))
    (short_opening-polynomial c.args.drop c.args.key.now (c.args.z0.now ∷ c.args.z1.now ∷ []))
