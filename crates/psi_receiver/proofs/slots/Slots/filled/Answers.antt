use Rattle.std.proofs.Common.{List, ℕ, subst, sym}
use Rattle.psi_residue.specs.Polynomials.{IsPolynomial}
use Rattle.psi_residue.proofs.Polynomials.{IsPolynomial-constant}
use Rattle.psi_receiver.proofs.slots.Slots.filled.Goals as goal

pub invariant_of-result : goal.invariant_of-result
invariant_of-result c =
    subst (λ (xs : List ℕ). IsPolynomial 65537 xs) (sym (c.in_ok-vec.ensures.items_if_clones_equal (λ y e. e))) (IsPolynomial-constant 65537 c.args.value c.requires)

pub returns : goal.returns
returns c = c.in_ok-vec.ensures.items_if_clones_equal (λ y e. e)
