use Rattle.std.proofs.Common.{List, ℕ, ap, ◌∙◌, subst, sym}
use Rattle.psi_residue.specs.declared.numbers.Modulus.TheVariants as moduli
use Rattle.psi_residue.specs.Polynomials.{IsPolynomial}
use Rattle.psi_residue.specs.Slots.{slots_of}
use Rattle.negacyclic.specs.Transforms.{polynomial_of}
use Rattle.batching.proofs.Batches.{IsPolynomial-packed_list, polynomial_of-packed_list, slots_of-packed_list}
use Rattle.batching.proofs.slots.pack.Goals as goal

pub returns-clause-packed : goal.returns-clause-packed
returns-clause-packed c =
    c.narrow.ensures ∙ c.inverse.ensures.polynomial ∙ ap (polynomial_of moduli.T) c.widen.ensures ∙ polynomial_of-packed_list c.args.values.now

pub returns-clause-plaintext : goal.returns-clause-plaintext
returns-clause-plaintext c = subst (λ (p : List ℕ). IsPolynomial 65537 p) (sym (returns-clause-packed c)) (IsPolynomial-packed_list c.args.values.now)

pub returns-clause-undone : goal.returns-clause-undone
returns-clause-undone c = ap slots_of (returns-clause-packed c) ∙ slots_of-packed_list c.args.values.now c.requires.plaintexts
