use Rattle.std.proofs.Common.{List, ℕ, ap, ◌∙◌, subst, sym}
use Rattle.psi_residue.specs.declared.numbers.Modulus.TheVariants as moduli
use Rattle.psi_residue.specs.Polynomials.{IsPolynomial}
use Rattle.psi_residue.specs.Slots.{packed_list}
use Rattle.negacyclic.specs.Transforms.{values_of}
use Rattle.batching.proofs.Batches.{IsPolynomial-slots_of, values_of-slots_of, packed_list-slots_of}
use Rattle.batching.proofs.slots.unpack.Goals as goal

pub returns-clause-slots : goal.returns-clause-slots
returns-clause-slots c = c.narrow.ensures ∙ c.forward.ensures.values ∙ ap (values_of moduli.T) c.widen.ensures ∙ values_of-slots_of c.args.poly.now

pub returns-clause-plaintext : goal.returns-clause-plaintext
returns-clause-plaintext c = subst (λ (p : List ℕ). IsPolynomial 65537 p) (sym (returns-clause-slots c)) (IsPolynomial-slots_of c.args.poly.now)

pub returns-clause-undone : goal.returns-clause-undone
returns-clause-undone c = ap packed_list (returns-clause-slots c) ∙ packed_list-slots_of c.args.poly.now c.requires.plaintext
