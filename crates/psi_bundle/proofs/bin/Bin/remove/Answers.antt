use Rattle.std.proofs.Common.{List, sym, ap, ◌∙◌, subst}
use Rattle.psi_bundle.specs.declared.member.Member.{Member}
use Rattle.psi_bundle.specs.Bins.{without}
use Rattle.psi_bundle.specs.KeptPolynomials.{KeepsPolynomials}
use Rattle.psi_bundle.proofs.BinChanges.{keeps-less, not_constant, are_roots}
use Rattle.psi_bundle.proofs.bin.Bin.remove.Goals as goal

pub divided-requires-clause-not_constant : goal.divided-requires-clause-not_constant
divided-requires-clause-not_constant c =
    not_constant c.self.inside.members.items c.args.tag.now c.slots.result c.self.inside.polynomials c.self.invariant (rw c.self.view_is c.requires) c.slots.ensures

pub divided-requires-clause-are_roots : goal.divided-requires-clause-are_roots
divided-requires-clause-are_roots c =
    are_roots c.self.inside.members.items c.args.tag.now c.slots.result c.self.inside.polynomials c.self.invariant (rw c.self.view_is c.requires) c.slots.ensures

pub invariant_of-result : goal.invariant_of-result
invariant_of-result c =
    subst (λ (members : List Member). KeepsPolynomials members c.in_ok-polynomials.polynomials)
    (sym (c.in_ok-members.ensures ∙ ap (λ (members : List Member). without members c.args.tag.now) c.deref.ensures.value))
    (keeps-less c.self.inside.members.items c.args.tag.now c.slots.result c.self.inside.polynomials c.in_ok-polynomials.polynomials c.self.invariant
    (rw c.self.view_is c.requires) c.slots.ensures c.in_ok-polynomials.ensures)
