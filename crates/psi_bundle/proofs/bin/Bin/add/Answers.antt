use Rattle.std.proofs.Common.{List, [], ◌∷◌, ◌++◌, sym, ap, ◌∙◌, subst}
use Rattle.psi_bundle.specs.declared.member.Member.{Member}
use Rattle.psi_bundle.specs.KeptPolynomials.{KeepsPolynomials}
use Rattle.psi_bundle.proofs.BinChanges.{keeps-more}
use Rattle.psi_bundle.proofs.bin.Bin.add.Goals as goal

pub invariant_of-result : goal.invariant_of-result
invariant_of-result c =
    subst (λ (members : List Member). KeepsPolynomials members c.in_ok-polynomials.polynomials)
    (sym (c.in_ok-members.ensures ∙ ap (λ (members : List Member). members ++ c.args.member ∷ []) c.deref.ensures.value))
    (keeps-more c.self.inside.members.items c.args.member c.slots.result c.self.inside.polynomials c.in_ok-polynomials.polynomials c.self.invariant
    (rw c.self.view_is c.requires) c.slots.ensures c.in_ok-polynomials.ensures)
