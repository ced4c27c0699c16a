use Rattle.std.proofs.Common.{List, sym, ap, ◌∙◌, subst}
use Rattle.psi_bundle.specs.declared.member.Member.{Member}
use Rattle.psi_bundle.specs.Bins.{relabelled}
use Rattle.psi_bundle.specs.KeptPolynomials.{KeepsPolynomials}
use Rattle.psi_bundle.proofs.BinChanges.{keeps-relabelled}
use Rattle.psi_bundle.proofs.bin.Bin.relabel.Goals as goal

pub invariant_of-result : goal.invariant_of-result
invariant_of-result c =
    subst (λ (members : List Member). KeepsPolynomials members c.in_ok-polynomials.polynomials)
    (sym (c.in_ok-members.ensures ∙ ap (λ (members : List Member). relabelled members c.args.tag.now c.args.label) c.deref.ensures.value))
    (keeps-relabelled c.self.inside.members.items c.args.tag.now c.args.label c.self.inside.polynomials c.in_ok-polynomials.polynomials c.self.invariant
    c.in_ok-polynomials.ensures)
