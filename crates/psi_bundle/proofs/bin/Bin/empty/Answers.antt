use Rattle.std.proofs.Common.{List, sym, subst}
use Rattle.psi_bundle.specs.declared.member.Member.{Member}
use Rattle.psi_bundle.specs.KeptPolynomials.{KeepsPolynomials}
use Rattle.psi_bundle.proofs.BinChanges.{keeps-empty}
use Rattle.psi_bundle.proofs.bin.Bin.empty.Goals as goal

pub invariant_of-result : goal.invariant_of-result
invariant_of-result c =
    subst (λ (members : List Member). KeepsPolynomials members c.in_ok-polynomials.polynomials) (sym c.new.ensures.items)
    (keeps-empty c.in_ok-polynomials.polynomials c.in_ok-polynomials.ensures)
