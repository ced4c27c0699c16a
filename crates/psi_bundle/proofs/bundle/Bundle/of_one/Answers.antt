use Rattle.std.proofs.Common.{List, IsTrue, sym, subst, arith}
use Rattle.psi_bundle.specs.declared.member.Member.{Member}
use Rattle.psi_bundle.specs.Bins.{accepts, bin_at}
use Rattle.psi_bundle.proofs.FirstFit.{empty-accepts}
use Rattle.psi_bundle.proofs.bundle.Bundle.of_one.Goals as goal

pub add-requires-clause-accepted : goal.add-requires-clause-accepted
add-requires-clause-accepted c =
    subst (λ (bins : List (List Member)). IsTrue (accepts 1 (bin_at bins c.args.bin) c.args.member.tag)) (sym c.in_ok-empty.ensures)
    (empty-accepts 1 c.args.bin c.args.member.tag (omega arith) c.requires)
