use Rattle.std.proofs.Common.{sym, subst}
use Rattle.noise_ledger.specs.Verdicts.{parameters_of}
use Rattle.sender_core.specs.Kept.{IsConsistent}
use Rattle.sender_core.proofs.Consistency.{consistent-empty}
use Rattle.sender_core.proofs.book.Book.open.Goals as goal

pub invariant_of-result : goal.invariant_of-result
invariant_of-result g c =
    subst (IsConsistent g.C.Cached.contents g.C.Cached.is_under) (sym c.in_ok-state.ensures) (consistent-empty g.C.Cached.contents g.C.Cached.is_under (parameters_of c.args.params.now) c.requires)
