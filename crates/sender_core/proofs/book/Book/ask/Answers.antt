use Rattle.std.proofs.Common.{◌<◌, sym, subst, length}
use Rattle.psi_bundle.specs.Histories.{most_entries}
use Rattle.sender_core.specs.Kept.{Contents}
use Rattle.sender_core.specs.States.{contents_of}
use Rattle.psi_bundle.specs.declared.history.Call.TheVariants as Call
use Rattle.psi_bundle.specs.declared.history.Answer.TheVariants.{Seen}
use Rattle.sender_core.proofs.Consistency.{consistent-done}
use Rattle.sender_core.proofs.book.Book.ask.Goals as goal

pub invariant_of-self : goal.invariant_of-self
invariant_of-self g c =
    let free = subst (λ (h : Contents g.row.C.Denot). length h.journal < most_entries) (sym c.self.view_is) c.in_ok-place.ensures.free in
    consistent-done g.C.Cached.contents g.C.Cached.is_under c.ask.result (contents_of c.self.inside.state) (contents_of c.ask.new.self) Call.Ask Seen c.self.invariant free
    (tt, tt) c.ask.ensures.stepped c.ask.ensures.kept
