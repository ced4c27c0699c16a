use Rattle.std.proofs.Common.{◌<◌, ℕ, List, sym, subst, length}
use Rattle.psi_bundle.specs.Histories.{AreBytes, most_entries}
use Rattle.sender_core.specs.Kept.{Contents}
use Rattle.sender_core.specs.States.{contents_of}
use Rattle.sender_core.specs.Answers.{answer_of_drop}
use Rattle.psi_bundle.specs.declared.history.Call.TheVariants as Call
use Rattle.sender_core.proofs.Consistency.{ready, consistent-either}
use Rattle.sender_core.proofs.book.Book.drop_tag.Goals as goal

pub drop_tag-requires : goal.drop_tag-requires
drop_tag-requires g c = ready g.C.Cached.contents g.C.Cached.is_under (contents_of c.self.inside.state) c.self.invariant

pub invariant_of-self : goal.invariant_of-self
invariant_of-self g c =
    let free = subst (λ (h : Contents g.row.C.Denot). length h.journal < most_entries) (sym c.self.view_is) c.in_ok-place.ensures.free in
    let tag : AreBytes c.args.tag = subst (λ (bytes : List ℕ). AreBytes bytes) c.tag_bytes.ensures c.are_bytes.ensures in
    consistent-either g.C.Cached.contents g.C.Cached.is_under c.drop_tag.result (contents_of c.self.inside.state) (contents_of c.drop_tag.new.self) (Call.Drop c.args.tag) answer_of_drop c.self.invariant free
    (tt, tag) c.drop_tag.ensures.stepped c.drop_tag.ensures.kept
