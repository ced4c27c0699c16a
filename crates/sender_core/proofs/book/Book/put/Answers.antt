use Rattle.std.proofs.Common.{◌∙◌, ◌*◌, ◌<◌, ℕ, List, ap, sym, subst, length}
use Rattle.psi_bundle.specs.Histories.{AreBytes, most_entries}
use Rattle.sender_core.specs.Kept.{Contents}
use Rattle.sender_core.specs.States.{contents_of}
use Rattle.sender_core.specs.Answers.{answer_of_put}
use Rattle.psi_bundle.specs.declared.history.Call.TheVariants as Call
use Rattle.sender_core.proofs.Consistency.{ready, consistent-either}
use Rattle.sender_core.proofs.book.Book.put.Goals as goal

pub put-requires : goal.put-requires
put-requires g c = ready g.C.Cached.contents g.C.Cached.is_under (contents_of c.self.inside.state) c.self.invariant

pub invariant_of-self : goal.invariant_of-self
invariant_of-self g c =
    let free = subst (λ (h : Contents g.row.C.Denot). length h.journal < most_entries) (sym c.self.view_is) c.in_ok-place.ensures.free in
    let label : AreBytes c.args.label = subst (λ (bytes : List ℕ). AreBytes bytes) c.bytes.ensures c.are_bytes-2.ensures in
    let tag : AreBytes c.args.tag = subst (λ (bytes : List ℕ). AreBytes bytes) c.tag_bytes.ensures c.are_bytes.ensures in
    consistent-either g.C.Cached.contents g.C.Cached.is_under c.put.result (contents_of c.self.inside.state) (contents_of c.put.new.self) (Call.Put c.args.tag c.args.label) answer_of_put c.self.invariant free
    (c.requires ∙ ap (λ (h : Contents g.row.C.Denot). 10 * h.parameters.units) (sym c.self.view_is), (tag, label)) c.put.ensures.stepped c.put.ensures.kept
