use Rattle.std.proofs.Common.{◌<◌, ◌≡◌, sym, subst, length, ℕ}
use Rattle.psi_bundle.specs.declared.history.Call.TheVariants as Call
use Rattle.psi_bundle.specs.Shows.{packed_bins}
use Rattle.psi_bundle.specs.Histories.{most_entries}
use Rattle.sender_core.specs.Kept.{Contents, start_of, row_of}
use Rattle.sender_core.specs.States.{contents_of}
use Rattle.sender_core.specs.Answers.{answer_of_repack}
use Rattle.sender_core.specs.Given.{IsViewOf, IsPackedFor}
use Rattle.sender_core.proofs.Consistency.{ready, consistent-either}
use Rattle.sender_core.proofs.Repacking.{packed-for}
use Rattle.sender_core.proofs.book.Book.repack.Goals as goal

pub repack-requires-clause-ready : goal.repack-requires-clause-ready
repack-requires-clause-ready g c = ready g.C.Cached.contents g.C.Cached.is_under (contents_of c.self.inside.state) c.self.invariant

pub repack-requires-clause-packed : goal.repack-requires-clause-packed
repack-requires-clause-packed g c =
    let h : Contents g.row.C.Denot = contents_of c.self.inside.state in
    let view = c.args.view.now in
    let seen = subst (λ (k : Contents g.row.C.Denot). IsViewOf (start_of k) k.journal view) (sym c.self.view_is) c.requires.of_history in
    let packed = subst (λ (k : Contents g.row.C.Denot). c.args.packed.items ≡ packed_bins k.parameters.capacity (row_of view.bundles)) (sym c.self.view_is) c.requires.packed in
    subst (λ (r : ℕ). IsPackedFor h r c.from.result c.args.packed.items) (sym c.row.ensures)
    (subst (λ (from : ℕ). IsPackedFor h view.row from c.args.packed.items) (sym c.from.ensures)
    (packed-for g.C.Cached.contents g.C.Cached.is_under h view c.args.packed.items c.self.invariant seen packed))

pub invariant_of-self : goal.invariant_of-self
invariant_of-self g c =
    let free = subst (λ (h : Contents g.row.C.Denot). length h.journal < most_entries) (sym c.self.view_is) c.in_ok-place.ensures.free in
    consistent-either g.C.Cached.contents g.C.Cached.is_under c.repack.result (contents_of c.self.inside.state) (contents_of c.repack.new.self) (Call.Repack c.row.result c.from.result) answer_of_repack
    c.self.invariant free (tt, tt) c.repack.ensures.stepped c.repack.ensures.kept
