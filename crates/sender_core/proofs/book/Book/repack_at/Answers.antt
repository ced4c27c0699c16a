use Rattle.std.proofs.Common.{◌<◌, ◌≤◌, ◌≡◌, sym, subst, length}
use Rattle.psi_bundle.specs.declared.history.Call.TheVariants as Call
use Rattle.psi_bundle.specs.Versions.{greatest_stamp}
use Rattle.psi_bundle.specs.Shows.{packed_bins}
use Rattle.psi_bundle.specs.Histories.{most_entries}
use Rattle.sender_core.specs.Kept.{Contents, kept_row, row_of}
use Rattle.sender_core.specs.States.{contents_of}
use Rattle.sender_core.specs.Answers.{answer_of_repack}
use Rattle.sender_core.proofs.Consistency.{ready, consistent-either}
use Rattle.sender_core.proofs.Repacking.{packed-standing}
use Rattle.sender_core.proofs.book.Book.repack_at.Goals as goal

pub repack-requires-clause-ready : goal.repack-requires-clause-ready
repack-requires-clause-ready g c = ready g.C.Cached.contents g.C.Cached.is_under (contents_of c.self.inside.state) c.self.invariant

pub repack-requires-clause-packed : goal.repack-requires-clause-packed
repack-requires-clause-packed g c =
    let packed = subst (λ (k : Contents g.row.C.Denot). greatest_stamp (row_of (kept_row k.rows c.args.row)) ≤ c.args.from → c.args.packed.items ≡ packed_bins k.parameters.capacity (row_of (kept_row k.rows c.args.row))) (sym c.self.view_is) c.requires.packed in
    packed-standing g.C.Cached.contents g.C.Cached.is_under (contents_of c.self.inside.state) c.args.row c.args.from c.args.packed.items c.self.invariant packed

pub invariant_of-self : goal.invariant_of-self
invariant_of-self g c =
    let free = subst (λ (h : Contents g.row.C.Denot). length h.journal < most_entries) (sym c.self.view_is) c.in_ok-place.ensures.free in
    consistent-either g.C.Cached.contents g.C.Cached.is_under c.repack.result (contents_of c.self.inside.state) (contents_of c.repack.new.self) (Call.Repack c.args.row c.args.from) answer_of_repack
    c.self.invariant free (tt, tt) c.repack.ensures.stepped c.repack.ensures.kept
