use Rattle.std.proofs.Common.{◌∙◌, ap, refl, sym, subst, List, ℕ, ◌≤◌, ◌+◌, ◌*◌, length, Vec, Global}
use Rattle.std.specs.FinMap as fin
use Rattle.psi_bundle.specs.declared.cached.Shown.{Shown}
use Rattle.psi_bundle.specs.declared.history.Entry.{Entry}
use Rattle.psi_bundle.specs.declared.history.Call.TheVariants as Call
use Rattle.psi_bundle.specs.declared.history.Answer.TheVariants.{Added, Full}
use Rattle.sender_core.specs.Kept.{bundles_of, version_of}
use Rattle.sender_core.specs.States.{contents_of}
use Rattle.sender_core.specs.Shown.{kept_of_rows}
use Rattle.sender_core.proofs.Counting.{planes-are, cells-are, few-after}
use Rattle.sender_core.proofs.Entering.{entered-after, entered-undone, added-by, full-planes, full-cells}
use Rattle.sender_core.proofs.state.State.add.Goals as goal
use Rattle.sender_core.proofs.state.State.add.Goals.{else-planes-le-PLANES-via-then-planes-le-PLANES+else-cells-le-CELLS, else-planes-le-PLANES-via-else-planes-le-PLANES}

pub bundles-requires : goal.bundles-requires
bundles-requires g c =
    let before = kept_of_rows c.args.self.now.rows.items in
    let three = subst (λ (ps : List ℕ). length ps ≤ 3) (sym c.list.ensures.listed) c.positions-places.ensures.few in
    subst (λ (items : List (Vec (Shown g.row.C.Denot) Global)). bundles_of (kept_of_rows items) ≤ 67) (sym c.deref.ensures.value)
    (few-after c.args.self.now.params.capacity (c.count-stamp.result + 1) (record { tag = c.args.tag; label = c.args.label }) before (kept_of_rows c.place_member.new.rows.items) c.list.result.now
    c.in_ok-log.ensures.fitted c.requires.ready.few_bundles three)

pub returns-in_ok-enter-clause-stepped : goal.returns-in_ok-enter-clause-stepped
returns-in_ok-enter-clause-stepped g c =
    let old = contents_of c.args.self.now in
    let new = contents_of c.enter.new.self in
    let rows = kept_of_rows c.place_member.new.rows.items in
    let labels = fin.insert (version_of old).labels c.args.tag c.args.label in
    let e : Entry = record { call = Call.Put c.args.tag c.args.label; answer = Added } in
    let entered = entered-after old new (contents_of (record c.args.self.now { rows = c.place_member.new.rows; journal = c.reserve.new.self })) labels labels rows e refl refl c.reserve.ensures.items refl c.in_ok-enter.ensures.entered in
    let counted = c.bundles.ensures.number ∙ ap (λ (items : List (Vec (Shown g.row.C.Denot) Global)). bundles_of (kept_of_rows items)) c.deref.ensures.value in
    added-by old new c.count-stamp.result old.rows rows c.list.result.now c.args.tag
    (c.count-stamp.ensures ∙ ap (λ (es : List Entry). length es) c.reserve.ensures.items) refl (c.list.ensures.listed ∙ c.positions-places.ensures.listed) c.in_ok-log.ensures.caches
    c.args.label c.requires.absent c.in_ok-log.ensures.fitted _ _
    (planes-are old.parameters rows c.bundles.result c.from.result counted c.from.ensures)
    (cells-are old.parameters rows c.bundles.result c.from.result c.from-2.result counted c.from.ensures c.from-2.ensures)
    c.if-planes-le-PLANES.true c.if-cells-le-CELLS.true entered

pub returns-else-planes-le-PLANES-clause-stepped : goal.returns-else-planes-le-PLANES-clause-stepped
returns-else-planes-le-PLANES-clause-stepped g c =
    let old = contents_of c.args.self.now in
    let new = contents_of c.write.new.self in
    let rows = kept_of_rows c.place_member.new.rows.items in
    let undone = kept_of_rows c.roll_back.new.rows.items in
    let planes = c.bundles.result * (1 + c.from.result) in
    let cells = planes * (c.from-2.result + 1) in
    let e : Entry = record { call = Call.Put c.args.tag c.args.label; answer = Full planes cells } in
    let entered = entered-undone old new (contents_of (record c.args.self.now { rows = c.roll_back.new.rows; journal = c.reserve.new.self })) undone (c.roll_back.ensures ∙ c.in_ok-log.ensures.back.to) e refl refl c.reserve.ensures.items c.write.ensures in
    let counted = c.bundles.ensures.number ∙ ap (λ (items : List (Vec (Shown g.row.C.Denot) Global)). bundles_of (kept_of_rows items)) c.deref.ensures.value in
    let full_by = full-planes old new c.count-stamp.result old.rows rows c.list.result.now c.args.tag
    (c.count-stamp.ensures ∙ ap (λ (es : List Entry). length es) c.reserve.ensures.items) refl (c.list.ensures.listed ∙ c.positions-places.ensures.listed) c.in_ok-log.ensures.caches
    c.args.label c.requires.absent c.in_ok-log.ensures.fitted planes cells
    (planes-are old.parameters rows c.bundles.result c.from.result counted c.from.ensures)
    (cells-are old.parameters rows c.bundles.result c.from.result c.from-2.result counted c.from.ensures c.from-2.ensures) in
    let full_by_cells = full-cells old new c.count-stamp.result old.rows rows c.list.result.now c.args.tag
    (c.count-stamp.ensures ∙ ap (λ (es : List Entry). length es) c.reserve.ensures.items) refl (c.list.ensures.listed ∙ c.positions-places.ensures.listed) c.in_ok-log.ensures.caches
    c.args.label c.requires.absent c.in_ok-log.ensures.fitted planes cells
    (planes-are old.parameters rows c.bundles.result c.from.result counted c.from.ensures)
    (cells-are old.parameters rows c.bundles.result c.from.result c.from-2.result counted c.from.ensures c.from-2.ensures) in
    elim c.else-planes-le-PLANES.branch [
      | else-planes-le-PLANES-via-then-planes-le-PLANES+else-cells-le-CELLS w ↦ full_by_cells w.if-cells-le-CELLS.false entered
      | else-planes-le-PLANES-via-else-planes-le-PLANES w ↦ full_by w.if-planes-le-PLANES.false entered
    ]
