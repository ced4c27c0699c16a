use Rattle.std.proofs.Common.{◌≡◌, ◌∙◌, ◌+◌, ap, sym, subst, is_some, length, map, List, ℕ, Vec, Global}
use Rattle.std.specs.List.{fold, sum}
use Rattle.psi_bundle.specs.declared.cached.Shown.{Shown}
use Rattle.psi_bundle.specs.Versions.{placed_at}
use Rattle.sender_core.specs.Kept.{rows_of, bundles_of}
use Rattle.sender_core.specs.States.{contents_of}
use Rattle.sender_core.specs.Shown.{kept_of_rows}
use Rattle.sender_core.proofs.TagMaps.{get_tag}
use Rattle.sender_core.proofs.WouldPut.{would-replace, would-add, would-fill-planes, would-fill-cells}
use Rattle.sender_core.proofs.state.State.would_put.Goals as goal
use Rattle.sender_core.proofs.state.State.would_put.Goals.{else-planes-le-PLANES-via-then-planes-le-PLANES+else-cells-le-CELLS, else-planes-le-PLANES-via-else-planes-le-PLANES}

pub returns-then-contains_key : goal.returns-then-contains_key
returns-then-contains_key g c label =
    would-replace (contents_of c.args.self.now) c.args.tag.now label (ap is_some (get_tag c.args.self.now.labels.entries c.args.tag.now) ∙ sym c.contains_key.ensures ∙ c.if-contains_key.true)

pub returns-then-cells-le-CELLS : goal.returns-then-cells-le-CELLS
returns-then-cells-le-CELLS g c label =
    let rows = c.args.self.now.rows.items in
    let lacks = ap is_some (get_tag c.args.self.now.labels.entries c.args.tag.now) ∙ sym c.contains_key.ensures ∙ c.if-contains_key.false in
    let grown = subst (λ (items : List (Vec (Shown g.row.C.Denot) Global)). (stamp : ℕ) (label : List ℕ)
    → sum (map (λ row. length row) (fold (placed_at c.args.self.now.params.capacity stamp (record { tag = c.args.tag.now; label = label })) (rows_of (kept_of_rows items)) c.list.result.now)) ≡ bundles_of (kept_of_rows items) + c.grown-more.result)
    c.deref.ensures.value c.grown-more.ensures.number in
    let counted = c.bundles.ensures.number ∙ ap (λ (items : List (Vec (Shown g.row.C.Denot) Global)). bundles_of (kept_of_rows items)) c.deref-2.ensures.value in
    would-add (contents_of c.args.self.now) c.args.tag.now label lacks c.list.result.now (c.list.ensures.listed ∙ c.positions-places.ensures.listed) c.bundles.result c.grown-more.result c.from.result c.from-2.result
    grown counted c.from.ensures c.from-2.ensures c.if-planes-le-PLANES.true c.if-cells-le-CELLS.true

pub returns-else-planes-le-PLANES : goal.returns-else-planes-le-PLANES
returns-else-planes-le-PLANES g c label =
    let lacks = ap is_some (get_tag c.args.self.now.labels.entries c.args.tag.now) ∙ sym c.contains_key.ensures ∙ c.if-contains_key.false in
    let grown = subst (λ (items : List (Vec (Shown g.row.C.Denot) Global)). (stamp : ℕ) (label : List ℕ)
    → sum (map (λ row. length row) (fold (placed_at c.args.self.now.params.capacity stamp (record { tag = c.args.tag.now; label = label })) (rows_of (kept_of_rows items)) c.list.result.now)) ≡ bundles_of (kept_of_rows items) + c.grown-more.result)
    c.deref.ensures.value c.grown-more.ensures.number in
    let counted = c.bundles.ensures.number ∙ ap (λ (items : List (Vec (Shown g.row.C.Denot) Global)). bundles_of (kept_of_rows items)) c.deref-2.ensures.value in
    elim c.else-planes-le-PLANES.branch [
      | else-planes-le-PLANES-via-then-planes-le-PLANES+else-cells-le-CELLS w ↦
          would-fill-cells (contents_of c.args.self.now) c.args.tag.now label lacks c.list.result.now (c.list.ensures.listed ∙ c.positions-places.ensures.listed) c.bundles.result c.grown-more.result c.from.result c.from-2.result
          grown counted c.from.ensures c.from-2.ensures w.if-cells-le-CELLS.false
      | else-planes-le-PLANES-via-else-planes-le-PLANES w ↦
          would-fill-planes (contents_of c.args.self.now) c.args.tag.now label lacks c.list.result.now (c.list.ensures.listed ∙ c.positions-places.ensures.listed) c.bundles.result c.grown-more.result c.from.result c.from-2.result
          grown counted c.from.ensures c.from-2.ensures w.if-planes-le-PLANES.false
    ]
