use Rattle.std.proofs.Common.{◌∙◌, ◌≡◌, ap, map, subst, length, List, Vec, Global}
use Rattle.std.proofs.lemmas.Result.{IfOk-weaker}
use Rattle.psi_bundle.specs.declared.cached.Shown.{Shown}
use Rattle.sender_core.specs.Kept.{Kept, Contents, View}
use Rattle.sender_core.specs.Shown.{kept_of_rows}
use Rattle.sender_core.specs.Sights.{with_cached_bins}
use Rattle.sender_core.specs.States.{contents_of}
use Rattle.sender_core.proofs.Consistency.{ready, seen_rows}
use Rattle.sender_core.proofs.book.Book.seen.Goals as goal

pub returns-clause-shown : goal.returns-clause-shown
returns-clause-shown g c =
    let h : Contents g.row.C.Denot = contents_of c.self.inside.state in
    let rows_are : map (map (with_cached_bins g.C.Cached.contents)) (kept_of_rows c.deref.result.now) ≡ c.args.self.now.rows =
    ap (λ (items : List (Vec (Shown g.row.C.Denot) Global)). map (map (with_cached_bins g.C.Cached.contents)) (kept_of_rows items)) c.deref.ensures.value
    ∙ seen_rows g.C.Cached.contents g.C.Cached.is_under h.parameters h.rows c.self.invariant.caches ∙ ap (λ (k : Contents g.row.C.Denot). k.rows) c.self.view_is in
    IfOk-weaker c.of.result _ (λ (s : View g.row.C.Denot). s ≡ record { place = c.args.place; rows = c.args.self.now.rows })
    (λ s e. e ∙ ap (λ (rs : List (List (Kept g.row.C.Denot))). record { place = c.args.place; rows = rs }) rows_are) c.of.ensures

pub returns-clause-rows : goal.returns-clause-rows
returns-clause-rows g c =
    let each = ready g.C.Cached.contents g.C.Cached.is_under (contents_of c.self.inside.state) c.self.invariant in
    subst (λ (h : Contents g.row.C.Denot). length h.rows ≡ h.parameters.rows) c.self.view_is each.each_row
