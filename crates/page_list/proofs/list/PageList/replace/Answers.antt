use Rattle.std.proofs.Common.{◌≡◌, ◌/◌, ◌%◌, List, Global, map, ap, ◌∙◌, arith, set}
use Rattle.std.specs.declared.sync.Arc.{Arc}
use Rattle.std.specs.Arc.{arc_value}
use Rattle.page_list.proofs.Paging.{Shows, handle_within, place_behind, Shows-replaced}
use Rattle.page_list.proofs.list.PageList.replace.Goals as goal

pub index-requires : goal.index-requires
index-requires g c =
    let seen : Shows arc_value c.self.inside.len c.self.inside.pages.items c.args.self.now = record { paged = c.self.invariant; values = c.self.view_is } in
    omega (arith, handle_within arc_value c.self.inside.len c.self.inside.pages.items c.args.self.now c.args.i seen c.requires)

pub replace-requires : goal.replace-requires
replace-requires g c =
    let seen : Shows arc_value c.self.inside.len c.self.inside.pages.items c.args.self.now = record { paged = c.self.invariant; values = c.self.view_is } in
    rw c.deref-old.ensures (place_behind arc_value c.self.inside.len c.self.inside.pages.items c.args.self.now c.args.i c.index.result.now seen c.requires c.index.ensures)

pub with_one-requires : goal.with_one-requires
with_one-requires g c =
    let seen : Shows arc_value c.self.inside.len c.self.inside.pages.items c.args.self.now = record { paged = c.self.invariant; values = c.self.view_is } in
    rw c.deref.ensures.value (handle_within arc_value c.self.inside.len c.self.inside.pages.items c.args.self.now c.args.i seen c.requires)

-- the new pages show the list with the value replaced
replaced : (g : _) (c : goal.In_ok-pages g) → Shows arc_value c.self.inside.len c.in_ok-pages.pages.items (set c.args.self.now c.args.i (arc_value c.args.value))
replaced g c =
    let seen : Shows arc_value c.self.inside.len c.self.inside.pages.items c.args.self.now = record { paged = c.self.invariant; values = c.self.view_is } in
    let page : arc_value c.in_ok-page.page ≡ set (arc_value c.index.result.now) (c.args.i % 64) (arc_value c.args.value)
    = c.in_ok-page.ensures.ok ∙ c.in_ok-replace.ensures ∙ ap (λ (values : List g.row.V.Denot). set values (c.args.i % 64) (arc_value c.args.value)) c.deref-old.ensures in
    let pages : map arc_value c.in_ok-pages.pages.items ≡ set (map arc_value c.self.inside.pages.items) (c.args.i / 64) (arc_value c.in_ok-page.page)
    = c.in_ok-pages.ensures ∙ ap (λ (handles : List (Arc (List g.row.V.Denot) Global)). set (map arc_value handles) (c.args.i / 64) (arc_value c.in_ok-page.page)) c.deref.ensures.value in
    Shows-replaced arc_value c.self.inside.len c.self.inside.pages.items c.in_ok-pages.pages.items c.args.self.now (arc_value c.in_ok-page.page) c.args.i
    c.index.result.now (arc_value c.args.value) seen c.requires c.index.ensures page pages

pub invariant_of-result : goal.invariant_of-result
invariant_of-result g c = (replaced g c).paged

pub returns : goal.returns
returns g c = (replaced g c).values
