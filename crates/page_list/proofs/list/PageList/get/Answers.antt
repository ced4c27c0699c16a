use Rattle.std.proofs.Common.{◌∙◌, sym, arith}
use Rattle.std.specs.Arc.{arc_value}
use Rattle.page_list.proofs.Paging.{Shows, handle_within, place_behind, slice_get-shown}
use Rattle.page_list.proofs.list.PageList.get.Goals as goal

pub index-requires : goal.index-requires
index-requires g c =
    let seen : Shows arc_value c.self.inside.len c.self.inside.pages.items c.args.self.now = record { paged = c.self.invariant; values = c.self.view_is } in
    omega (arith, handle_within arc_value c.self.inside.len c.self.inside.pages.items c.args.self.now c.args.i seen c.requires)

pub get-requires : goal.get-requires
get-requires g c =
    let seen : Shows arc_value c.self.inside.len c.self.inside.pages.items c.args.self.now = record { paged = c.self.invariant; values = c.self.view_is } in
    rw c.deref-page.ensures (place_behind arc_value c.self.inside.len c.self.inside.pages.items c.args.self.now c.args.i c.index.result.now seen c.requires c.index.ensures)

pub returns : goal.returns
returns g c =
    let seen : Shows arc_value c.self.inside.len c.self.inside.pages.items c.args.self.now = record { paged = c.self.invariant; values = c.self.view_is } in
    slice_get-shown arc_value c.self.inside.len c.self.inside.pages.items c.args.self.now c.args.i c.index.result.now seen c.requires c.index.ensures
    ∙ rw (sym c.deref-page.ensures) c.get.ensures
