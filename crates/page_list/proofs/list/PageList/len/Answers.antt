use Rattle.std.proofs.Common.{sym}
use Rattle.std.specs.Arc.{arc_value}
use Rattle.page_list.proofs.Paging.{length-shown}
use Rattle.page_list.proofs.list.PageList.len.Goals as goal

pub returns : goal.returns
returns g c =
    sym (length-shown arc_value c.self.inside.len c.self.inside.pages.items c.args.self.now (record { paged = c.self.invariant; values = c.self.view_is }))
