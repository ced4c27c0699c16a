use Rattle.std.proofs.Common.{ap, ◌∙◌, List, slice_set}
use Rattle.std.specs.Arc.{arc_value}
use Rattle.std.proofs.lemmas.List.{map-set}
use Rattle.page_list.proofs.shared.with_one.Goals as goal

pub returns : goal.returns
returns g c =
    map-set arc_value c.in_ok-copy.copy.items c.args.i c.args.value
    ∙ ap (λ (values : List g.row.T.Denot). slice_set values c.args.i (arc_value c.args.value)) c.in_ok-copy.ensures
