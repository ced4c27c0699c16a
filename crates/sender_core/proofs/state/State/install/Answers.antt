use Rattle.std.proofs.Common.{◌∙◌, ap, sym, List, length, ◌<◌, arith}
use Rattle.std.proofs.lemmas.List.{length-map}
use Rattle.std.specs.Arc.{arc_value}
use Rattle.sender_core.specs.Kept.{Kept}
use Rattle.sender_core.specs.States.{contents_of}
use Rattle.sender_core.specs.Tries.{job_of}
use Rattle.sender_core.specs.Shown.{kept_of_row}
use Rattle.sender_core.proofs.Installing.{cache-beside, installed-here}
use Rattle.sender_core.proofs.state.State.install.Goals as goal

pub returns-in_ok-cache-in-None-clause-put_in : goal.returns-in_ok-cache-in-None-clause-put_in
returns-in_ok-cache-in-None-clause-put_in g c =
    let h = contents_of c.args.self.now in
    let rows = c.args.self.now.rows.items in
    let within : c.args.task.now.row < length rows = omega (arith, c.requires.in_range, c.requires.ready.each_row, length-map rows (λ row. kept_of_row row.items)) in
    ap (λ (new : List (List (Kept g.row.C.Denot))). record h { rows = new })
    (cache-beside rows c.args.task.now.row c.args.task.now.index c.index_mut.result.now c.put_cache.new.row c.args.cache (arc_value c.in_ok-cache-in-None.cache) within c.index_mut.ensures.value
    c.put_cache.ensures c.in_ok-cache-in-None.ensures.ok)
    ∙ sym (installed-here h (job_of c.args.task.now) c.args.cache (sym c.in-None.ensures.now))
