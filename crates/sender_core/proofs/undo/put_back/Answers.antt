use Rattle.std.proofs.Common.{◌∙◌, ap, sym, refl, arith, length, ◌<◌, Option}
use Rattle.std.proofs.lemmas.List.{length-map}
use Rattle.psi_bundle.specs.declared.cached.Shown.{Shown}
use Rattle.sender_core.specs.Shown.{kept_of_row, kept_of_rows}
use Rattle.sender_core.specs.UndoLogs.{rows_before}
use Rattle.sender_core.proofs.UndoLemmas.{undone-replaced, undone-appended}
use Rattle.sender_core.proofs.undo.put_back.Goals as goal

pub returns-in-Some : goal.returns-in-Some
returns-in-Some g c =
    let change = c.args.change in
    let items = c.args.rows.now.items in
    let within : change.row < length items = omega (arith, c.requires.row, length-map items (λ row. kept_of_row row.items)) in
    undone-replaced items change.row change.index c.index_mut-bundles.result.now _ within c.index_mut-bundles.ensures.value c.in-Some.shown refl
    ∙ ap (λ (b : Option (Shown g.row.C.Denot)). rows_before (record { row = change.row; index = change.index; bundle = b }) (kept_of_rows items)) (sym c.in-Some.is)

pub returns-in-None : goal.returns-in-None
returns-in-None g c =
    let change = c.args.change in
    let items = c.args.rows.now.items in
    let within : change.row < length items = omega (arith, c.requires.row, length-map items (λ row. kept_of_row row.items)) in
    undone-appended items change.row change.index c.index_mut-bundles.result.now _ within c.index_mut-bundles.ensures.value c.truncate.ensures.items
    ∙ ap (λ (b : Option (Shown g.row.C.Denot)). rows_before (record { row = change.row; index = change.index; bundle = b }) (kept_of_rows items)) (sym c.in-None.is)
