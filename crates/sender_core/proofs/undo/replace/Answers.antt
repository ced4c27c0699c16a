use Rattle.std.proofs.Common.{ap, slice_set}
use Rattle.sender_core.proofs.UndoLemmas.{replaced-is, back-replaced}
use Rattle.sender_core.proofs.undo.replace.Goals as goal

pub returns-clause-replaced : goal.returns-clause-replaced
returns-clause-replaced g c =
    let v = c.index_mut-bundles.result.now in
    replaced-is c.args.rows.now.items c.args.row c.args.index v _ c.args.shown c.requires.row c.index_mut-bundles.ensures.value (ap (slice_set v.items c.args.index) c.replace-old.ensures.after)

pub returns-clause-back : goal.returns-clause-back
returns-clause-back g c =
    let v = c.index_mut-bundles.result.now in
    back-replaced c.args.rows.now.items c.args.row c.args.index v _ c.requires.row c.index_mut-bundles.ensures.value c.index_mut.result.now c.replace-old.result c.args.shown
    c.args.log.now.items c.reserve.new.self.items c.push_reserved.new.self.items c.requires.index c.index_mut.ensures.value c.replace-old.ensures.value
    (ap (slice_set v.items c.args.index) c.replace-old.ensures.after) c.reserve.ensures.items c.push_reserved.ensures.items
