use Rattle.std.proofs.Common.{arith}
use Rattle.sender_core.proofs.UndoLemmas.{appended-is, back-appended, back-same}
use Rattle.sender_core.proofs.undo.append.Goals as goal

pub returns-in_err-push-clause-back : goal.returns-in_err-push-clause-back
returns-in_err-push-clause-back g c =
    back-same c.args.rows.now.items c.args.row 0 c.index_mut-bundles.result.now c.push.new.self c.requires c.index_mut-bundles.ensures.value c.args.log.now.items c.reserve.new.self.items
    c.in_err-push.ensures.items c.reserve.ensures.items

pub returns-clause-appended : goal.returns-clause-appended
returns-clause-appended g c =
    appended-is c.args.rows.now.items c.args.row c.index_mut-bundles.result.now c.push.new.self c.args.shown c.requires c.index_mut-bundles.ensures.value c.in_ok-push.ensures.items

pub returns-clause-back : goal.returns-clause-back
returns-clause-back g c =
    let v = c.index_mut-bundles.result.now in
    back-appended c.args.rows.now.items c.args.row c.len-index.result v c.push.new.self c.requires c.index_mut-bundles.ensures.value c.args.shown
    c.args.log.now.items c.reserve.new.self.items c.push_reserved.new.self.items (omega (arith, c.len-index.ensures, v.ok.0)) c.in_ok-push.ensures.items c.reserve.ensures.items c.push_reserved.ensures.items
